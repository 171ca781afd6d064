-- Worked values of the machine: two buffers, two readers, at most eight blocks.
use Rattle.std.specs.Prelude.{ℕ, zero, suc, true, false, List, [], ◌∷◌, refl}
use Rattle.std.proofs.Common.{inl, inr, arith}
use Rattle.ring_core.specs.Machine.{Machine, Reader, Phase, Event, Answer, Holds, Does, at_first}

abbrev pair : (c : ℕ) (p : Phase) (d : ℕ) (q : Phase) → List Reader
pair c p d q = record { cleared = c; phase = p } ∷ record { cleared = d; phase = q } ∷ []

-- the first block is sealed, reader 0 holds it
abbrev first_out : Machine ℕ
first_out = record { sealed = 70 ∷ []; writing = false; low = 0 ∷ 0 ∷ []; readers = pair 0 Phase.Out 0 Phase.Ready }

-- two blocks are sealed, reader 0 has read the first and not cleared it, reader 1 has cleared it
abbrev full : Machine ℕ
full = record { sealed = 70 ∷ 71 ∷ []; writing = false; low = 0 ∷ 0 ∷ []; readers = pair 0 Phase.Read 1 Phase.Ready }

-- reader 0 cleared it too
abbrev cleared : Machine ℕ
cleared = record {
  sealed = 70 ∷ 71 ∷ [];
  writing = false;
  low = 0 ∷ 0 ∷ [];
  readers =
      pair 1 Phase.Ready 1 Phase.Ready;
}

abbrev looked : Machine ℕ
looked = record cleared { low = 1 ∷ 0 ∷ [] }

abbrev retired : Machine ℕ
retired = record {
  sealed = 70 ∷ 71 ∷ [];
  writing = true;
  low = 1 ∷ 1 ∷ [];
  readers =
      pair 1 Phase.Ready 1 Phase.Retired;
}

takes_first : Does 2 8 (at_first ℕ 2) Event.WriterTake (Answer.Taken 0) (record (at_first ℕ 2) { writing = true })
takes_first = inr (inr (inr (refl, (λ e. omega arith), (λ i h. omega arith), refl, refl)))

seals_first : Does 2 8 (record (at_first ℕ 2) { writing = true }) (Event.Seal 70) (Answer.Sealed 0)
    (record (at_first ℕ 2) { sealed = 70 ∷ [] })
seals_first = inl (refl, refl, refl)

busy : Does 2 8 first_out (Event.ReaderTake 1) (Answer.Busy 0 0) first_out
busy = inr (inl (_, 0, refl, inl refl, omega arith, (_, refl, refl, refl), refl, refl))

is_full : Does 2 8 full (Event.Look 0) (Answer.Full 0 0) full
is_full = inr (inl (_, refl, (λ e. cc), omega arith, refl, refl))

waits : Does 2 8 full Event.WriterTake Answer.Refused full
waits = inr (inr (inl (refl, (λ e. omega arith), (0, omega arith, omega arith), (refl, refl))))

clears : Does 2 8 full (Event.Clear 0) (Answer.Cleared 1) cleared
clears = inl (_, refl, refl, refl, refl)

sees_room : Does 2 8 cleared (Event.Look 0) (Answer.Room 0 1) looked
sees_room = inr (inr (inl (_, refl, (λ e. cc), omega arith, refl, refl)))

sees_retired : Does 2 8 retired (Event.Look 1) (Answer.RoomRetired 1)
    (record retired { low = 1 ∷ 18446744073709551615 ∷ [] })
sees_retired = inl (_, refl, refl, refl, refl)

nobody_out : (j : ℕ) → ¬ Holds cleared j 1
nobody_out zero (r, is_reader, out, count) = cc
nobody_out (suc zero) (r, is_reader, out, count) = cc
nobody_out (suc (suc j)) (r, is_reader, out, count) = cc

gets : Does 2 8 cleared (Event.ReaderTake 1) (Answer.Got 1 71)
    (record cleared { readers = pair 1 Phase.Ready 1 Phase.Out })
gets = inr (inr (inl (_, 71, refl, inl refl, nobody_out, refl, refl, refl)))

spent : Does 2 2 cleared Event.WriterTake (Answer.Spent 2) cleared
spent = inr (inl (refl, refl, refl, refl))

no_such : Does 2 8 cleared (Event.Look 2) Answer.Refused cleared
no_such = inr (inr (inr (omega arith, (refl, refl))))
