-- What pieces make that are written one after another.
use Rattle.std.proofs.Common.{◌≡◌, ℕ, ◌+◌, ◌-◌, ◌<◌, List, [], ◌++◌, length, take, drop, Option, Some, None, ap, sym, subst, refl, ◌∙◌, append_assoc, append-nil, length-append, arith}
use Rattle.std.specs.List.{flat_map, range_with_len}
use Rattle.std.specs.Io.KnownBytes.{append_known}
use Rattle.psr_base.specs.Count.{Rose}
use Rattle.psr_base.specs.Written.{SinkSeen, WroteAll, WroteFront, room_after, first_pieces}
use Rattle.psr_base.proofs.Laws.{append_known-append_known, room_after-room_after}
use Rattle.psr_base.proofs.Pieces.{take-append-rest}
use Rattle.psr_base.proofs.Ranges.{flat_map_range_more, flat_map_range_front}

append_known-nothing : (written : Option (List ℕ)) → written ≡ append_known written []
append_known-nothing None = refl
append_known-nothing (Some xs) = ap Some (sym (append-nil xs))

room_after-nothing : (room : Option ℕ) → room ≡ room_after 0 room
room_after-nothing None = refl
room_after-nothing (Some room) = ap Some (omega arith)

pub WroteAll-nothing : (seen : SinkSeen) → WroteAll [] seen seen
WroteAll-nothing seen =
    record { written = append_known-nothing seen.written; room = room_after-nothing seen.room; faults = refl }

-- the room that two pieces took
room_after-pieces : (xs ys : List ℕ) (old middle new : Option ℕ) → middle ≡ room_after (length xs) old →
    new ≡ room_after (length ys) middle → new ≡ room_after (length (xs ++ ys)) old
room_after-pieces xs ys old middle new first second =
    second ∙ ap (room_after (length ys)) first ∙ room_after-room_after (length xs) (length ys) old
    ∙ ap (λ (n : ℕ). room_after n old) (sym (length-append xs ys))

-- what two pieces make
written-pieces : (xs ys : List ℕ) (old middle new : Option (List ℕ)) → middle ≡ append_known old xs →
    new ≡ append_known middle ys → new ≡ append_known old (xs ++ ys)
written-pieces xs ys old middle new first second = second ∙ ap (λ (w : Option (List ℕ)). append_known w ys) first
    ∙ append_known-append_known old xs ys

pub WroteAll-joins : (xs ys : List ℕ) (old middle new : SinkSeen) → WroteAll xs old middle → WroteAll ys middle new →
    WroteAll (xs ++ ys) old new
WroteAll-joins xs ys old middle new first second = record {
  written = written-pieces xs ys old.written middle.written new.written first.written second.written;
  room = room_after-pieces xs ys old.room middle.room new.room first.room second.room;
  faults = second.faults ∙ first.faults;
}

pub WroteFront-stops : (xs ys : List ℕ) (old middle new : SinkSeen) → WroteAll xs old middle →
    WroteFront ys middle new → WroteFront (xs ++ ys) old new
WroteFront-stops xs ys old middle new first second = record {
  front = xs ++ second.front;
  rest = second.rest;
  splits = ap (λ (t : List ℕ). xs ++ t) second.splits ∙ sym (append_assoc xs second.front second.rest);
  missing = second.missing;
  written = written-pieces xs second.front old.written middle.written new.written first.written second.written;
  room = room_after-pieces xs second.front old.room middle.room new.room first.room second.room;
  short = λ room known.
      let less : room - length xs < length ys =
      second.short (room - length xs) (first.room ∙ ap (room_after (length xs)) known) in
      omega (arith, less, length-append xs ys);
  rose = let P : ℕ → Type 0 = λ n. Rose n new.faults in subst P first.faults second.rose;
  count = omega (arith, first.faults, second.count);
}

pub WroteFront-breaks_off : (xs ys : List ℕ) (old new : SinkSeen) → WroteFront xs old new →
    WroteFront (xs ++ ys) old new
WroteFront-breaks_off xs ys old new first = record {
  front = first.front;
  rest = first.rest ++ ys;
  splits = ap (λ (t : List ℕ). t ++ ys) first.splits ∙ append_assoc first.front first.rest ys;
  missing = omega (arith, first.missing, length-append first.rest ys);
  written = first.written;
  room = first.room;
  short = λ room known. let less : room < length xs = first.short room known in
      omega (arith, less, length-append xs ys);
  rose = first.rose;
  count = first.count;
}

pub one_piece_more : (piece : ℕ → List ℕ) (i : ℕ) → first_pieces piece (i + 1) ≡ first_pieces piece i ++ piece i
one_piece_more piece i = flat_map_range_more piece 0 i i (omega arith)

pub WroteAll-one_more : (piece : ℕ → List ℕ) (i : ℕ) (old middle new : SinkSeen) →
    WroteAll (first_pieces piece i) old middle → WroteAll (piece i) middle new →
    WroteAll (first_pieces piece (i + 1)) old new
WroteAll-one_more piece i old middle new first second =
    let P : List ℕ → Type 0 = λ text. WroteAll text old new in
    subst P (sym (one_piece_more piece i)) (WroteAll-joins (first_pieces piece i) (piece i) old middle new first second)

pub WroteFront-in_loop : (piece : ℕ → List ℕ) (i n : ℕ) (old middle new : SinkSeen) → i < n →
    WroteAll (first_pieces piece i) old middle → WroteFront (piece i) middle new →
    WroteFront (first_pieces piece n) old new
WroteFront-in_loop piece i n old middle new within first second =
    let P : List ℕ → Type 0 = λ text. WroteFront text old new in
    let rest = flat_map piece (drop (i + 1) (range_with_len 0 n)) in
    let whole = flat_map_range_front piece 0 (i + 1) n (omega arith)
    ∙ ap (λ (t : List ℕ). t ++ rest) (one_piece_more piece i) in
    subst P (sym whole) (WroteFront-breaks_off (first_pieces piece i ++ piece i) rest old new
    (WroteFront-stops (first_pieces piece i) (piece i) old middle new first second))

-- the first t bytes were written, and then n of the rest
pub WroteAll-next : (t n : ℕ) (bytes : List ℕ) (old middle new : SinkSeen) → WroteAll (take t bytes) old middle →
    WroteAll (take n (take (length bytes - t) (drop t bytes))) middle new → WroteAll (take (t + n) bytes) old new
WroteAll-next t n bytes old middle new first second =
    let P : List ℕ → Type 0 = λ text. WroteAll text old new in
    subst P (take-append-rest t n bytes)
    (WroteAll-joins (take t bytes) (take n (take (length bytes - t) (drop t bytes))) old middle new first second)
