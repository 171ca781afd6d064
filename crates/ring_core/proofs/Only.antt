-- The table allows one answer alone, and one state after it.
use Rattle.std.specs.Prelude.{◌≡◌, ℕ, ◌+◌, ◌⊎◌, true, false, Some, slice_get}
use Rattle.std.proofs.Common.{inl, inr, arith, sym, ap, subst, ◌∙◌}
use Rattle.std.proofs.lemmas.Option.{slice_get_within}
use Rattle.ring_core.specs.Machine.{Machine, Reader, Phase, Event, Answer, Does, IsReader, IsRefused, IsIdle, Holds, with_reader}
use Rattle.ring_core.specs.Sound.{IsSound}

module _ {L : Type 0} where
  one_reader : (m : Machine L) (i : ℕ) (r q : Reader) → IsReader m i r → IsReader m i q → q ≡ r
  one_reader m i r q is is' = let e : Some q ≡ Some r = sym is' ∙ is in cc

  -- an answer to a reader for which P holds, and a refusal to any other
  two_ways : (m : Machine L) (i : ℕ) (P : Reader → Type 0) (f : Reader → Answer L) (g : Reader → Machine L)
      (a : Answer L) (m' : Machine L) (b : Answer L) (m'' : Machine L) →
      ((r : Reader) × (IsReader m i r) × (P r) × (a ≡ f r) × (m' ≡ g r)) ⊎ ((r : Reader) → IsReader m i r → ¬ P r)
      × (IsRefused m a m') →
      ((r : Reader) × (IsReader m i r) × (P r) × (b ≡ f r) × (m'' ≡ g r)) ⊎ ((r : Reader) → IsReader m i r → ¬ P r)
      × (IsRefused m b m'') →
      (b ≡ a) × (m'' ≡ m')
  two_ways m i P f g a m' b m'' (inl (r, is, p, x, y)) (inl (q, is', p', x', y')) =
      let e = one_reader m i r q is is' in (x' ∙ (ap f e ∙ sym x), y' ∙ (ap g e ∙ sym y))
  two_ways m i P f g a m' b m'' (inl (r, is, p, x, y)) (inr (never', x')) = absurd (never' r is p)
  two_ways m i P f g a m' b m'' (inr (never, x)) (inl (q, is', p', x', y')) = absurd (never q is' p')
  two_ways m i P f g a m' b m'' (inr (never, x)) (inr (never', x')) = (x'.0 ∙ sym x.0, x'.1 ∙ sym x.1)

  only_look : (buffers limit : ℕ) (m : Machine L) (i : ℕ) (a : Answer L) (m' : Machine L) (b : Answer L)
      (m'' : Machine L) → IsSound buffers limit m → Does buffers limit m (Event.Look i) a m' →
      Does buffers limit m (Event.Look i) b m'' → (b ≡ a) × (m'' ≡ m')
  only_look buffers limit m i a m' b m'' s (inl (r, is, gone, x, y)) (inl (q, is', gone', x', y')) = let e =
      one_reader m i r q is is' in (cc, cc)
  only_look buffers limit m i a m' b m'' s (inl (r, is, gone, x, y))
      (inr (inl (q, is', registered', below', x', y'))) =
      absurd (registered' (ap (λ (t : Reader). t.phase) (one_reader m i r q is is') ∙ gone))
  only_look buffers limit m i a m' b m'' s (inl (r, is, gone, x, y))
      (inr (inr (inl (q, is', registered', above', x', y')))) =
      absurd (registered' (ap (λ (t : Reader). t.phase) (one_reader m i r q is is') ∙ gone))
  only_look buffers limit m i a m' b m'' s (inl (r, is, gone, x, y)) (inr (inr (inr (none', x')))) =
      absurd (let h = slice_get_within m.readers i r is in omega arith)
  only_look buffers limit m i a m' b m'' s (inr (inl (r, is, registered, below, x, y)))
      (inl (q, is', gone', x', y')) = absurd (registered
      (ap (λ (t : Reader). t.phase) (sym (one_reader m i r q is is')) ∙ gone'))
  only_look buffers limit m i a m' b m'' s (inr (inl (r, is, registered, below, x, y)))
      (inr (inl (q, is', registered', below', x', y'))) = let e = one_reader m i r q is is' in (cc, cc)
  only_look buffers limit m i a m' b m'' s (inr (inl (r, is, registered, below, x, y)))
      (inr (inr (inl (q, is', registered', above', x', y')))) =
      absurd (let e = ap (λ (t : Reader). t.cleared) (one_reader m i r q is is') in omega arith)
  only_look buffers limit m i a m' b m'' s (inr (inl (r, is, registered, below, x, y)))
      (inr (inr (inr (none', x')))) = absurd (let h = slice_get_within m.readers i r is in omega arith)
  only_look buffers limit m i a m' b m'' s (inr (inr (inl (r, is, registered, above, x, y))))
      (inl (q, is', gone', x', y')) = absurd (registered
      (ap (λ (t : Reader). t.phase) (sym (one_reader m i r q is is')) ∙ gone'))
  only_look buffers limit m i a m' b m'' s (inr (inr (inl (r, is, registered, above, x, y))))
      (inr (inl (q, is', registered', below', x', y'))) =
      absurd (let e = ap (λ (t : Reader). t.cleared) (one_reader m i r q is is') in omega arith)
  only_look buffers limit m i a m' b m'' s (inr (inr (inl (r, is, registered, above, x, y))))
      (inr (inr (inl (q, is', registered', above', x', y')))) = let e = one_reader m i r q is is' in (cc, cc)
  only_look buffers limit m i a m' b m'' s (inr (inr (inl (r, is, registered, above, x, y))))
      (inr (inr (inr (none', x')))) = absurd (let h = slice_get_within m.readers i r is in omega arith)
  only_look buffers limit m i a m' b m'' s (inr (inr (inr (none, x)))) (inl (q, is', gone', x', y')) =
      absurd (let h = slice_get_within m.readers i q is' in omega arith)
  only_look buffers limit m i a m' b m'' s (inr (inr (inr (none, x))))
      (inr (inl (q, is', registered', below', x', y'))) =
      absurd (let h = slice_get_within m.readers i q is' in omega arith)
  only_look buffers limit m i a m' b m'' s (inr (inr (inr (none, x))))
      (inr (inr (inl (q, is', registered', above', x', y')))) =
      absurd (let h = slice_get_within m.readers i q is' in omega arith)
  only_look buffers limit m i a m' b m'' s (inr (inr (inr (none, x)))) (inr (inr (inr (none', x')))) =
      (x'.0 ∙ sym x.0, x'.1 ∙ sym x.1)

  only_take : (buffers limit : ℕ) (m : Machine L) (a : Answer L) (m' : Machine L) (b : Answer L) (m'' : Machine L) →
      IsSound buffers limit m → Does buffers limit m Event.WriterTake a m' →
      Does buffers limit m Event.WriterTake b m'' → (b ≡ a) × (m'' ≡ m')
  only_take buffers limit m a m' b m'' s (inl (writing, x)) (inl (writing', x')) = (x'.0 ∙ sym x.0, x'.1 ∙ sym x.1)
  only_take buffers limit m a m' b m'' s (inl (writing, x)) (inr (inl (idle', spent', x', y'))) =
      absurd (let e : true ≡ false = sym writing ∙ idle' in cc)
  only_take buffers limit m a m' b m'' s (inl (writing, x)) (inr (inr (inl (idle', more', lacks', x')))) =
      absurd (let e : true ≡ false = sym writing ∙ idle' in cc)
  only_take buffers limit m a m' b m'' s (inl (writing, x)) (inr (inr (inr (idle', more', room', x', y')))) =
      absurd (let e : true ≡ false = sym writing ∙ idle' in cc)
  only_take buffers limit m a m' b m'' s (inr (inl (idle, spent, x, y))) (inl (writing', x')) =
      absurd (let e : true ≡ false = sym writing' ∙ idle in cc)
  only_take buffers limit m a m' b m'' s (inr (inl (idle, spent, x, y))) (inr (inl (idle', spent', x', y'))) =
      (x' ∙ sym x, y' ∙ sym y)
  only_take buffers limit m a m' b m'' s (inr (inl (idle, spent, x, y)))
      (inr (inr (inl (idle', more', lacks', x')))) = absurd (more' spent)
  only_take buffers limit m a m' b m'' s (inr (inl (idle, spent, x, y)))
      (inr (inr (inr (idle', more', room', x', y')))) = absurd (more' spent)
  only_take buffers limit m a m' b m'' s (inr (inr (inl (idle, more, lacks, x)))) (inl (writing', x')) =
      absurd (let e : true ≡ false = sym writing' ∙ idle in cc)
  only_take buffers limit m a m' b m'' s (inr (inr (inl (idle, more, lacks, x))))
      (inr (inl (idle', spent', x', y'))) = absurd (more spent')
  only_take buffers limit m a m' b m'' s (inr (inr (inl (idle, more, lacks, x))))
      (inr (inr (inl (idle', more', lacks', x')))) = (x'.0 ∙ sym x.0, x'.1 ∙ sym x.1)
  only_take buffers limit m a m' b m'' s (inr (inr (inl (idle, more, lacks, x))))
      (inr (inr (inr (idle', more', room', x', y')))) =
      absurd (let h = room' lacks.0 lacks.1 in let g = lacks.2 in omega arith)
  only_take buffers limit m a m' b m'' s (inr (inr (inr (idle, more, room, x, y)))) (inl (writing', x')) =
      absurd (let e : true ≡ false = sym writing' ∙ idle in cc)
  only_take buffers limit m a m' b m'' s (inr (inr (inr (idle, more, room, x, y))))
      (inr (inl (idle', spent', x', y'))) = absurd (more spent')
  only_take buffers limit m a m' b m'' s (inr (inr (inr (idle, more, room, x, y))))
      (inr (inr (inl (idle', more', lacks', x')))) = absurd
      (let h = room lacks'.0 lacks'.1 in let g = lacks'.2 in omega arith)
  only_take buffers limit m a m' b m'' s (inr (inr (inr (idle, more, room, x, y))))
      (inr (inr (inr (idle', more', room', x', y')))) = (x' ∙ sym x, y' ∙ sym y)

  only_seal : (buffers limit : ℕ) (m : Machine L) (label : L) (a : Answer L) (m' : Machine L) (b : Answer L)
      (m'' : Machine L) → IsSound buffers limit m → Does buffers limit m (Event.Seal label) a m' →
      Does buffers limit m (Event.Seal label) b m'' → (b ≡ a) × (m'' ≡ m')
  only_seal buffers limit m label a m' b m'' s (inl (writing, x, y)) (inl (writing', x', y')) = (x' ∙ sym x, y' ∙ sym y)
  only_seal buffers limit m label a m' b m'' s (inl (writing, x, y)) (inr (idle', x')) =
      absurd (let e : true ≡ false = sym writing ∙ idle' in cc)
  only_seal buffers limit m label a m' b m'' s (inr (idle, x)) (inl (writing', x', y')) =
      absurd (let e : true ≡ false = sym writing' ∙ idle in cc)
  only_seal buffers limit m label a m' b m'' s (inr (idle, x)) (inr (idle', x')) = (x'.0 ∙ sym x.0, x'.1 ∙ sym x.1)

  only_read : (buffers limit : ℕ) (m : Machine L) (i : ℕ) (a : Answer L) (m' : Machine L) (b : Answer L)
      (m'' : Machine L) → IsSound buffers limit m → Does buffers limit m (Event.ReaderTake i) a m' →
      Does buffers limit m (Event.ReaderTake i) b m'' → (b ≡ a) × (m'' ≡ m')
  only_read buffers limit m i a m' b m'' s (inl (r, is, idle, none, x, y)) (inl (q, is', idle', none', x', y')) =
      let e = one_reader m i r q is is' in (cc, y' ∙ sym y)
  only_read buffers limit m i a m' b m'' s (inl (r, is, idle, none, x, y))
      (inr (inl (q, k, is', idle', left', holds', x', y'))) =
      absurd (let c = ap (λ (t : Reader). t.cleared) (one_reader m i r q is is') in omega arith)
  only_read buffers limit m i a m' b m'' s (inl (r, is, idle, none, x, y))
      (inr (inr (inl (q, l', is', idle', nobody', at', x', y')))) =
      absurd (let c = ap (λ (t : Reader). t.cleared) (one_reader m i r q is is') in
      let h = slice_get_within m.sealed q.cleared l' at' in omega arith)
  only_read buffers limit m i a m' b m'' s (inl (r, is, idle, none, x, y)) (inr (inr (inr (never', x')))) =
      absurd (never' r is idle)
  only_read buffers limit m i a m' b m'' s (inr (inl (r, j, is, idle, left, holds, x, y)))
      (inl (q, is', idle', none', x', y')) = absurd (let c =
      ap (λ (t : Reader). t.cleared) (one_reader m i r q is is') in omega arith)
  only_read buffers limit m i a m' b m'' s (inr (inl (r, j, is, idle, left, holds, x, y)))
      (inr (inl (q, k, is', idle', left', holds', x', y'))) = let e = one_reader m i r q is is' in
      let P : ℕ → Type 0 = λ n. Holds m k n in let one : j ≡ k =
      s.alone j k r.cleared holds (subst P (ap (λ (t : Reader). t.cleared) e) holds') in (cc, y' ∙ sym y)
  only_read buffers limit m i a m' b m'' s (inr (inl (r, j, is, idle, left, holds, x, y)))
      (inr (inr (inl (q, l', is', idle', nobody', at', x', y')))) =
      absurd (let c = ap (λ (t : Reader). t.cleared) (one_reader m i r q is is') in
      let P : ℕ → Type 0 = λ n. Holds m j n in nobody' j (subst P (sym c) holds))
  only_read buffers limit m i a m' b m'' s (inr (inl (r, j, is, idle, left, holds, x, y)))
      (inr (inr (inr (never', x')))) = absurd (never' r is idle)
  only_read buffers limit m i a m' b m'' s (inr (inr (inl (r, l, is, idle, nobody, at, x, y))))
      (inl (q, is', idle', none', x', y')) = absurd (let c =
      ap (λ (t : Reader). t.cleared) (one_reader m i r q is is') in
      let h = slice_get_within m.sealed r.cleared l at in omega arith)
  only_read buffers limit m i a m' b m'' s (inr (inr (inl (r, l, is, idle, nobody, at, x, y))))
      (inr (inl (q, k, is', idle', left', holds', x', y'))) =
      absurd (let c = ap (λ (t : Reader). t.cleared) (one_reader m i r q is is') in
      let P : ℕ → Type 0 = λ n. Holds m k n in nobody k (subst P c holds'))
  only_read buffers limit m i a m' b m'' s (inr (inr (inl (r, l, is, idle, nobody, at, x, y))))
      (inr (inr (inl (q, l', is', idle', nobody', at', x', y')))) = let e = one_reader m i r q is is' in
      let p : Some l ≡ Some l' = sym at ∙ (ap (λ (t : Reader). slice_get m.sealed t.cleared) (sym e) ∙ at') in
      let one : l ≡ l' = cc in (cc, cc)
  only_read buffers limit m i a m' b m'' s (inr (inr (inl (r, l, is, idle, nobody, at, x, y))))
      (inr (inr (inr (never', x')))) = absurd (never' r is idle)
  only_read buffers limit m i a m' b m'' s (inr (inr (inr (never, x)))) (inl (q, is', idle', none', x', y')) =
      absurd (never q is' idle')
  only_read buffers limit m i a m' b m'' s (inr (inr (inr (never, x))))
      (inr (inl (q, k, is', idle', left', holds', x', y'))) = absurd (never q is' idle')
  only_read buffers limit m i a m' b m'' s (inr (inr (inr (never, x))))
      (inr (inr (inl (q, l', is', idle', nobody', at', x', y')))) = absurd (never q is' idle')
  only_read buffers limit m i a m' b m'' s (inr (inr (inr (never, x)))) (inr (inr (inr (never', x')))) =
      (x'.0 ∙ sym x.0, x'.1 ∙ sym x.1)

  pub only_one : (buffers limit : ℕ) (m : Machine L) (e : Event L) (a : Answer L) (m' : Machine L) (b : Answer L)
      (m'' : Machine L) → IsSound buffers limit m → Does buffers limit m e a m' → Does buffers limit m e b m'' →
      (b ≡ a) × (m'' ≡ m')
  only_one buffers limit m (Event.Look i) a m' b m'' s one other = only_look buffers limit m i a m' b m'' s one other
  only_one buffers limit m Event.WriterTake a m' b m'' s one other = only_take buffers limit m a m' b m'' s one other
  only_one buffers limit m (Event.Seal label) a m' b m'' s one other =
      only_seal buffers limit m label a m' b m'' s one other
  only_one buffers limit m (Event.ReaderTake i) a m' b m'' s one other =
      only_read buffers limit m i a m' b m'' s one other
  only_one buffers limit m (Event.Give i) a m' b m'' s one other =
      two_ways m i (λ (r : Reader). r.phase ≡ Phase.Out) (λ (r : Reader). Answer.Given)
      (λ (r : Reader). with_reader m i (record r { phase = Phase.Read })) a m' b m'' one other
  only_one buffers limit m (Event.Clear i) a m' b m'' s one other =
      two_ways m i (λ (r : Reader). r.phase ≡ Phase.Read) (λ (r : Reader). Answer.Cleared (r.cleared + 1))
      (λ (r : Reader). with_reader m i (record { cleared = r.cleared + 1; phase = Phase.Ready })) a m' b m'' one other
  only_one buffers limit m (Event.Retire i) a m' b m'' s one other =
      two_ways m i IsIdle (λ (r : Reader). Answer.Retired)
      (λ (r : Reader). with_reader m i (record r { phase = Phase.Retired })) a m' b m'' one other
  only_one buffers limit m (Event.Detach i) a m' b m'' s one other =
      two_ways m i IsIdle (λ (r : Reader). Answer.Detached)
      (λ (r : Reader). with_reader m i (record r { phase = Phase.Detached })) a m' b m'' one other
  only_one buffers limit m (Event.Attach i) a m' b m'' s one other =
      two_ways m i (λ (r : Reader). r.phase ≡ Phase.Detached) (λ (r : Reader). Answer.Attached r.cleared)
      (λ (r : Reader). with_reader m i (record r { phase = Phase.Ready })) a m' b m'' one other
