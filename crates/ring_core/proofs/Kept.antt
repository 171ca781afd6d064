-- Each event keeps a sound state sound.
use Rattle.std.specs.Prelude.{◌≡◌, ◌≢◌, ℕ, ◌+◌, ◌<◌, ◌≤◌, ◌⊎◌, true, false, [], ◌∷◌, ◌++◌, length, Some, slice_index}
use Rattle.std.proofs.Common.{inl, inr, arith, sym, ap, subst, ⊎_elim, ◌∙◌, length-append}
use Rattle.std.proofs.Math.ListN.{length-set}
use Rattle.std.proofs.lemmas.Option.{slice_get_within}
use Rattle.ring_core.specs.Machine.{Machine, Reader, Phase, Event, Answer, Does, greatest, IsReader, IsRegistered, IsIdle, Holds, HasRoom, height, remembers, with_reader}
use Rattle.ring_core.specs.Sound.{IsSound}
use Rattle.ring_core.proofs.Lists.{get_set-cases, each_after, index_set-cases}

idle_registered : (r : Reader) → IsIdle r → IsRegistered r
idle_registered r idle gone = ⊎_elim (λ t. let e : Phase.Ready ≡ Phase.Retired = sym t ∙ gone in cc)
    (λ t. let e : Phase.Read ≡ Phase.Retired = sym t ∙ gone in cc) idle

module _ {L : Type 0} where
  -- what a reader may become
  record MayBecome (m : Machine L) (r new : Reader) : Type 0 where
    registered : IsRegistered new → (IsRegistered r) × (r.cleared ≤ new.cleared) × (new.cleared ≤ height m)
    was_sealed : (new.phase ≡ Phase.Out) ⊎ (new.phase ≡ Phase.Read) → new.cleared < height m
    alone : new.phase ≡ Phase.Out → (j : ℕ) → ¬ Holds m j new.cleared

  -- who holds a block after a reader has changed
  holds_cases : (m : Machine L) (i : ℕ) (new : Reader) (j n : ℕ) → Holds (with_reader m i new) j n →
      ((j ≡ i) × (new.phase ≡ Phase.Out) × (new.cleared ≡ n)) ⊎ (Holds m j n)
  holds_cases m i new j n (q, is, out, count) = ⊎_elim
      (λ t. inl (t.0, ap (λ (x : Reader). x.phase) (sym t.1) ∙ out, ap (λ (x : Reader). x.cleared) (sym t.1) ∙ count))
      (λ t. inr (q, t.1, out, count))
      (get_set-cases m.readers i j new q is)

  alone_after : (m : Machine L) (i : ℕ) (r new : Reader) → ((i j n : ℕ) → Holds m i n → Holds m j n → i ≡ j) →
      MayBecome m r new → (j k n : ℕ) → Holds (with_reader m i new) j n → Holds (with_reader m i new) k n → j ≡ k
  alone_after m i r new alone may j k n one other = ⊎_elim
      (λ t. ⊎_elim (λ u. t.0 ∙ sym u.0) (λ u. absurd (let P : ℕ → Type 0 = λ c. Holds m k c in
      may.alone t.1 k (subst P (sym t.2) u))) (holds_cases m i new k n other))
      (λ t. ⊎_elim (λ u. absurd (let P : ℕ → Type 0 = λ c. Holds m j c in may.alone u.1 j (subst P (sym u.2) t)))
      (λ u. alone j k n t u) (holds_cases m i new k n other))
      (holds_cases m i new j n one)

  moved : (buffers limit : ℕ) (m : Machine L) (i : ℕ) (r new : Reader) → IsSound buffers limit m → IsReader m i r →
      MayBecome m r new → IsSound buffers limit (with_reader m i new)
  moved buffers limit m i r new s here may = record {
    limited = s.limited;
    one_more = s.one_more;
    counts = each_after (λ (j : ℕ) (q : Reader). IsRegistered q → (q.cleared ≤ height m)
        × (height m ≤ q.cleared + buffers)) m.readers i new
        (λ registered. let may' = may.registered registered in let was = s.counts i r here may'.0 in
        (may'.2, omega arith))
        s.counts;
    remembered = each_after (λ (j : ℕ) (q : Reader). IsRegistered q → slice_index m.low j ≤ q.cleared) m.readers i new
        (λ registered. let may' = may.registered registered in let was = s.remembered i r here may'.0 in omega arith)
        s.remembered;
    room = s.room;
    was_sealed = each_after (λ (j : ℕ) (q : Reader). (q.phase ≡ Phase.Out) ⊎ (q.phase ≡ Phase.Read) →
        q.cleared < height m) m.readers i new may.was_sealed s.was_sealed;
    alone = alone_after m i r new s.alone may;
    one_each = s.one_each ∙ sym (length-set m.readers i new);
  }

  remembering : (buffers limit : ℕ) (m : Machine L) (i c : ℕ) → IsSound buffers limit m →
      ((r : Reader) → IsReader m i r → IsRegistered r → c ≤ r.cleared) → (m.writing ≡ true → height m < c + buffers) →
      IsSound buffers limit (remembers m i c)
  remembering buffers limit m i c s low room = record {
    limited = s.limited;
    one_more = s.one_more;
    counts = s.counts;
    remembered = λ j r is registered. ⊎_elim
        (λ t. let P : ℕ → Type 0 = λ k. IsReader m k r in let below = low r (subst P t.0 is) registered in omega arith)
        (λ e. let below = s.remembered j r is registered in omega arith)
        (index_set-cases m.low i j c);
    room = λ writing j h. ⊎_elim
        (λ t. let above = room writing in omega arith)
        (λ e. let h' : j < length m.low = omega (arith, length-set m.low i c) in let above = s.room writing j h' in
        omega arith)
        (index_set-cases m.low i j c);
    was_sealed = s.was_sealed;
    alone = s.alone;
    one_each = length-set m.low i c ∙ s.one_each;
  }

  -- the count of a registered reader leaves the writer its room
  pub room_at : (buffers limit : ℕ) (m : Machine L) (i : ℕ) (r : Reader) → IsSound buffers limit m → IsReader m i r →
      IsRegistered r → m.writing ≡ true → height m < r.cleared + buffers
  room_at buffers limit m i r s is registered writing =
      let low = s.remembered i r is registered in
      let there : i < length m.low = omega (arith, s.one_each, slice_get_within m.readers i r is) in
      let above = s.room writing i there in omega arith

  taking : (buffers limit : ℕ) (m : Machine L) → IsSound buffers limit m → height m ≢ limit → HasRoom buffers m →
      IsSound buffers limit (record m { writing = true })
  taking buffers limit m s more room = record {
    limited = s.limited;
    one_more = λ writing. let most = s.limited in omega arith;
    counts = s.counts;
    remembered = s.remembered;
    room = λ writing. room;
    was_sealed = s.was_sealed;
    alone = s.alone;
    one_each = s.one_each;
  }

  sealing : (buffers limit : ℕ) (m : Machine L) (label : L) → IsSound buffers limit m → m.writing ≡ true →
      IsSound buffers limit (record m { sealed = m.sealed ++ label ∷ []; writing = false })
  sealing buffers limit m label s writing =
      let longer : length (m.sealed ++ label ∷ []) ≡ height m + 1 = length-append m.sealed (label ∷ []) in record {
        limited = let more = s.one_more writing in omega arith;
        one_more = λ e. cc;
        counts = λ i r is registered. let old = s.counts i r is registered in
            let above = room_at buffers limit m i r s is registered writing in (omega arith, omega arith);
        remembered = s.remembered;
        room = λ e. absurd (let f : false ≡ true = e in cc);
        was_sealed = λ i r is out. let old = s.was_sealed i r is out in omega arith;
        alone = s.alone;
        one_each = s.one_each;
      }

  as_is : (buffers limit : ℕ) (m n : Machine L) → IsSound buffers limit n → m ≡ n → IsSound buffers limit m
  as_is buffers limit m n s e = let P : Machine L → Type 0 = λ x. IsSound buffers limit x in subst P (sym e) s

  -- a reader whose count stays
  stays : (buffers limit : ℕ) (m : Machine L) (i : ℕ) (r : Reader) (p : Phase) → IsSound buffers limit m →
      IsReader m i r → IsRegistered r →
      ((p ≡ Phase.Out) ⊎ (p ≡ Phase.Read) → r.cleared < height m) →
      (p ≡ Phase.Out → (j : ℕ) → ¬ Holds m j r.cleared) →
      IsSound buffers limit (with_reader m i (record r { phase = p }))
  stays buffers limit m i r p s is registered was_sealed alone =
      moved buffers limit m i r (record r { phase = p }) s is record {
        registered = λ h. (registered, omega arith, (s.counts i r is registered).0);
        was_sealed = was_sealed;
        alone = alone;
      }

  -- a reader that neither holds a block nor has read one
  rests : (buffers limit : ℕ) (m : Machine L) (i : ℕ) (r : Reader) (p : Phase) → IsSound buffers limit m →
      IsReader m i r → IsRegistered r →
      p ≢ Phase.Out → p ≢ Phase.Read → IsSound buffers limit (with_reader m i (record r { phase = p }))
  rests buffers limit m i r p s is registered not_out not_read =
      stays buffers limit m i r p s is registered (λ h. absurd (⊎_elim (λ e. not_out e) (λ e. not_read e) h))
      (λ e. absurd (not_out e))

  looks_keep : (buffers limit : ℕ) (m : Machine L) (i : ℕ) (a : Answer L) (m' : Machine L) → limit ≤ greatest →
      IsSound buffers limit m → Does buffers limit m (Event.Look i) a m' → IsSound buffers limit m'
  looks_keep buffers limit m i a m' fits s (inl (r, is, gone, answer, after)) =
      as_is buffers limit m' _ (remembering buffers limit m i greatest s
      (λ q is_q registered. let same : Some r ≡ Some q = sym is ∙ is_q in let e : r ≡ q = cc in
      absurd (registered (ap (λ (x : Reader). x.phase) (sym e) ∙ gone)))
      (λ writing. let more = s.one_more writing in omega arith)) after
  looks_keep buffers limit m i a m' fits s (inr (inl (r, is, registered, below, answer, after))) =
      as_is buffers limit m' _ (remembering buffers limit m i r.cleared s
      (λ q is_q registered'. let same : Some r ≡ Some q = sym is ∙ is_q in let e : r ≡ q = cc in
      let e' = ap (λ (x : Reader). x.cleared) e in omega arith)
      (λ writing. room_at buffers limit m i r s is registered writing)) after
  looks_keep buffers limit m i a m' fits s (inr (inr (inl (r, is, registered, above, answer, after)))) =
      as_is buffers limit m' _ (remembering buffers limit m i r.cleared s
      (λ q is_q registered'. let same : Some r ≡ Some q = sym is ∙ is_q in let e : r ≡ q = cc in
      let e' = ap (λ (x : Reader). x.cleared) e in omega arith)
      (λ writing. above)) after
  looks_keep buffers limit m i a m' fits s (inr (inr (inr (none, refused)))) = as_is buffers limit m' m s refused.1

  -- each event keeps a sound state sound
  pub does_keeps : (buffers limit : ℕ) (m : Machine L) (e : Event L) (a : Answer L) (m' : Machine L) →
      limit ≤ greatest → IsSound buffers limit m → Does buffers limit m e a m' → IsSound buffers limit m'
  does_keeps buffers limit m (Event.Look i) a m' fits s does = looks_keep buffers limit m i a m' fits s does
  does_keeps buffers limit m Event.WriterTake a m' fits s (inl (writing, refused)) =
      as_is buffers limit m' m s refused.1
  does_keeps buffers limit m Event.WriterTake a m' fits s (inr (inl (writing, spent, answer, after))) =
      as_is buffers limit m' m s after
  does_keeps buffers limit m Event.WriterTake a m' fits s (inr (inr (inl (writing, more, lacks, refused)))) =
      as_is buffers limit m' m s refused.1
  does_keeps buffers limit m Event.WriterTake a m' fits s (inr (inr (inr (writing, more, room, answer, after)))) =
      as_is buffers limit m' _ (taking buffers limit m s more room) after
  does_keeps buffers limit m (Event.Seal label) a m' fits s (inl (writing, answer, after)) =
      as_is buffers limit m' _ (sealing buffers limit m label s writing) after
  does_keeps buffers limit m (Event.Seal label) a m' fits s (inr (writing, refused)) =
      as_is buffers limit m' m s refused.1
  does_keeps buffers limit m (Event.ReaderTake i) a m' fits s (inl (r, is, idle, none, answer, after)) =
      as_is buffers limit m' m s after
  does_keeps buffers limit m (Event.ReaderTake i) a m' fits s
      (inr (inl (r, j, is, idle, some_left, holds, answer, after))) = as_is buffers limit m' m s after
  does_keeps buffers limit m (Event.ReaderTake i) a m' fits s
      (inr (inr (inl (r, label, is, idle, nobody, at, answer, after)))) = as_is buffers limit m' _
      (stays buffers limit m i r Phase.Out s is (idle_registered r idle)
      (λ h. slice_get_within m.sealed r.cleared label at) (λ e. nobody)) after
  does_keeps buffers limit m (Event.ReaderTake i) a m' fits s (inr (inr (inr (not_idle, refused)))) =
      as_is buffers limit m' m s refused.1
  does_keeps buffers limit m (Event.Give i) a m' fits s (inl (r, is, out, answer, after)) = as_is buffers limit m' _
      (stays buffers limit m i r Phase.Read s is (λ gone. let e : Phase.Out ≡ Phase.Retired = sym out ∙ gone in cc)
      (λ h. s.was_sealed i r is (inl out)) (λ e. absurd cc)) after
  does_keeps buffers limit m (Event.Give i) a m' fits s (inr (not_out, refused)) = as_is buffers limit m' m s refused.1
  does_keeps buffers limit m (Event.Clear i) a m' fits s (inl (r, is, read, answer, after)) = as_is buffers limit m' _
      (moved buffers limit m i r (record { cleared = r.cleared + 1; phase = Phase.Ready }) s is record {
        registered = λ h. (
          (λ gone. let e : Phase.Read ≡ Phase.Retired = sym read ∙ gone in cc),
          omega arith,
          (let below = s.was_sealed i r is (inr read) in omega arith),
        );
        was_sealed = λ h. absurd (⊎_elim (λ (e : Phase.Ready ≡ Phase.Out). cc)
            (λ (e : Phase.Ready ≡ Phase.Read). cc) h);
        alone = λ e. absurd cc;
      }) after
  does_keeps buffers limit m (Event.Clear i) a m' fits s (inr (not_read, refused)) =
      as_is buffers limit m' m s refused.1
  does_keeps buffers limit m (Event.Retire i) a m' fits s (inl (r, is, idle, answer, after)) = as_is buffers limit m' _
      (rests buffers limit m i r Phase.Retired s is (idle_registered r idle) (λ e. cc) (λ e. cc)) after
  does_keeps buffers limit m (Event.Retire i) a m' fits s (inr (not_idle, refused)) =
      as_is buffers limit m' m s refused.1
  does_keeps buffers limit m (Event.Detach i) a m' fits s (inl (r, is, idle, answer, after)) = as_is buffers limit m' _
      (rests buffers limit m i r Phase.Detached s is (idle_registered r idle) (λ e. cc) (λ e. cc)) after
  does_keeps buffers limit m (Event.Detach i) a m' fits s (inr (not_idle, refused)) =
      as_is buffers limit m' m s refused.1
  does_keeps buffers limit m (Event.Attach i) a m' fits s (inl (r, is, detached, answer, after)) =
      as_is buffers limit m' _
      (rests buffers limit m i r Phase.Ready s is (λ gone. let e : Phase.Detached ≡ Phase.Retired =
      sym detached ∙ gone in cc) (λ e. cc) (λ e. cc)) after
  does_keeps buffers limit m (Event.Attach i) a m' fits s (inr (not_detached, refused)) =
      as_is buffers limit m' m s refused.1

  abbrev readers_count : Machine L → ℕ
  readers_count m = length m.readers

  -- no event makes or drops a reader
  pub does_readers : (buffers limit : ℕ) (m : Machine L) (e : Event L) (a : Answer L) (m' : Machine L) →
      Does buffers limit m e a m' → length m'.readers ≡ length m.readers
  does_readers buffers limit m (Event.Look i) a m' (inl (r, is, gone, answer, after)) = ap readers_count after
  does_readers buffers limit m (Event.Look i) a m' (inr (inl (r, is, registered, below, answer, after))) =
      ap readers_count after
  does_readers buffers limit m (Event.Look i) a m' (inr (inr (inl (r, is, registered, above, answer, after)))) =
      ap readers_count after
  does_readers buffers limit m (Event.Look i) a m' (inr (inr (inr (none, refused)))) = ap readers_count refused.1
  does_readers buffers limit m Event.WriterTake a m' (inl (writing, refused)) = ap readers_count refused.1
  does_readers buffers limit m Event.WriterTake a m' (inr (inl (writing, spent, answer, after))) =
      ap readers_count after
  does_readers buffers limit m Event.WriterTake a m' (inr (inr (inl (writing, more, lacks, refused)))) =
      ap readers_count refused.1
  does_readers buffers limit m Event.WriterTake a m' (inr (inr (inr (writing, more, room, answer, after)))) =
      ap readers_count after
  does_readers buffers limit m (Event.Seal label) a m' (inl (writing, answer, after)) = ap readers_count after
  does_readers buffers limit m (Event.Seal label) a m' (inr (writing, refused)) = ap readers_count refused.1
  does_readers buffers limit m (Event.ReaderTake i) a m' (inl (r, is, idle, none, answer, after)) =
      ap readers_count after
  does_readers buffers limit m (Event.ReaderTake i) a m'
      (inr (inl (r, j, is, idle, some_left, holds, answer, after))) = ap readers_count after
  does_readers buffers limit m (Event.ReaderTake i) a m'
      (inr (inr (inl (r, label, is, idle, nobody, at, answer, after)))) =
      ap readers_count after ∙ length-set m.readers i _
  does_readers buffers limit m (Event.ReaderTake i) a m' (inr (inr (inr (not_idle, refused)))) =
      ap readers_count refused.1
  does_readers buffers limit m (Event.Give i) a m' (inl (r, is, out, answer, after)) =
      ap readers_count after ∙ length-set m.readers i _
  does_readers buffers limit m (Event.Give i) a m' (inr (not_out, refused)) = ap readers_count refused.1
  does_readers buffers limit m (Event.Clear i) a m' (inl (r, is, read, answer, after)) =
      ap readers_count after ∙ length-set m.readers i _
  does_readers buffers limit m (Event.Clear i) a m' (inr (not_read, refused)) = ap readers_count refused.1
  does_readers buffers limit m (Event.Retire i) a m' (inl (r, is, idle, answer, after)) =
      ap readers_count after ∙ length-set m.readers i _
  does_readers buffers limit m (Event.Retire i) a m' (inr (not_idle, refused)) = ap readers_count refused.1
  does_readers buffers limit m (Event.Detach i) a m' (inl (r, is, idle, answer, after)) =
      ap readers_count after ∙ length-set m.readers i _
  does_readers buffers limit m (Event.Detach i) a m' (inr (not_idle, refused)) = ap readers_count refused.1
  does_readers buffers limit m (Event.Attach i) a m' (inl (r, is, detached, answer, after)) =
      ap readers_count after ∙ length-set m.readers i _
  does_readers buffers limit m (Event.Attach i) a m' (inr (not_detached, refused)) = ap readers_count refused.1
