-- The laws of the table.
use Rattle.std.specs.Prelude.{◌≡◌, ◌≢◌, ℕ, suc, ◌+◌, ◌*◌, ◌/◌, ◌%◌, ◌<◌, ◌≤◌, ◌⊎◌, Bool, true, false, if◌then◌else◌}
use Rattle.std.proofs.Common.{inl, inr, arith, refl, sym, ap, subst, ⊎_elim, ◌∙◌}
use Rattle.std.proofs.Math.Nat.{mod-add-div', add-mod_right, lt_of_mul-lt-mul_right, mul-le-mul_right, suc-mul}
use Rattle.ring_core.specs.Machine.{Machine, Reader, Event, Answer, Does, IsReader, IsRegistered, height}
use Rattle.ring_core.specs.Sound.{IsSound}
use Rattle.ring_core.specs.Laws.{KeepsUncleared, FullByReader}
use Rattle.ring_core.proofs.Kept.{room_at}

-- two numbers less than b apart do not share a remainder
apart : (b n k : ℕ) → n < k → k < n + b → k % b ≢ n % b
apart b n k more less same =
    let whole_n : n % b + n / b * b ≡ n = mod-add-div' n b in
    let whole_k : k % b + k / b * b ≡ k = mod-add-div' k b in
    let below : n / b * b < k / b * b = omega arith in
    let rounds : n / b < k / b = lt_of_mul-lt-mul_right b below in
    let next : suc (n / b) * b ≤ k / b * b = mul-le-mul_right b rounds in
    omega (arith, suc-mul (n / b) b)

begun_cases : (writing : Bool) (h : ℕ) → (h + (if writing then 1 else 0) ≡ h)
    ⊎ ((writing ≡ true) × (h + (if writing then 1 else 0) ≡ h + 1))
begun_cases true h = inr (refl, refl)
begun_cases false h = inl (omega arith)

module _ {L : Type 0} where
  pub keeps_uncleared : (buffers limit : ℕ) (m : Machine L) → IsSound buffers limit m → KeepsUncleared buffers m
  keeps_uncleared buffers limit m s i r n is registered uncleared sealed = record {
    among = ⊎_elim (λ e. omega arith) (λ t. let e = t.1 in omega arith) (begun_cases m.writing (height m));
    last = λ k more begun. ⊎_elim
        (λ e. let behind = s.counts i r is registered in apart buffers n k more (omega arith))
        (λ t. let e = t.1 in let room = room_at buffers limit m i r s is registered t.0 in
        apart buffers n k more (omega arith))
        (begun_cases m.writing (height m));
  }

  is_full : Answer L → Bool
  is_full (Answer.Full i c) = true
  is_full _ = false

  abbrev IsOther : Answer L → Type 0
  IsOther a = (i c : ℕ) → a ≢ Answer.Full i c

  other : {a b : Answer L} → a ≡ b → is_full b ≡ false → IsOther a
  unfolding is_full
  other is not_full = λ i c e. let f : is_full (Answer.Full i c) ≡ false = ap is_full (sym e ∙ is) ∙ not_full in cc

  -- where a Full comes from
  full_or_not : (buffers limit : ℕ) (m : Machine L) (e : Event L) (a : Answer L) (m' : Machine L) →
      Does buffers limit m e a m' →
      ((i : ℕ) × (r : Reader) × (IsReader m i r) × (IsRegistered r) × (r.cleared + buffers ≤ height m)
      × (a ≡ Answer.Full i r.cleared))
      ⊎ IsOther a
  unfolding is_full
  full_or_not buffers limit m (Event.Look i) a m' (inl (r, is, gone, answer, after)) = inr (other answer refl)
  full_or_not buffers limit m (Event.Look i) a m' (inr (inl (r, is, registered, below, answer, after))) =
      inl (i, r, is, registered, below, answer)
  full_or_not buffers limit m (Event.Look i) a m' (inr (inr (inl (r, is, registered, above, answer, after)))) =
      inr (other answer refl)
  full_or_not buffers limit m (Event.Look i) a m' (inr (inr (inr (none, refused)))) = inr (other refused.0 refl)
  full_or_not buffers limit m Event.WriterTake a m' (inl (writing, refused)) = inr (other refused.0 refl)
  full_or_not buffers limit m Event.WriterTake a m' (inr (inl (writing, spent, answer, after))) =
      inr (other answer refl)
  full_or_not buffers limit m Event.WriterTake a m' (inr (inr (inl (writing, more, lacks, refused)))) =
      inr (other refused.0 refl)
  full_or_not buffers limit m Event.WriterTake a m' (inr (inr (inr (writing, more, room, answer, after)))) =
      inr (other answer refl)
  full_or_not buffers limit m (Event.Seal label) a m' (inl (writing, answer, after)) = inr (other answer refl)
  full_or_not buffers limit m (Event.Seal label) a m' (inr (writing, refused)) = inr (other refused.0 refl)
  full_or_not buffers limit m (Event.ReaderTake i) a m' (inl (r, is, idle, none, answer, after)) =
      inr (other answer refl)
  full_or_not buffers limit m (Event.ReaderTake i) a m'
      (inr (inl (r, j, is, idle, some_left, holds, answer, after))) = inr (other answer refl)
  full_or_not buffers limit m (Event.ReaderTake i) a m'
      (inr (inr (inl (r, label, is, idle, nobody, at, answer, after)))) = inr (other answer refl)
  full_or_not buffers limit m (Event.ReaderTake i) a m' (inr (inr (inr (not_idle, refused)))) =
      inr (other refused.0 refl)
  full_or_not buffers limit m (Event.Give i) a m' (inl (r, is, out, answer, after)) = inr (other answer refl)
  full_or_not buffers limit m (Event.Give i) a m' (inr (not_out, refused)) = inr (other refused.0 refl)
  full_or_not buffers limit m (Event.Clear i) a m' (inl (r, is, read, answer, after)) = inr (other answer refl)
  full_or_not buffers limit m (Event.Clear i) a m' (inr (not_read, refused)) = inr (other refused.0 refl)
  full_or_not buffers limit m (Event.Retire i) a m' (inl (r, is, idle, answer, after)) = inr (other answer refl)
  full_or_not buffers limit m (Event.Retire i) a m' (inr (not_idle, refused)) = inr (other refused.0 refl)
  full_or_not buffers limit m (Event.Detach i) a m' (inl (r, is, idle, answer, after)) = inr (other answer refl)
  full_or_not buffers limit m (Event.Detach i) a m' (inr (not_idle, refused)) = inr (other refused.0 refl)
  full_or_not buffers limit m (Event.Attach i) a m' (inl (r, is, detached, answer, after)) = inr (other answer refl)
  full_or_not buffers limit m (Event.Attach i) a m' (inr (not_detached, refused)) = inr (other refused.0 refl)

  pub full_by_reader : (buffers limit : ℕ) (m : Machine L) (e : Event L) (a : Answer L) (m' : Machine L) →
      IsSound buffers limit m → 0 < buffers → Does buffers limit m e a m' → FullByReader buffers m a
  full_by_reader buffers limit m e a m' s some does j c full = ⊎_elim
      (λ (i, r, is, registered, below, answer). let both : Answer.Full i r.cleared ≡ Answer.Full j c =
      sym answer ∙ full in
      let reader : i ≡ j = cc in let count : r.cleared ≡ c = cc in
      let behind = s.counts i r is registered in let next : height m ≡ c + buffers = omega arith in
      let P : ℕ → Type 0 = λ k. IsReader m k r in (
        r,
        subst P reader is,
        registered,
        count,
        sym (add-mod_right c buffers) ∙ ap (λ k. k % buffers) (sym next),
        record {
          among = omega arith;
          last = λ k more begun. apart buffers c k more (omega arith);
        },
      ))
      (λ is_other. absurd (is_other j c full))
      (full_or_not buffers limit m e a m' does)
