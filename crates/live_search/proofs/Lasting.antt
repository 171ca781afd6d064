-- The text of the last part behind the text so far.
use Rattle.std.proofs.Common.{◌≡◌, ℕ, zero, suc, ◌≤◌, ◌<◌, ◌++◌, Bool, true, false, cond, List, [], refl, sym, ◌∙◌, ap, subst, append-nil, append_assoc, arith}
use Rattle.std.specs.Prelude.{nat_lt}
use Rattle.std.proofs.lemmas.Bool.{lt-ltb}
use Rattle.std.proofs.lemmas.Bool.Decides.{nat_tests}
use Rattle.search_model.specs.declared.candidate.Candidate.{Candidate}
use Rattle.search_model.specs.Parts.{check_line, within_part}
use Rattle.warm_restart.specs.declared.checkpoint.Checkpoint.{Checkpoint}
use Rattle.live_search.specs.LiveText.{Layout, after_parts, counted, last_lines, lines_at, marked_parts, next_after, next_end, parts_before, printed, pulse_lines, stopped_text}
use Rattle.live_search.proofs.Counts.{at_next, count_is, next_past}
use Rattle.live_search.proofs.Texts.{state_text}

module _ (l : Layout) (some : 1 ≤ l.every) (from : Checkpoint) (list : List Candidate) where
  abbrev at : ℕ → Checkpoint
  at n = after_parts l from list n

  abbrev marked : ℕ → List ℕ
  marked n = marked_parts check_line l from list n

  -- the lines of the last part, unless they were written, and how many pulses are printed with them
  abbrev pub lines_left : Bool → ℕ → ℕ → List ℕ
  lines_left due n spectra =
      cond due [] (pulse_lines l.labels l.limit spectra (within_part (at n).place spectra list))

  abbrev pub count_left : Bool → ℕ → ℕ → ℕ
  count_left due n spectra =
      cond due (at n).pulses (counted (at n).pulses (printed l.limit (within_part (at n).place spectra list)))

  abbrev pub whole_text : (ℕ → ℕ → List ℕ) → ℕ → List ℕ
  whole_text mark spectra =
      let n = parts_before l.every from.place spectra in
      marked n ++ last_lines mark l (at n) spectra list

  -- where a part has just ended
  at_end : (mark : ℕ → ℕ → List ℕ) (n spectra : ℕ) → next_end l.every (at n).place ≡ spectra →
      (marked n ++ lines_at l (at n) list) ++ mark spectra (next_after l (at n) list).pulses
      ≡ marked n ++ last_lines mark l (at n) spectra list
  at_end mark n spectra is =
      subst (λ u. (marked n ++ lines_at l (at n) list) ++ mark u (next_after l (at n) list).pulses
      ≡ marked n ++ last_lines mark l (at n) u list) is
      (append_assoc (marked n) (lines_at l (at n) list)
      (mark (next_end l.every (at n).place) (next_after l (at n) list).pulses))

  -- the last part behind n parts, the CHECK line of which may be due
  pub last_part : (mark : ℕ → ℕ → List ℕ) (n spectra : ℕ) (due : Bool) →
      spectra < next_end l.every (at n).place → (due ≡ true → (spectra ≡ (at n).place) × (1 ≤ n)) →
      (due ≡ false → 1 ≤ n → (at n).place < spectra) →
      state_text l from list n due ++ (lines_left due n spectra ++ mark spectra (count_left due n spectra))
      ≡ whole_text mark spectra
  unfolding state_text
  last_part mark n spectra false within on past =
      sym (ap (λ k. marked k ++ last_lines mark l (at k) spectra list)
      (count_is l some from list n spectra (past refl) (omega (arith, within))))
  last_part mark zero spectra true within on past = absurd (let none = (on refl).1 in omega (arith, none))
  last_part mark (suc n) spectra true within on past =
      let next = at_next l some from list n in
      let place = ap (λ (c : Checkpoint). c.place) next in
      let here = (on refl).0 in
      let later = next_past l.every (at n).place some in
      let is : next_end l.every (at n).place ≡ spectra = sym place ∙ sym here in
      ap (λ (c : Checkpoint). (marked n ++ lines_at l (at n) list) ++ mark spectra c.pulses) next
      ∙ at_end mark n spectra is
      ∙ sym (ap (λ k. marked k ++ last_lines mark l (at k) spectra list)
      (count_is l some from list n spectra (λ more. omega (arith, is, later)) (omega (arith, is))))

  -- ---- data that stopped

  tail : ℕ → ℕ → List ℕ
  tail n spectra = cond (nat_lt (at n).place spectra) (last_lines check_line l (at n) spectra list) []

  stopped_as : (n spectra : ℕ) → parts_before l.every from.place spectra ≡ n → (at n).place < spectra →
      whole_text check_line spectra ≡ stopped_text l from spectra list
  unfolding tail
  stopped_as n spectra is past =
      ap (λ k. marked k ++ last_lines check_line l (at k) spectra list) is
      ∙ sym (ap (λ b. marked n ++ cond b (last_lines check_line l (at n) spectra list) [])
      (lt-ltb (at n).place spectra past))
      ∙ sym (ap (λ k. marked k ++ tail k spectra) is)

  -- with a last CHECK line
  pub stopped_last : (n spectra : ℕ) (due : Bool) → spectra < next_end l.every (at n).place →
      (due ≡ true → (spectra ≡ (at n).place) × (1 ≤ n)) → (due ≡ false → (at n).place < spectra) →
      whole_text check_line spectra ≡ stopped_text l from spectra list
  stopped_last n spectra false within on past =
      stopped_as n spectra (count_is l some from list n spectra (λ more. past refl) (omega (arith, within)))
      (past refl)
  stopped_last zero spectra true within on past = absurd (let none = (on refl).1 in omega (arith, none))
  stopped_last (suc n) spectra true within on past =
      let place = ap (λ (c : Checkpoint). c.place) (at_next l some from list n) in
      let here = (on refl).0 in
      let later = next_past l.every (at n).place some in
      stopped_as n spectra
      (count_is l some from list n spectra (λ more. omega (arith, place, here, later)) (omega (arith, place, here)))
      (omega (arith, place, here, later))

  -- without one, where no spectrum came past the first place
  pub stopped_first : (n spectra : ℕ) → spectra ≤ (at n).place → (1 ≤ n → (at n).place < spectra) →
      spectra < next_end l.every (at n).place →
      state_text l from list n false ≡ stopped_text l from spectra list
  unfolding state_text tail
  stopped_first zero spectra few past within =
      let none : nat_lt (at 0).place spectra ≡ false = grind (arith, nat_tests, few) in
      sym (append-nil (marked 0))
      ∙ sym (ap (λ b. marked 0 ++ cond b (last_lines check_line l (at 0) spectra list) []) none)
      ∙ sym (ap (λ k. marked k ++ tail k spectra) (count_is l some from list 0 spectra past (omega (arith, within))))
  stopped_first (suc n) spectra few past within =
      absurd (let more = past (omega arith) in omega (arith, more, few))
