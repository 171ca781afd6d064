-- The text so far, by how many parts ended and whether a CHECK line is due.
use Rattle.std.proofs.Common.{◌≡◌, ℕ, zero, suc, ◌≤◌, ◌<◌, ◌++◌, Bool, true, false, cond, List, [], refl, ◌∙◌, ap, append-nil, arith}
use Rattle.std.specs.Prelude.{nat_eq}
use Rattle.std.proofs.lemmas.Bool.Decides.{nat_tests}
use Rattle.search_model.specs.declared.candidate.Candidate.{Candidate}
use Rattle.search_model.specs.Parts.{check_line}
use Rattle.warm_restart.specs.declared.checkpoint.Checkpoint.{Checkpoint}
use Rattle.live_search.specs.LiveText.{Layout, after_parts, lines_at, marked_parts, next_end, text_so_far}
use Rattle.live_search.proofs.Counts.{at_next, count_is, next_past}

-- of n parts, with the CHECK line of the last one or without it
unfoldable pub state_text : Layout → Checkpoint → List Candidate → ℕ → Bool → List ℕ
state_text l from list n false = marked_parts check_line l from list n
state_text l from list zero true = []
state_text l from list (suc n) true =
    marked_parts check_line l from list n ++ lines_at l (after_parts l from list n) list

module _ (l : Layout) (some : 1 ≤ l.every) (from : Checkpoint) (list : List Candidate) where
  abbrev at : ℕ → Checkpoint
  at n = after_parts l from list n

  abbrev tail : ℕ → ℕ → List ℕ
  tail n spectra = cond (nat_eq (next_end l.every (at n).place) spectra) (lines_at l (at n) list) []

  by_count : (n spectra : ℕ) → (1 ≤ n → (at n).place < spectra) → spectra ≤ next_end l.every (at n).place →
      text_so_far l from spectra list ≡ marked_parts check_line l from list n ++ tail n spectra
  by_count n spectra past within =
      ap (λ k. marked_parts check_line l from list k ++ tail k spectra)
      (count_is l some from list n spectra past within)

  -- amid a part
  pub amid : (n spectra : ℕ) → (1 ≤ n → (at n).place < spectra) → spectra < next_end l.every (at n).place →
      text_so_far l from spectra list ≡ state_text l from list n false
  unfolding state_text
  amid n spectra past within =
      let not_yet : nat_eq (next_end l.every (at n).place) spectra ≡ false = grind (arith, nat_tests) in
      by_count n spectra past (omega (arith, within))
      ∙ ap (λ b. marked_parts check_line l from list n ++ cond b (lines_at l (at n) list) []) not_yet
      ∙ append-nil (marked_parts check_line l from list n)

  -- where a part ends
  pub ending : (n spectra : ℕ) → (1 ≤ n → (at n).place < spectra) → spectra ≡ next_end l.every (at n).place →
      text_so_far l from spectra list ≡ state_text l from list (suc n) true
  unfolding state_text
  ending n spectra past is =
      let here : nat_eq (next_end l.every (at n).place) spectra ≡ true = grind (arith, nat_tests) in
      by_count n spectra past (omega (arith, is))
      ∙ ap (λ b. marked_parts check_line l from list n ++ cond b (lines_at l (at n) list) []) here

  -- the lines of the part that ends
  pub lines_more : (n : ℕ) → state_text l from list n false ++ lines_at l (at n) list
      ≡ state_text l from list (suc n) true
  unfolding state_text
  lines_more n = refl

  -- the CHECK line that was due
  pub check_more : (n : ℕ) → 1 ≤ n →
      state_text l from list n true ++ check_line (at n).place (at n).pulses ≡ state_text l from list n false
  unfolding state_text marked_parts after_parts
  check_more zero none = absurd (omega (arith, none))
  check_more (suc n) more = refl

  -- the text where n parts ended, and so many spectra came
  pub so_standing : (n spectra : ℕ) (due : Bool) → spectra < next_end l.every (at n).place →
      (due ≡ true → (spectra ≡ (at n).place) × (1 ≤ n)) → (due ≡ false → 1 ≤ n → (at n).place < spectra) →
      text_so_far l from spectra list ≡ state_text l from list n due
  so_standing n spectra false within due past = amid n spectra (past refl) within
  so_standing zero spectra true within due past = absurd (let none = (due refl).1 in omega (arith, none))
  so_standing (suc n) spectra true within due past =
      let place = ap (λ (c : Checkpoint). c.place) (at_next l some from list n) in
      let here = (due refl).0 in
      let later = next_past l.every (at n).place some in
      ending n spectra (λ more. omega (arith, place, here, later)) (omega (arith, place, here))
