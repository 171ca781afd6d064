-- What a folder holds after a halving, and at first.
use Rattle.std.proofs.Common.{◌≡◌, ℕ, ◌+◌, ◌-◌, ◌*◌, ◌/◌, ◌%◌, ◌^◌, ◌<◌, List, take, drop, slice_index, sym, ap, subst, zero-add, ◌∙◌, arith}
use Rattle.std.proofs.lemmas.List.{get_or-drop, get_or-take}
use Rattle.std.proofs.lemmas.Nat.{pow-add, mul-add-lt}
use Rattle.std.proofs.Math.Nat.{mod-lt, mod-eq_of_lt}
use Rattle.search_model.specs.Folds.{fold_sum}
use Rattle.fdmt_rows.specs.Rows.{wrapping_sum}
use Rattle.fast_fold.specs.Folding.{block_of, AreFolded, sum_place}
use Rattle.fast_fold.specs.Merging.{AreMerged, at}
use Rattle.fast_fold.proofs.Halves.{twice, block_halves, block_fits}

pub folded_more : (p m r : ℕ) (ys sums merged : List ℕ) → 0 < p → r < m
    → AreMerged merged sums p (2 ^ r) (2 ^ (m - r - 1)) → AreFolded p m r ys sums → AreFolded p m (r + 1) ys merged
folded_more p m r ys sums merged phases more are old = record {
  fits = old.fits;
  folded = λ b j q in_blocks in_trials phase.
      let turned : ℕ = (q + (j + 1) / 2) % p in
      let inside : turned < p = mod-lt (q + (j + 1) / 2) phases in
      let blocks : 2 ^ (m - r) ≡ 2 * 2 ^ (m - r - 1) =
      ap (λ n. 2 ^ n) (let e : m - r ≡ 1 + (m - r - 1) = omega arith in e) ∙ pow-add 2 1 (m - r - 1) in
      let fewer : 2 ^ (m - (r + 1)) ≡ 2 ^ (m - r - 1) =
      ap (λ n. 2 ^ n) (let e : m - (r + 1) ≡ m - r - 1 = omega arith in e) in
      let trials : 2 ^ (r + 1) ≡ 2 ^ r + 2 ^ r = twice r in
      let first = old.folded (2 * b) (j / 2) q (omega arith) (omega arith) phase in
      let second = old.folded (2 * b + 1) (j / 2) turned (omega arith) (omega arith) inside in
      let whole = block_halves ys p r b j q phases in
      let fits : fold_sum (block_of ys p (r + 1) b) p (r + 1) j q < 2 ^ 32 =
      block_fits ys p m (r + 1) b j q phases (omega arith) in_blocks old.fits in
      ap (λ n. slice_index merged ((b * n + j) * p + q)) (let e : 2 ^ (r + 1) ≡ 2 * 2 ^ r = omega arith in e)
      ∙ are b j q (omega arith) (omega arith) phase
      ∙ ap (λ k. wrapping_sum (slice_index sums (k * p + q)) (at sums p (b * (2 * 2 ^ r) + 2 ^ r + j / 2) turned))
      (let e : b * (2 * 2 ^ r) + j / 2 ≡ 2 * b * 2 ^ r + j / 2 = omega arith in e)
      ∙ ap (λ x. wrapping_sum x (at sums p (b * (2 * 2 ^ r) + 2 ^ r + j / 2) turned)) first
      ∙ ap (λ k. wrapping_sum (fold_sum (block_of ys p r (2 * b)) p r (j / 2) q) (slice_index sums (k * p + turned)))
      (let e : b * (2 * 2 ^ r) + 2 ^ r + j / 2 ≡ (2 * b + 1) * 2 ^ r + j / 2 = omega arith in e)
      ∙ ap (λ x. wrapping_sum (fold_sum (block_of ys p r (2 * b)) p r (j / 2) q) x) second
      ∙ ap (λ x. x % 2 ^ 32) (sym whole)
      ∙ mod-eq_of_lt fits;
}

-- the rows themselves
pub folded_none : (p m : ℕ) (ys sums : List ℕ) → 0 < p
    → ((k : ℕ) → k < 2 ^ m * p → slice_index sums k ≡ slice_index ys k)
    → ((k : ℕ) → k < 2 ^ m * p → slice_index ys k * 2 ^ m < 2 ^ 32)
    → AreFolded p m 0 ys sums
folded_none p m ys sums phases same fits = record {
  fits = fits;
  folded = λ b j q in_blocks in_trials phase.
      let inside : b * p + q < 2 ^ m * p =
      omega (
        arith,
        mul-add-lt b p q (2 ^ m)
            (let lt : b < 2 ^ m = subst (λ (n : ℕ). b < 2 ^ n) (let e : m - 0 ≡ m = omega arith in e) in_blocks in lt)
            phase,
      ) in
      let at : 0 * p + (q + 0) % p ≡ q =
      ap (λ x. 0 * p + x % p) (let e : q + 0 ≡ q = omega arith in e)
      ∙ ap (λ x. 0 * p + x) (mod-eq_of_lt phase)
      ∙ omega arith in
      let row = take (2 ^ 0 * p) (drop (b * (2 ^ 0 * p)) ys) in
      let of_row : slice_index row (0 * p + (q + 0) % p) ≡ slice_index ys (b * p + q) =
      ap (λ k. slice_index row k) at
      ∙ get_or-take (2 ^ 0 * p) (drop (b * (2 ^ 0 * p)) ys) q 0 (omega arith)
      ∙ get_or-drop (b * (2 ^ 0 * p)) ys q 0
      ∙ ap (λ k. slice_index ys k) (omega arith) in
      let place : sum_place p 0 b j q ≡ b * p + q =
      ap (λ j. (b * 2 ^ 0 + j) * p + q) (let e : j ≡ 0 = omega arith in e) ∙ omega arith in
      ap (λ k. slice_index sums k) place
      ∙ same (b * p + q) inside
      ∙ sym of_row
      ∙ sym (zero-add (slice_index row (0 * p + (q + 0) % p)));
}
