-- Cells that aren't masked, counted and added up.
use Rattle.std.proofs.Common.{◌≡◌, ℕ, zero, suc, ◌+◌, ◌<◌, Bool, false, cond, inl, inr, List, slice_index, refl, sym, ◌∙◌, ap, arith}
use Rattle.std.proofs.lemmas.Bool.{cases_lt}
use Rattle.band_level.specs.Finished.{kept_before, kept_sum}
use Rattle.band_level.proofs.Ranges.{sum_range_more}

-- one cell more
pub kept_more : (is_masked : ℕ → Bool) (n : ℕ)
    → kept_before is_masked (n + 1) ≡ kept_before is_masked n + cond (is_masked n) 0 1
unfolding kept_before
kept_more is_masked n = sum_range_more (λ i. cond (is_masked i) 0 1) n

pub total_more : (is_masked : ℕ → Bool) (values : List ℕ) (n : ℕ) → kept_sum is_masked values (n + 1)
    ≡ kept_sum is_masked values n + cond (is_masked n) 0 (slice_index values n)
unfolding kept_sum
total_more is_masked values n = sum_range_more (λ i. cond (is_masked i) 0 (slice_index values i)) n

pub kept_none : (is_masked : ℕ → Bool) → kept_before is_masked 0 ≡ 0
unfolding kept_before
kept_none is_masked = refl

pub total_none : (is_masked : ℕ → Bool) (values : List ℕ) → kept_sum is_masked values 0 ≡ 0
unfolding kept_sum
total_none is_masked values = refl

-- a cell that isn't masked is counted
kept_one : (is_masked : ℕ → Bool) (i n : ℕ) → i ≡ n → is_masked i ≡ false
    → kept_before is_masked (n + 1) ≡ kept_before is_masked n + 1
kept_one is_masked i n same keeps =
    kept_more is_masked n
    ∙ ap (λ b. kept_before is_masked n + cond b 0 1) (ap is_masked (sym same) ∙ keeps)

pub kept_some : (is_masked : ℕ → Bool) (i n : ℕ) → i < n → is_masked i ≡ false → 0 < kept_before is_masked n
kept_some is_masked i zero lt keeps = absurd (omega arith)
kept_some is_masked i (suc n) lt keeps =
    let e : suc n ≡ n + 1 = omega arith in
    rw e (elim (cases_lt i n) [
      | inl before ↦ omega (arith, kept_some is_masked i n before keeps, kept_more is_masked n)
      | inr last ↦ omega (arith, kept_one is_masked i n (omega arith) keeps)
    ])
