-- Rows of sums of 16 bits: some phases of some trials.
-- Source: this project's choice.
use Rattle.std.specs.Prelude.{ℕ, ◌+◌, ◌*◌, ◌/◌, ◌^◌, ◌≡◌, ◌<◌, ◌≤◌, List, drop}
use Rattle.fdmt_rows.specs.Capped.{capped_sum}
use Rattle.fast_fold.specs.Excess.{excess_sum}
use Rattle.fast_fold.specs.Merging.{at}

-- phase x of trial i, merged of two halves of `half` trials each
abbrev pub merged_sum : List ℕ → ℕ → ℕ → ℕ → ℕ → ℕ
merged_sum halves stride half i x =
    capped_sum (at halves stride (i / 2) x) (at halves stride (half + i / 2) (x + (i + 1) / 2))

-- the first `trials` trials of a block are merged of both halves, each with `width` phases
abbrev pub AreMergedTrials : List ℕ → List ℕ → ℕ → ℕ → ℕ → ℕ → Type 0
AreMergedTrials merged halves stride width half trials =
    (i x : ℕ) → i < trials → x < width → at merged stride i x ≡ merged_sum halves stride half i x

-- no sum of the first `trials` merged trials is above a bound, at any of the first `phases` phases
abbrev pub MergedUpTo : List ℕ → ℕ → ℕ → ℕ → ℕ → ℕ → Type 0
MergedUpTo halves stride half trials phases bound =
    (i x : ℕ) → i < trials → x < phases → merged_sum halves stride half i x ≤ bound

-- rows have the sums of all trials of 2^r rows of values, at the phases from `start` on; the further values are shifted,
-- the fewer phases there are
abbrev pub AreTrials : List ℕ → ℕ → List ℕ → ℕ → ℕ → ℕ → ℕ → ℕ → Type 0
AreTrials sums base values p start width stride r =
    (j x : ℕ) → j < 2 ^ r → x + 2 ^ r ≤ width
    → at sums stride j x ≡ excess_sum base values p r j (start + x)

-- they have those of both halves of twice as many rows of values
pub record AreTrialsOfHalves
    (sums : List ℕ) (base : ℕ) (values : List ℕ) (p start width stride r : ℕ)
    : Type 0 where
  pub first : (j x : ℕ) → j < 2 ^ r → x + 2 ^ r ≤ width
      → at sums stride j x ≡ excess_sum base values p r j (start + x)
  pub second : (j x : ℕ) → j < 2 ^ r → x + 2 ^ r ≤ width
      → at sums stride (2 ^ r + j) x ≡ excess_sum base (drop (2 ^ r * p) values) p r j (start + x)

-- no sum of any trial is above a bound, at any of the `phases` phases from `start` on
abbrev pub TrialsUpTo : ℕ → List ℕ → ℕ → ℕ → ℕ → ℕ → ℕ → Type 0
TrialsUpTo base values p m start phases bound =
    (j x : ℕ) → j < 2 ^ m → x < phases → excess_sum base values p m j (start + x) ≤ bound
