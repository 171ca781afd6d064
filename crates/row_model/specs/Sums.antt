-- What the values of rows are.
-- Source: Zackay & Ofek, ApJ 835:11, 2017, section 2 (a row of the transform is a row of each half
-- of its band, of which one ends earlier, added value by value).
use Rattle.std.specs.Prelude.{◌≡◌, ℕ, ◌+◌, ◌%◌, ◌^◌, ◌<◌, true, false, Bool, List, Some, slice_get, slice_index, slice_index_or}
use Rattle.row_model.specs.declared.Merge.{Merge}
use Rattle.row_model.specs.declared.Source.{Source}
use Rattle.row_model.specs.declared.Source.TheVariants.{Channel, Sum}

-- `y r u late` is the value of row r that ends `late` spectra before spectrum u
abbrev pub Sums : Type 0
Sums = ℕ → ℕ → ℕ → ℕ

-- The values of each row are the samples of its channel, of which `x c t` is that of channel c at
-- spectrum t, or the sums of those of its two rows. What ends q spectra earlier, seen from q
-- spectra later, is the same.
pub record AddUp (sources : List Source) (x : ℕ → ℕ → ℕ) (y : Sums) : Type 0 where
  pub samples : (r c u : ℕ) → slice_get sources r ≡ Some (Channel c) → y r u 0 ≡ x c u
  pub sums : (r u late : ℕ) (m : Merge) → slice_get sources r ≡ Some (Sum m) →
      y r u late ≡ y m.upper u (late + m.late) + y m.lower u late
  pub shifts : (r u late q : ℕ) → y r (u + q) (late + q) ≡ y r u late

-- whether the values of row r have 16 bits
abbrev pub is_narrow : List Bool → ℕ → Bool
is_narrow narrow r = slice_index_or narrow r false

-- no value of these rows that ends before spectrum e passes 16 bits
abbrev pub Fit : List Bool → Sums → ℕ → Type 0
Fit narrow y e = (r u late : ℕ) → is_narrow narrow r ≡ true → u < e + late → y r u late < 2 ^ 16

-- Value i of row r, in 32 bits, where the values that end at spectrum u and after it stand behind
-- those that are kept.
unfoldable pub value_of : Sums → List ℕ → ℕ → ℕ → ℕ → ℕ
value_of y tails u r i = y r (u + i) (slice_index tails r) % 2 ^ 32
