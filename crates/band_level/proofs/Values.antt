-- The values of data bytes: where they lie, and what neighbouring spectra add up to.
use Rattle.std.proofs.Common.{◌≡◌, ℕ, ◌+◌, ◌*◌, ◌/◌, ◌<◌, ◌≤◌, inl, inr, List, sym, ◌∙◌, ap, arith, Bool, true, false, cond, ◌==◌, ◌%◌, ◌⊎◌, slice_index, if◌then◌else◌, refl}
use Rattle.std.specs.List.{range_with_len, sum_by}
use Rattle.std.proofs.Math.Nat.{mul-le-mul, mul-le-mul_right}
use Rattle.band_level.specs.declared.format.Format.{Format}
use Rattle.band_level.specs.declared.plan.Plan.{Plan}
use Rattle.band_level.specs.Values.{cells, spectrum_bytes, value_at, most_value, word_at, cell_value}
use Rattle.band_level.specs.Ranges.{FormatInRange, PlanInRange}
use Rattle.band_level.specs.Spectra.{written_bytes}
use Rattle.band_level.proofs.Ranges.{sum_range_more, sums_agree}

-- ---- sizes

pub product_some : (a b : ℕ) → 0 < a → 0 < b → 0 < a * b
product_some a b x y = let h : 1 * 1 ≤ a * b = mul-le-mul x y in omega (arith, h)

some_cells : (f : Format) → FormatInRange f → 0 < cells f
some_cells f range = product_some f.channels f.polarisations range.some_channels (elim range.polarisations [
  | inl e ↦ omega arith
  | inr e ↦ omega arith
])

some_width : (f : Format) → FormatInRange f → 0 < f.bits / 8
some_width f range = elim range.bits [
  | inl e ↦ omega arith
  | inr e ↦ omega arith
]

pub some_bytes : (f : Format) → FormatInRange f → 0 < spectrum_bytes f
some_bytes f range =
    product_some f.average (cells f * (f.bits / 8)) range.some_average
    (product_some (cells f) (f.bits / 8) (some_cells f range) (some_width f range))

pub some_written : (f : Format) (p : Plan) → FormatInRange f → PlanInRange p → 0 < written_bytes f p
some_written f p range plan = product_some (cells f) (p.bits / 8) (some_cells f range) (elim plan.most [
  | inl e ↦ let bits = e.0 in omega arith
  | inr e ↦ let bits = e.0 in omega arith
])

-- a spectrum has no more cells than bytes
pub few_cells : (f : Format) → FormatInRange f → cells f ≤ spectrum_bytes f
few_cells f range =
    let one : 1 * cells f ≤ f.bits / 8 * cells f = mul-le-mul_right (cells f) (some_width f range) in
    let all : 1 * (cells f * (f.bits / 8)) ≤ f.average * (cells f * (f.bits / 8)) =
    mul-le-mul_right (cells f * (f.bits / 8)) range.some_average in
    omega arith

-- ---- neighbouring spectra

-- a spectrum that was read lies within those that are added up with it
pub read_inside : (t average k size limit : ℕ) → k < average → (t + 1) * (average * size) ≤ limit
    → (t * average + k + 1) * size ≤ limit
read_inside t average k size limit lt fits =
    let part : (t * average + k + 1) * size ≤ (t + 1) * average * size = mul-le-mul_right size (omega arith) in
    omega arith

-- what the first k neighbouring spectra add up to
abbrev pub part_value : Format → List ℕ → ℕ → ℕ → ℕ → ℕ
part_value f bytes t i k =
    sum_by (λ j. value_at f bytes ((t * f.average + j) * cells f + i)) (range_with_len 0 k)

-- one spectrum more
pub part_more : (f : Format) (bytes : List ℕ) (t i k a b : ℕ) → a ≡ part_value f bytes t i k
    → b ≡ a + value_at f bytes ((t * f.average + k) * cells f + i) → b ≡ part_value f bytes t i (k + 1)
part_more f bytes t i k a b is adds =
    adds ∙ ap (λ s. s + value_at f bytes ((t * f.average + k) * cells f + i)) is
    ∙ sym (sum_range_more (λ j. value_at f bytes ((t * f.average + j) * cells f + i)) k)

-- and the first one
pub part_first : (f : Format) (bytes : List ℕ) (t i a : ℕ) → a ≡ value_at f bytes (t * f.average * cells f + i)
    → a ≡ part_value f bytes t i 1
part_first f bytes t i a is =
    let x = value_at f bytes ((t * f.average + 0) * cells f + i) in
    let one : part_value f bytes t i 1 ≡ 0 + x =
    sum_range_more (λ j. value_at f bytes ((t * f.average + j) * cells f + i)) 0 in
    let e : t * f.average ≡ t * f.average + 0 = omega arith in
    let same = ap (λ m. value_at f bytes (m * cells f + i)) e in
    omega arith

-- no value is greater than that of 16 bits, 64 of them added up
pub most_small : (f : Format) → FormatInRange f → most_value f ≤ 4194303
most_small f range = of_bits f.average (f.bits == 16) range.most_average
  where
    of_bits : (average : ℕ) (b : Bool) → average ≤ 64 → average * cond b 65535 255 ≤ 4194303
    of_bits average true few = omega arith
    of_bits average false few = omega arith

-- ---- values that are read from bytes, some of which lie elsewhere in a second list

word_shift : (f : Format) (xs ys : List ℕ) (d limit j i : ℕ) → (f.bits ≡ 8) ⊎ (f.bits ≡ 16)
    → ((k : ℕ) → k < limit → slice_index xs k ≡ slice_index ys (d + k))
    → d + j * (f.bits / 8) ≡ i * (f.bits / 8) → (j + 1) * (f.bits / 8) ≤ limit → word_at f xs j ≡ word_at f ys i
word_shift f xs ys d limit j i kind same at inside = elim kind [
  | inl e ↦
      let at_8 = rw e at at in
      let inside_8 = rw e at inside in
      let place : d + j ≡ i = omega arith in
      rw e (same j (omega arith) ∙ ap (λ k. slice_index ys k) place)
  | inr e ↦
      let at_16 = rw e at at in
      let inside_16 = rw e at inside in
      let low_place : d + 2 * j ≡ 2 * i = omega arith in
      let high_place : d + (2 * j + 1) ≡ 2 * i + 1 = omega arith in
      let low = same (2 * j) (omega arith) ∙ ap (λ k. slice_index ys k) low_place in
      let high = same (2 * j + 1) (omega arith) ∙ ap (λ k. slice_index ys k) high_place in
      rw (e, low, high) refl
]

-- a value with its sign
abbrev with_sign : Format → ℕ → ℕ
with_sign f w =
    if f.signed then (if f.bits == 16 then (w + 32768) % 65536 else (w + 128) % 256) else w

-- ---- spectra

-- where a value lies, of so many bytes before
place : (d t u average cells width k i : ℕ) → d + t * (average * (cells * width)) ≡ u * (average * (cells * width))
    → d + ((t * average + k) * cells + i) * width ≡ ((u * average + k) * cells + i) * width
place d t u average cells width k i at = omega arith

inside : (t average cells width k i limit : ℕ) → k < average → i < cells
    → (t + 1) * (average * (cells * width)) ≤ limit
    → ((t * average + k) * cells + i + 1) * width ≤ limit
inside t average cells width k i limit within here fits =
    let read : (t * average + k + 1) * (cells * width) ≤ limit =
    read_inside t average k (cells * width) limit within fits in
    let part : ((t * average + k) * cells + i + 1) * width ≤ (t * average + k + 1) * cells * width =
    mul-le-mul_right width (omega arith) in
    omega arith

pub cell_shift : (f : Format) (xs ys : List ℕ) (d limit t u i : ℕ) → FormatInRange f
    → ((k : ℕ) → k < limit → slice_index xs k ≡ slice_index ys (d + k))
    → d + t * spectrum_bytes f ≡ u * spectrum_bytes f → (t + 1) * spectrum_bytes f ≤ limit → i < cells f
    → cell_value f xs t i ≡ cell_value f ys u i
cell_shift f xs ys d limit t u i range same at fits here =
    sums_agree (λ k. value_at f xs ((t * f.average + k) * cells f + i))
    (λ k. value_at f ys ((u * f.average + k) * cells f + i)) f.average
    (λ k lt.
    ap (with_sign f) (word_shift f xs ys d limit _ _ range.bits same
    (place d t u f.average (cells f) (f.bits / 8) k i at)
    (inside t f.average (cells f) (f.bits / 8) k i limit lt here fits)))
