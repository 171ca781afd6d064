-- Spectra of noise, with the pulses added, are the data bytes.
use Rattle.std.proofs.Common.{◌≡◌, ℕ, suc, zero, ◌+◌, ◌*◌, ◌/◌, ◌%◌, ◌<◌, ◌≤◌, ◌⊎◌, inl, inr, Bool, true, false, cond, ◌&&◌, List, length, slice_index, ◌∙◌, sym, ap, ap₂, refl, subst, arith, eqb, ltb, map}
use Rattle.std.proofs.lemmas.Bool.Decides.{nat_tests}
use Rattle.std.proofs.lemmas.List.{same_lists, get_or_default}
use Rattle.std.proofs.lemmas.List.FromFn.{length-map-range_with_len, get_or-map-range_with_len}
use Rattle.std.proofs.lemmas.Nat.{div-add-mod', mod_below}
use Rattle.std.proofs.Math.Nat.{mul-add-div_right, mul-add-mod_self_right, div-le_self}
use Rattle.std.specs.Prelude.{All, ◌^◌}
use Rattle.std.specs.List.{range_with_len}
use Rattle.psr_make.specs.Draws.{noise}
use Rattle.psr_make.specs.Noise.{AreNoise}
use Rattle.psr_make.specs.Made.{SpecInRange, value_bytes, cell_bytes, spectrum_bytes, byte_of, pulse_height, is_on_train, made_value, data_byte, data_part}
use Rattle.psr_make.specs.Making.{values_before}
use Rattle.psr_make.specs.Raised.{Raises, most_low, by_train}
use Rattle.psr_make.specs.declared.spec.MakeSpec.{MakeSpec}
use Rattle.psr_make.proofs.SplitMix.{noise_bound}
use Rattle.psr_make.proofs.Bytes.{low_byte, high_byte}

-- ---- the four layouts: values of so many bytes, so many of them in a cell, so many bytes in a cell

pub data Shape : ℕ → ℕ → ℕ → Type 0 where
  single_bytes : Shape 1 1 1
  pairs_of_bytes : Shape 1 2 2
  single_words : Shape 2 1 2
  pairs_of_words : Shape 2 2 4

pub shape_of : (nbit npol : ℕ) → (nbit ≡ 8) ⊎ (nbit ≡ 16) → (npol ≡ 1) ⊎ (npol ≡ 2)
    → Shape (nbit / 8) npol (npol * nbit / 8)
shape_of nbit npol (inl b) (inl p) = rw (b, p) single_bytes
shape_of nbit npol (inl b) (inr p) = rw (b, p) pairs_of_bytes
shape_of nbit npol (inr b) (inl p) = rw (b, p) single_words
shape_of nbit npol (inr b) (inr p) = rw (b, p) pairs_of_words

-- where byte k of bytes that begin with cell f lies among all data bytes
pub record Places (f w p g k : ℕ) : Type 0 where
  pub value : (f * g + k) / w ≡ f * p + k / w
  pub rest : (f * g + k) % w ≡ k % w
  pub cell : (f * g + k) / w / p ≡ f + k / g
  pub within : (k % g) % w ≡ k % w
  pub low : k % w < 2
  pub byte : k % g < g

pub places : (f w p g k : ℕ) → Shape w p g → Places f w p g k
places f _ _ _ k single_bytes = grind arith
places f _ _ _ k pairs_of_bytes = grind arith
places f _ _ _ k single_words = grind arith
places f _ _ _ k pairs_of_words = grind arith

-- whole cells are whole values
pub whole_values : (n w p g : ℕ) → Shape w p g → n * g % w ≡ 0
whole_values n _ _ _ single_bytes = omega arith
whole_values n _ _ _ pairs_of_bytes = omega arith
whole_values n _ _ _ single_words = omega arith
whole_values n _ _ _ pairs_of_words = omega arith

pub count_values : (n w p g : ℕ) → Shape w p g → n * g / w ≡ n * p
count_values n _ _ _ single_bytes = omega arith
count_values n _ _ _ pairs_of_bytes = omega arith
count_values n _ _ _ single_words = omega arith
count_values n _ _ _ pairs_of_words = omega arith

-- ---- bytes

-- the low byte takes what is added
byte_sum : (nz h r : ℕ) → r < 2 → nz ≤ 32 → h ≤ 200 → byte_of (nz + h) r ≡ byte_of nz r + cond (eqb r 0) h 0
byte_sum nz h zero lt low high = low_byte (nz + h) (omega arith) ∙ ap (λ m. m + h) (sym (low_byte nz (omega arith)))
byte_sum nz h (suc zero) lt low high =
    let nothing : byte_of nz 1 ≡ byte_of nz 1 + 0 = omega arith in
    high_byte (nz + h) (omega arith) ∙ sym (high_byte nz (omega arith)) ∙ nothing
byte_sum nz h (suc (suc r)) lt low high = absurd (omega arith)

-- noise is low enough for pulses
byte_low : (nz r : ℕ) → nz ≤ 32 → byte_of nz r ≤ most_low
byte_low nz r low =
    let quotient = div-le_self nz (256 ^ r) in
    omega arith

pub noise_low : (number first w state : ℕ) (values : List ℕ) → AreNoise number first w state values
    → All (λ x. x ≤ most_low) values
noise_low number first w state values are = λ k d lt.
    let small = byte_low (noise number (first + k / w)) (k % w) (noise_bound number (first + k / w)) in
    subst (λ (y : ℕ). y ≤ most_low) (sym (get_or_default values k d 0 lt ∙ are.bytes k lt)) small

-- what the pulses add to a cell of the bytes
height_is : (s : MakeSpec) (first i : ℕ) → 0 < s.channels
    → pulse_height s (first * s.channels + i) ≡ by_train s s.channels first i
unfolding pulse_height
height_is s first i some =
    let n : ℕ = s.channels in
    let r : (first * n + i) % n ≡ i % n = mul-add-mod_self_right first n i in
    let q : (first * n + i) / n ≡ first + i / n = mul-add-div_right some first i in
    let below : i % n < n = mod_below i n some in
    let yes : ltb (i % n) n ≡ true = grind (arith, nat_tests) in
    ap₂ (λ c t. cond (is_on_train s c t) s.height 0) r q
    ∙ ap (λ b. cond (b && is_on_train s (i % n) (first + i / n)) s.height 0) (sym yes)

height_bound : (s : MakeSpec) (i : ℕ) → s.height ≤ 200 → pulse_height s i ≤ 200
unfolding pulse_height
height_bound s i low = at_most (is_on_train s (i % s.channels) (i / s.channels))
  where
    at_most : (b : Bool) → cond b s.height 0 ≤ 200
    at_most true = low
    at_most false = omega arith

-- one byte
byte_is : (s : MakeSpec) (first state k : ℕ) (noises made : List ℕ) → SpecInRange s → k < length noises
    → AreNoise s.number (values_before s first) (value_bytes s) state noises
    → Raises s noises made (by_train s s.channels first)
    → slice_index made k ≡ data_byte s (first * spectrum_bytes s + k)
unfolding data_byte
byte_is s first state k noises made r lt are raised =
    let n : ℕ = s.channels in
    let w : ℕ = value_bytes s in
    let g : ℕ = cell_bytes s in
    let f : ℕ = first * n in
    let i : ℕ = k / g in
    let x : ℕ = k % g in
    let at = places f w s.npol g k (shape_of s.nbit s.npol r.bits r.polarisations) in
    let start : first * spectrum_bytes s + k ≡ f * g + k = omega arith in
    let whole : i * g + x ≡ k = div-add-mod' k g in
    let v : ℕ = f * s.npol + k / w in
    let nz : ℕ = noise s.number v in
    let h : ℕ = pulse_height s (f + i) in
    let sum : slice_index made k ≡ slice_index noises k + cond (eqb (x % w) 0) (by_train s n first i) 0 =
    subst (λ (j : ℕ). slice_index made j ≡ slice_index noises j + cond (eqb (x % w) 0) (by_train s n first i) 0) whole
    (raised.byte i x at.byte (omega arith)) in
    let grown : slice_index made k ≡ byte_of nz (k % w) + cond (eqb (k % w) 0) h 0 =
    sum ∙ ap₂ (λ y m. y + m) (are.bytes k lt)
    (ap₂ (λ m a. cond (eqb m 0) a 0) at.within (sym (height_is s first i (let c = r.few_channels in omega arith)))) in
    let value_is : made_value s ((f * g + k) / w) ≡ nz + h =
    ap₂ (λ a b. noise s.number a + pulse_height s b) at.value at.cell in
    grown ∙ sym (byte_sum nz h (k % w) at.low (noise_bound s.number v) (height_bound s (f + i) r.height))
    ∙ sym (ap (λ j. byte_of (made_value s (j / w)) (j % w)) start ∙ ap₂ (λ a b. byte_of a b) value_is at.rest)

pub data_is : (s : MakeSpec) (first state : ℕ) (noises made : List ℕ) → SpecInRange s
    → length made ≡ length noises
    → AreNoise s.number (values_before s first) (value_bytes s) state noises
    → Raises s noises made (by_train s s.channels first)
    → made ≡ data_part s (first * spectrum_bytes s) (length noises)
unfolding data_part
data_is s first state noises made r long are raised =
    let start : ℕ = first * spectrum_bytes s in
    let count : length (map (data_byte s) (range_with_len start (length noises))) ≡ length noises =
    length-map-range_with_len (data_byte s) start (length noises) in
    same_lists made (map (data_byte s) (range_with_len start (length noises))) (long ∙ sym count) (λ k d lt.
    let within : k < length noises = omega arith in
    get_or_default made k d 0 lt ∙ byte_is s first state k noises made r within are raised
    ∙ sym (get_or-map-range_with_len (data_byte s) start (length noises) k (start + k) d within refl))

-- ---- where the generator stands

pub whole_bytes : (s : MakeSpec) (count : ℕ) → SpecInRange s → count * spectrum_bytes s % value_bytes s ≡ 0
whole_bytes s count r =
    let same : count * spectrum_bytes s ≡ count * s.channels * cell_bytes s = omega arith in
    ap (λ m. m % value_bytes s) same
    ∙ whole_values (count * s.channels) (value_bytes s) s.npol (cell_bytes s)
    (shape_of s.nbit s.npol r.bits r.polarisations)

pub values_are : (s : MakeSpec) (first count : ℕ) → SpecInRange s
    → values_before s first + count * spectrum_bytes s / value_bytes s ≡ values_before s (first + count)
values_are s first count r =
    let same : count * spectrum_bytes s ≡ count * s.channels * cell_bytes s = omega arith in
    let counted : count * spectrum_bytes s / value_bytes s ≡ count * s.channels * s.npol =
    ap (λ m. m / value_bytes s) same
    ∙ count_values (count * s.channels) (value_bytes s) s.npol (cell_bytes s)
    (shape_of s.nbit s.npol r.bits r.polarisations) in
    let sum : values_before s first + count * s.channels * s.npol ≡ values_before s (first + count) = omega arith in
    ap (λ m. values_before s first + m) counted ∙ sum
