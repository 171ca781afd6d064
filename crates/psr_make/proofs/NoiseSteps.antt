-- One value of noise more.
use Rattle.std.proofs.Common.{◌≡◌, ℕ, ◌+◌, ◌*◌, ◌<◌, ◌≢◌, inl, inr, List, length, slice_index, set, ◌∙◌, sym, ap, arith}
use Rattle.std.proofs.lemmas.Bool.{cases_lt}
use Rattle.psr_make.specs.Draws.{noise}
use Rattle.psr_make.specs.Made.{byte_of}
use Rattle.psr_make.proofs.SplitMix.{noise_bound}
use Rattle.psr_make.proofs.Bytes.{low_byte, high_byte, set_here, set_elsewhere}

pub byte_more : (values : List ℕ) (i y number first : ℕ) → i < length values → y ≡ noise number (first + i)
    → ((k : ℕ) → k < i → slice_index values k ≡ byte_of (noise number (first + k)) 0)
    → (k : ℕ) → k < i + 1 → slice_index (set values i y) k ≡ byte_of (noise number (first + k)) 0
byte_more values i y number first lt is before k below = elim (cases_lt k i) [
  | inl h ↦ let ne : k ≢ i = omega arith in set_elsewhere values i y k ne ∙ before k h
  | inr h ↦
      let e : k ≡ i = omega arith in
      let bound = noise_bound number (first + k) in
      set_here values i y k e lt ∙ is ∙ ap (λ j. noise number (first + j)) (sym e)
      ∙ sym (low_byte (noise number (first + k)) (omega arith))
]

pub low_more : (values : List ℕ) (i y number first : ℕ) → 2 * i + 1 < length values → y ≡ noise number (first + i)
    → ((k : ℕ) → k < i → slice_index values (2 * k) ≡ byte_of (noise number (first + k)) 0)
    → (k : ℕ) → k < i + 1
    → slice_index (set (set values (2 * i) y) (2 * i + 1) 0) (2 * k) ≡ byte_of (noise number (first + k)) 0
low_more values i y number first lt is before k below =
    let odd : 2 * k ≢ 2 * i + 1 = omega arith in
    set_elsewhere (set values (2 * i) y) (2 * i + 1) 0 (2 * k) odd ∙ (elim (cases_lt k i) [
      | inl h ↦ let ne : 2 * k ≢ 2 * i = omega arith in set_elsewhere values (2 * i) y (2 * k) ne ∙ before k h
      | inr h ↦
          let e : k ≡ i = omega arith in
          let at : 2 * k ≡ 2 * i = omega arith in
          let bound = noise_bound number (first + k) in
          set_here values (2 * i) y (2 * k) at (omega arith) ∙ is ∙ ap (λ j. noise number (first + j)) (sym e)
          ∙ sym (low_byte (noise number (first + k)) (omega arith))
    ])

pub high_more : (values : List ℕ) (i y number first : ℕ) → 2 * i + 1 < length (set values (2 * i) y)
    → ((k : ℕ) → k < i → slice_index values (2 * k + 1) ≡ byte_of (noise number (first + k)) 1)
    → (k : ℕ) → k < i + 1
    → slice_index (set (set values (2 * i) y) (2 * i + 1) 0) (2 * k + 1) ≡ byte_of (noise number (first + k)) 1
high_more values i y number first lt before k below = elim (cases_lt k i) [
  | inl h ↦
      let ne : 2 * k + 1 ≢ 2 * i + 1 = omega arith in
      let even : 2 * k + 1 ≢ 2 * i = omega arith in
      set_elsewhere (set values (2 * i) y) (2 * i + 1) 0 (2 * k + 1) ne
      ∙ set_elsewhere values (2 * i) y (2 * k + 1) even ∙ before k h
  | inr h ↦
      let e : 2 * k + 1 ≡ 2 * i + 1 = omega arith in
      let bound = noise_bound number (first + k) in
      set_here (set values (2 * i) y) (2 * i + 1) 0 (2 * k + 1) e lt
      ∙ sym (high_byte (noise number (first + k)) (omega arith))
]
