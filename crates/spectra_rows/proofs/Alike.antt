-- Samples that are read from two lists of bytes.
use Rattle.std.proofs.Common.{◌≡◌, ℕ, ◌+◌, ◌*◌, ◌<◌, inl, inr, List, slice_index, ◌∙◌, sym, ap, subst, arith}
use Rattle.search_model.specs.Samples.{sample_bytes, sample_at}
use Rattle.spectra_rows.specs.Unpacking.{AreValues}

-- there are four kinds of samples
pub four_kinds : (P : ℕ → ℕ → Type 0) → P 8 1 → P 8 2 → P 16 1 → P 16 2 → (nbit npol : ℕ) → AreValues nbit npol
    → P nbit npol
four_kinds P a b c d nbit npol values = elim values.bits [
  | inl bits ↦ elim values.polarisations [
    | inl pols ↦ subst (λ (n : ℕ). P n npol) (sym bits) (subst (λ (p : ℕ). P 8 p) (sym pols) a)
    | inr pols ↦ subst (λ (n : ℕ). P n npol) (sym bits) (subst (λ (p : ℕ). P 8 p) (sym pols) b)
  ]
  | inr bits ↦ elim values.polarisations [
    | inl pols ↦ subst (λ (n : ℕ). P n npol) (sym bits) (subst (λ (p : ℕ). P 16 p) (sym pols) c)
    | inr pols ↦ subst (λ (n : ℕ). P n npol) (sym bits) (subst (λ (p : ℕ). P 16 p) (sym pols) d)
  ]
]

pub some_bytes : (nbit npol : ℕ) → AreValues nbit npol → 0 < sample_bytes nbit npol
some_bytes = four_kinds (λ nbit npol. 0 < sample_bytes nbit npol) (omega arith) (omega arith) (omega arith)
    (omega arith)

-- the sample of two lists whose bytes agree there
module _ (a b : List ℕ) (i j : ℕ) where
  byte : (n : ℕ) → ((k : ℕ) → k < n → slice_index a (i * n + k) ≡ slice_index b (j * n + k))
      → (k x y : ℕ) → k < n → x ≡ i * n + k → y ≡ j * n + k → slice_index a x ≡ slice_index b y
  byte n agree k x y lt is_x is_y =
      ap (λ p. slice_index a p) is_x ∙ agree k lt ∙ sym (ap (λ p. slice_index b p) is_y)

  abbrev Alike : ℕ → ℕ → Type 0
  Alike nbit npol = ((k : ℕ) → k < sample_bytes nbit npol
      → slice_index a (i * sample_bytes nbit npol + k) ≡ slice_index b (j * sample_bytes nbit npol + k))
      → sample_at nbit npol a i ≡ sample_at nbit npol b j

  alike_8_1 : Alike 8 1
  alike_8_1 agree =
      let low = byte 1 agree 0 (i * 1 + 0) (j * 1 + 0) (omega arith) (omega arith) (omega arith) in
      omega arith

  alike_8_2 : Alike 8 2
  alike_8_2 agree =
      let low = byte 2 agree 0 (i * 2 + 0) (j * 2 + 0) (omega arith) (omega arith) (omega arith) in
      let second = byte 2 agree 1 (i * 2 + 1) (j * 2 + 1) (omega arith) (omega arith) (omega arith) in
      omega arith

  alike_16_1 : Alike 16 1
  alike_16_1 agree =
      let low = byte 2 agree 0 (i * 2 + 0) (j * 2 + 0) (omega arith) (omega arith) (omega arith) in
      let high = byte 2 agree 1 (i * 2 + 0 + 1) (j * 2 + 0 + 1) (omega arith) (omega arith) (omega arith) in
      omega arith

  alike_16_2 : Alike 16 2
  alike_16_2 agree =
      let low = byte 4 agree 0 (i * 4 + 0) (j * 4 + 0) (omega arith) (omega arith) (omega arith) in
      let high = byte 4 agree 1 (i * 4 + 0 + 1) (j * 4 + 0 + 1) (omega arith) (omega arith) (omega arith) in
      let second = byte 4 agree 2 (i * 4 + 2) (j * 4 + 2) (omega arith) (omega arith) (omega arith) in
      let second_high = byte 4 agree 3 (i * 4 + 2 + 1) (j * 4 + 2 + 1) (omega arith) (omega arith) (omega arith) in
      omega arith

  pub sample_alike : (nbit npol : ℕ) → AreValues nbit npol → Alike nbit npol
  sample_alike = four_kinds Alike alike_8_1 alike_8_2 alike_16_1 alike_16_2
