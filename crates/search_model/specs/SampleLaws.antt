-- Laws of the samples of data bytes; a function of this crate carries them.
-- Source: this project's choice.
use Rattle.std.specs.Prelude.{◌≡◌, ℕ, ◌-◌, ◌*◌, ◌^◌, ◌<◌, ◌≤◌, ◌⊎◌, All, List, ◌++◌, length, slice_index}
use Rattle.search_model.specs.Samples.{samples_of}

-- bytes of 8 bits and one polarisation are the samples; what is appended to the bytes changes none of the samples that
-- are whole; and no sample is above the sum of the greatest values
pub record SamplesOfBytes : Type 0 where
  pub plain : (bytes : List ℕ) → samples_of 8 1 bytes ≡ bytes
  pub kept : (nbit npol : ℕ) (bytes more : List ℕ) (i : ℕ) → (nbit ≡ 8) ⊎ (nbit ≡ 16) → 0 < npol →
      i < length (samples_of nbit npol bytes) →
      slice_index (samples_of nbit npol (bytes ++ more)) i
      ≡ slice_index (samples_of nbit npol bytes) i
  pub bounded : (nbit npol : ℕ) (bytes : List ℕ) (i : ℕ) → (nbit ≡ 8) ⊎ (nbit ≡ 16) →
      All (λ byte. byte < 256) bytes →
      slice_index (samples_of nbit npol bytes) i ≤ npol * (2 ^ nbit - 1)
