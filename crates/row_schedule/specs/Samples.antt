-- The samples of the next spectra.
-- Source: this project's choice.
use Rattle.std.specs.Prelude.{◌≡◌, ℕ, ◌+◌, ◌*◌, ◌<◌, List, slice_index}
use Rattle.row_schedule.specs.declared.samples.Samples.{Samples}
use Rattle.row_schedule.specs.declared.samples.Samples.TheVariants.{Words, Bytes}

-- the numbers that are lent, whatever their width
abbrev pub values_of : Samples → List ℕ
values_of (Words words) = words.now
values_of (Bytes bytes) = bytes.now

-- Row c of the list, which begins at c * chunk, has the `spectra` samples of channel c from
-- spectrum u on; `x c t` is the sample of channel c at spectrum t.
abbrev pub AreNext : (ℕ → ℕ → ℕ) → ℕ → ℕ → ℕ → ℕ → List ℕ → Type 0
AreNext x channels chunk u spectra samples = (c i : ℕ) → c < channels → i < spectra →
    slice_index samples (c * chunk + i) ≡ x c (u + i)
