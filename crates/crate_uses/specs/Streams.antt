-- The first spectra of a stream of samples.
-- Source: this project's choice.
use Rattle.std.specs.Prelude.{◌≡◌, ℕ, ◌+◌, ◌*◌, ◌≤◌, ◌<◌, List, slice_index}
use Rattle.search_model.specs.Samples.{Filterbank}

-- a band of so many channels, no sample of which is above `most`; the first spectra of channel c are those of `rows`
-- from c * spectra on
pub record BeginsWith (f : Filterbank) (channels most : ℕ) (rows : List ℕ) (spectra : ℕ) : Type 0
  where
    pub channels_are : f.channels ≡ channels
    pub small : (c t : ℕ) → f.value c t ≤ most
    pub samples : (c t : ℕ) → c < channels → t < spectra →
        slice_index rows (c * spectra + t) ≡ f.value c t
