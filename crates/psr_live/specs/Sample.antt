-- Samples of a search that prints its parts while the data come: words, their file and their text.
-- Source: this project's choice.
use Rattle.std.specs.Prelude.{◌≡◌, ℕ, ◌-◌, List, [], ◌∷◌, ◌++◌, length, replicate, Some, codes}
use Rattle.std.specs.Io.KnownBytes.{append_known}
use Rattle.psr_live.specs.Causes.{LiveSeen, IsOutcome}

-- parts of 512 spectra, from the first spectrum on, with these options and of this file
abbrev pub words_with : List (List ℕ) → List (List ℕ)
words_with more =
    codes "psr_live" ∷ codes "512" ∷ codes "new" ∷ codes "--mean" ∷ codes "1" ∷ codes "--sd"
    ∷ codes "2" ∷ codes "--snr" ∷ codes "7" ∷ codes "--max-delay" ∷ codes "1"
    ∷ codes "--widths" ∷ codes "1" ∷ more ++ codes "pulse.dada" ∷ []

abbrev pub sample_words : List (List ℕ)
sample_words = words_with []

-- the same where no pulse of a part is printed
abbrev pub crowded_words : List (List ℕ)
crowded_words = words_with (codes "--max-candidates" ∷ codes "0" ∷ [])

-- two channels of 8 bits, the highest first
abbrev pub sample_header : List ℕ
sample_header = codes "HDR_SIZE 4096\nNCHAN 2\nNBIT 8\nTSAMP 64\nFREQ 1400\nBW -200\n"

abbrev pub sample_data : List ℕ
sample_data = 10 ∷ 0 ∷ 0 ∷ 20 ∷ 0 ∷ 0 ∷ []

abbrev pub sample_file : List ℕ
sample_file = sample_header ++ replicate (4096 - length sample_header) 0 ++ sample_data

abbrev pub sample_text : List ℕ
sample_text = codes "PULSE 1 1 0.104 1 30 3\nEND 1 0 3\n"

abbrev pub crowded_text : List ℕ
crowded_text = codes "MANY 3 1\nEND 0 0 3\n"

-- a search of the file for these words that ends with status 0 has written exactly this text
abbrev pub Writes : Type 0 → List (List ℕ) → List ℕ → Type 0
Writes is_calm words text = (seen : LiveSeen) →
    seen.inputs.told.bytes_under (codes "pulse.dada") ≡ Some sample_file →
    IsOutcome words is_calm seen → seen.status ≡ 0 →
    seen.out_after.written ≡ append_known seen.out_before.written text

pub record SamplesAreFound (is_calm : Type 0) : Type 0 where
  pub printed : Writes is_calm sample_words sample_text
  pub crowded : Writes is_calm crowded_words crowded_text
