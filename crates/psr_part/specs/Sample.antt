-- A sample of the search of a part: its words, its file and its text.
-- Source: this project's choice.
use Rattle.std.specs.Prelude.{◌≡◌, ℕ, ◌-◌, List, [], ◌∷◌, ◌++◌, length, replicate, Some, codes}
use Rattle.std.specs.Io.KnownBytes.{append_known}
use Rattle.psr_part.specs.Causes.{PartSeen, IsOutcome}

-- the first two spectra, from the first one on
abbrev pub sample_words : List (List ℕ)
sample_words =
    codes "psr_part" ∷ codes "2" ∷ codes "new" ∷ codes "--mean" ∷ codes "1" ∷ codes "--sd"
    ∷ codes "2" ∷ codes "--snr" ∷ codes "7" ∷ codes "--max-delay" ∷ codes "1"
    ∷ codes "--widths" ∷ codes "1" ∷ codes "pulse.dada" ∷ []

-- two channels of 8 bits, the highest first
abbrev pub sample_header : List ℕ
sample_header = codes "HDR_SIZE 4096\nNCHAN 2\nNBIT 8\nTSAMP 64\nFREQ 1400\nBW -200\n"

abbrev pub sample_data : List ℕ
sample_data = 10 ∷ 0 ∷ 0 ∷ 20 ∷ 0 ∷ 0 ∷ []

abbrev pub sample_file : List ℕ
sample_file = sample_header ++ replicate (4096 - length sample_header) 0 ++ sample_data

abbrev pub sample_text : List ℕ
sample_text = codes "PULSE 1 1 0.104 1 30 3\nCHECK 2 1\n"

-- a search of it that ends with status 0 has written exactly its two lines
abbrev pub SampleIsFound : Type 0 → Type 0
SampleIsFound is_calm = (seen : PartSeen) →
    seen.inputs.told.bytes_under (codes "pulse.dada") ≡ Some sample_file →
    IsOutcome sample_words is_calm seen → seen.ran.status ≡ 0 →
    seen.out_after.written ≡ append_known seen.out_before.written sample_text
