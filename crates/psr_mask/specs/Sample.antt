-- A sample of a search without the first channel: its words, its file and its text.
-- Source: this project's choice.
use Rattle.std.specs.Prelude.{◌≡◌, ℕ, ◌-◌, List, [], ◌∷◌, ◌++◌, length, replicate, Some, codes}
use Rattle.std.specs.Io.KnownBytes.{append_known}
use Rattle.psr_base.specs.Told.{InputsSeen}
use Rattle.psr_base.specs.Written.{SinkSeen}
use Rattle.run_outcome.specs.declared.ran.Ran.{Ran}
use Rattle.psr_mask.specs.Outcome.{Outcome}

abbrev pub sample_words : List (List ℕ)
sample_words =
    codes "psr_mask" ∷ codes "0" ∷ codes "--mean" ∷ codes "1" ∷ codes "--sd" ∷ codes "2"
    ∷ codes "--snr" ∷ codes "7" ∷ codes "--max-delay" ∷ codes "1"
    ∷ codes "--widths" ∷ codes "1" ∷ codes "pulse.dada" ∷ []

-- two channels of 8 bits, the highest first
abbrev pub sample_header : List ℕ
sample_header = codes "HDR_SIZE 4096\nNCHAN 2\nNBIT 8\nTSAMP 64\nFREQ 1400\nBW -200\n"

abbrev pub sample_data : List ℕ
sample_data = 10 ∷ 0 ∷ 0 ∷ 20 ∷ 0 ∷ 0 ∷ []

abbrev pub sample_file : List ℕ
sample_file = sample_header ++ replicate (4096 - length sample_header) 0 ++ sample_data

abbrev pub sample_text : List ℕ
sample_text = codes "PULSE 1 0 0.000 1 20 1\nEND 1 0 3\n"

-- a search of it that ends with status 0 has written exactly its two lines
abbrev pub SampleIsFound : Type 0 → Type 0
SampleIsFound is_calm = (inputs : InputsSeen)
    (out_before out_after notes_before notes_after : SinkSeen) (ran : Ran) →
    inputs.told.bytes_under (codes "pulse.dada") ≡ Some sample_file →
    Outcome sample_words inputs is_calm out_before out_after notes_before notes_after ran →
    ran.status ≡ 0 → out_after.written ≡ append_known out_before.written sample_text
