-- A sample of a search of three beams: its words, its files and its text; and its line if one of them has no header.
-- Source: this project's choice.
use Rattle.std.specs.Prelude.{◌≡◌, ℕ, ◌-◌, List, [], ◌∷◌, ◌++◌, length, replicate, Some, codes}
use Rattle.std.specs.Io.KnownBytes.{append_known}
use Rattle.psr_base.specs.Told.{InputsSeen}
use Rattle.psr_base.specs.Written.{SinkSeen, Noted}
use Rattle.psr_beams.specs.Seen.{told_in}
use Rattle.psr_beams.specs.Outcome.{Outcome, BeamsSeen}
use Rattle.psr_beams.specs.Causes.{Answers}

abbrev pub sample_words : List (List ℕ)
sample_words =
    codes "psr_beams" ∷ codes "0" ∷ codes "1" ∷ codes "--mean" ∷ codes "1" ∷ codes "--sd"
    ∷ codes "2" ∷ codes "--snr" ∷ codes "7" ∷ codes "--max-delay" ∷ codes "1"
    ∷ codes "--widths" ∷ codes "1" ∷ codes "a" ∷ codes "b" ∷ codes "c" ∷ []

-- two channels of 8 bits, the highest first
abbrev pub sample_header : List ℕ
sample_header = codes "HDR_SIZE 4096\nNCHAN 2\nNBIT 8\nTSAMP 64\nFREQ 1400\nBW -200\n"

abbrev pub file_with : List ℕ → List ℕ
file_with bytes = sample_header ++ replicate (4096 - length sample_header) 0 ++ bytes

-- a pulse, which two beams have, and nothing
abbrev pub pulse_file : List ℕ
pulse_file = file_with (10 ∷ 0 ∷ 0 ∷ 20 ∷ 0 ∷ 0 ∷ [])

abbrev pub empty_file : List ℕ
empty_file = file_with (0 ∷ 0 ∷ 0 ∷ 0 ∷ 0 ∷ 0 ∷ [])

abbrev pub sample_text : List ℕ
sample_text = codes "BEAM 0\nRFI 1 1 0.104 1 30 3\nEND 1 0 3\n"
    ++ codes "BEAM 1\nRFI 1 1 0.104 1 30 3\nEND 1 0 3\nBEAM 2\nEND 0 0 3\n"

-- a search of them that ends with status 0 has written exactly these lines
abbrev pub SampleIsFound : (ℕ → Type 0) → Type 0
SampleIsFound is_calm = (inputs : ℕ → InputsSeen)
    (out_before out_after notes_before notes_after : SinkSeen) (status : ℕ) →
    (told_in inputs 0).bytes_under (codes "a") ≡ Some pulse_file →
    (told_in inputs 1).bytes_under (codes "b") ≡ Some pulse_file →
    (told_in inputs 2).bytes_under (codes "c") ≡ Some empty_file →
    Outcome sample_words inputs is_calm out_before out_after notes_before notes_after status →
    status ≡ 0 → out_after.written ≡ append_known out_before.written sample_text

-- too few bytes for a header
abbrev pub short_file : List ℕ
short_file = sample_header ++ replicate (4095 - length sample_header) 0

abbrev pub short_line : List ℕ
short_line = codes "header of file 1 refused: Short 4095\n"

-- A search of them in which beam 1 has such a file is refused by its header, over calm inputs of beams 0 and 1,
-- whatever is told of beam 2: its file may be missing.
abbrev pub SampleIsRefused : (ℕ → Type 0) → Type 0
SampleIsRefused is_calm = (seen : BeamsSeen) →
    (seen.inputs 0).told.bytes_under (codes "a") ≡ Some pulse_file →
    (seen.inputs 1).told.bytes_under (codes "b") ≡ Some short_file → is_calm 0 → is_calm 1 →
    Outcome sample_words seen.inputs is_calm seen.out_before seen.out_after seen.notes_before
    seen.notes_after seen.status →
    Answers seen.status 3 × (seen.status ≡ 3 → Noted short_line seen.notes_before seen.notes_after)
