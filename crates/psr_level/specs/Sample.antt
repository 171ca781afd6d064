-- A sample of a levelling: its words, its file, and the levelled file.
-- Source: this project's choice.
use Rattle.std.specs.Prelude.{◌≡◌, ℕ, ◌-◌, ◌⊎◌, List, [], ◌∷◌, ◌++◌, length, replicate, Some, codes}
use Rattle.std.specs.Io.KnownBytes.{append_known}
use Rattle.psr_base.specs.Told.{Told}
use Rattle.psr_base.specs.Written.{SinkSeen, WroteAll}
use Rattle.level_words.specs.Settings.{LevelSeen, SayLevel}
use Rattle.psr_level.specs.Complete.{IsComplete, IsOutside}
use Rattle.psr_level.specs.Files.{ForLevel, level_file}

abbrev pub sample_words : List (List ℕ)
sample_words =
    codes "psr_level" ∷ codes "--spectra" ∷ codes "3" ∷ codes "--mean" ∷ codes "64.3"
    ∷ codes "--mask" ∷ codes "1" ∷ codes "drift.dada" ∷ []

-- two channels of 8 bits, the highest first
abbrev pub sample_header : List ℕ
sample_header = codes "HDR_SIZE 4096\nNCHAN 2\nNBIT 8\nTSAMP 64\nFREQ 1400\nBW -200\n"

-- the file with this header and these data
abbrev pub sample_with : List ℕ → List ℕ
sample_with bytes = sample_header ++ replicate (4096 - length sample_header) 0 ++ bytes

-- four spectra, of which three are a stretch
abbrev pub sample_data : List ℕ
sample_data = 3 ∷ 7 ∷ 9 ∷ 8 ∷ 5 ∷ 7 ∷ 1 ∷ 9 ∷ []

-- their levels, where the second channel is masked
abbrev pub sample_levels : List ℕ
sample_levels = 55 ∷ 64 ∷ 75 ∷ 64 ∷ 62 ∷ 64 ∷ 49 ∷ 65 ∷ []

-- A levelling of the sample whose outcome is complete, and which has written the levelled file at status 0, ends with
-- status 0 and has written exactly these bytes, unless memory, inputs or output failed.
abbrev pub SampleIsLevelled : Type 0
SampleIsLevelled = (told : Told) (before after : SinkSeen) (status : ℕ) →
    told.bytes_under (codes "drift.dada") ≡ Some (sample_with sample_data) →
    ((s : LevelSeen) → SayLevel sample_words s → IsComplete s told status) →
    (status ≡ 0 → ForLevel sample_words told
    (λ s w. WroteAll (level_file s w) before after)) →
    IsOutside status ⊎ ((status ≡ 0)
    × (after.written ≡ append_known before.written (sample_with sample_levels)))
