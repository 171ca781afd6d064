-- A sample of two observations that are searched and recorded: its words, its files, its text and the files that it
-- makes.
-- Source: this project's choice.
use Rattle.std.specs.Prelude.{◌≡◌, ℕ, ◌-◌, ◌⊎◌, List, [], ◌∷◌, ◌++◌, length, replicate, Some, codes}
use Rattle.std.specs.Io.KnownBytes.{append_known}
use Rattle.psr_base.specs.Count.{Rose}
use Rattle.psr_base.specs.Made.{NamedBytes, FilesSeen}
use Rattle.psr_base.specs.Told.{InputsSeen}
use Rattle.psr_base.specs.Written.{SinkSeen}
use Rattle.run_outcome.specs.declared.ran.Ran.{Ran}
use Rattle.run_outcome.specs.Outcomes.{MadeAll}
use Rattle.psr_search.specs.Outcome.{Outcome}
use Rattle.psr_search.specs.Causes.{Answers}

-- the words of a search of two files, each an observation of its own; and with recording, or with a limit
abbrev pub words_of_two : List (List ℕ) → List (List ℕ)
words_of_two options =
    codes "psr_search" ∷ codes "--mean" ∷ codes "1" ∷ codes "--sd" ∷ codes "2"
    ∷ codes "--snr" ∷ codes "7" ∷ codes "--max-delay" ∷ codes "1" ∷ codes "--widths" ∷ codes "1"
    ∷ (options ++ codes "first.dada" ∷ codes "+" ∷ codes "next.dada" ∷ [])

abbrev pub recording_words : List (List ℕ)
recording_words = words_of_two
    (codes "--record" ∷ codes "--file-size" ∷ codes "4" ∷ codes "--max-bytes" ∷ codes "1000" ∷ [])

abbrev pub limited_words : List (List ℕ)
limited_words = words_of_two (codes "--max-candidates" ∷ codes "0" ∷ [])

-- a file of 4096 bytes of header and then data
abbrev pub file_of : List ℕ → List ℕ → List ℕ
file_of header bytes = header ++ (replicate (4096 - length header) 0 ++ bytes)

-- two channels of 8 bits, the highest first, from one minute and from the next
abbrev pub first_header : List ℕ
first_header = codes
    "HDR_SIZE 4096\nUTC_START 2024-01-02-03:04:05\nNCHAN 2\nNBIT 8\nTSAMP 64\nFREQ 1400\nBW -200\n"

abbrev pub next_header : List ℕ
next_header = codes
    "HDR_SIZE 4096\nUTC_START 2024-01-02-03:05:05\nNCHAN 2\nNBIT 8\nTSAMP 64\nFREQ 1400\nBW -200\n"

abbrev pub first_file : List ℕ
first_file = file_of first_header (10 ∷ 0 ∷ 0 ∷ 20 ∷ 0 ∷ 0 ∷ [])

abbrev pub next_file : List ℕ
next_file = file_of next_header (0 ∷ 0 ∷ [])

-- a pulse in the first observation, and none in the next
abbrev pub text_of_two : List ℕ
text_of_two = codes "OBS 0\nPULSE 1 1 0.104 1 30 3\nEND 1 0 3\nOBS 1\nEND 0 0 1\n"

-- the headers of the files that are made
abbrev pub made_header : List ℕ → List ℕ → List ℕ → List ℕ
made_header header offset number =
    header ++ (codes "OBS_OFFSET " ++ (offset ++ (codes "\nFILE_NUMBER " ++ (number
    ++ codes "\nFILE_SIZE 0000000000000004\n"))))

-- two files of the first observation, of at most 4 data bytes each, and one of the next
abbrev pub made_files : List NamedBytes
made_files =
    record {
      name = codes "2024-01-02-03:04:05_0000000000000000.000000.dada";
      bytes = file_of
          (made_header first_header (codes "0000000000000000") (codes "000000"))
          (10 ∷ 0 ∷ 0 ∷ 20 ∷ []);
    }
    ∷ record {
      name = codes "2024-01-02-03:04:05_0000000000000004.000001.dada";
      bytes = file_of
          (made_header first_header (codes "0000000000000004") (codes "000001")) (0 ∷ 0 ∷ []);
    }
    ∷ record {
      name = codes "2024-01-02-03:05:05_0000000000000000.000000.dada";
      bytes = file_of
          (made_header next_header (codes "0000000000000000") (codes "000000")) (0 ∷ 0 ∷ []);
    }
    ∷ []

-- the five lines are written, and the three files are made
pub record IsFoundAndMade
    (files_before files_after : FilesSeen) (out_before out_after : SinkSeen) : Type 0 where
  pub text : out_after.written ≡ append_known out_before.written text_of_two
  pub files : MadeAll made_files files_before files_after

-- P holds of each search of both files with these words, where their bytes are told, over inputs that are calm or count
-- no fault, and an output and files that count none
abbrev pub ForBoth : List (List ℕ) → Type 0
    → (FilesSeen → FilesSeen → SinkSeen → SinkSeen → ℕ → Type 0) → Type 0
ForBoth words is_calm P = (inputs : InputsSeen) (files_before files_after : FilesSeen)
    (out_before out_after notes_before notes_after : SinkSeen) (ran : Ran) →
    inputs.told.bytes_under (codes "first.dada") ≡ Some first_file →
    inputs.told.bytes_under (codes "next.dada") ≡ Some next_file →
    Outcome words inputs is_calm files_before files_after out_before out_after notes_before
    notes_after ran →
    is_calm ⊎ ¬ Rose inputs.faults_before inputs.faults_after →
    ¬ Rose out_before.faults out_after.faults →
    ¬ Rose files_before.faults files_after.faults →
    P files_before files_after out_before out_after ran.status

-- it has its text and its files, or there was no memory
abbrev pub BothAreRecorded : Type 0 → Type 0
BothAreRecorded is_calm = ForBoth recording_words is_calm
    (λ files_before files_after out_before out_after status.
    ((status ≡ 0) × IsFoundAndMade files_before files_after out_before out_after)
    ⊎ (status ≡ 5))

-- where no candidate may be, the one of the first observation is too many
abbrev pub BothAreTooMany : Type 0 → Type 0
BothAreTooMany is_calm = ForBoth limited_words is_calm
    (λ files_before files_after out_before out_after status. Answers status 9)
