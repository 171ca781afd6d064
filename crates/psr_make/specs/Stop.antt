-- How a run that stopped is answered.
-- Source: this project's choice.
use Rattle.std.specs.Prelude.{◌≡◌, ℕ, List, ◌++◌, codes, Some}
use Rattle.clap.specs.Walk.{Text}
use Rattle.clap.specs.declared.error.kind.ErrorKind.{ErrorKind}
use Rattle.clap.specs.declared.error.kind.ErrorKind.TheVariants.{OutOfMemory}
use Rattle.psr_make.specs.declared.stop.Stop.{Stop}
use Rattle.psr_make.specs.declared.stop.Stop.TheVariants.{Words, Value, Memory, RecordFault}
use Rattle.psr_make.specs.Table.{option_name}
use Rattle.psr_make.specs.Command.{TakesWords, matches_on}
use Rattle.psr_make.specs.Request.{AreWords, first_out_of_range}

-- the exit status
abbrev pub status_of : Stop → ℕ
status_of Words = 2
status_of (Value opt) = 2
status_of Memory = 5
status_of RecordFault = 11

-- the line to the notes
abbrev pub note_of : Stop → List ℕ
note_of Words = codes "words refused\n"
note_of (Value opt) = codes "option --" ++ option_name opt ++ codes " refused\n"
note_of Memory = codes "no memory\n"
note_of RecordFault = codes "record fault\n"

-- the stop of a kind of clap's errors
abbrev pub stop_of_kind : ErrorKind → Stop
stop_of_kind OutOfMemory = Memory
stop_of_kind _ = Words

-- what a stop of clap says of the words
abbrev pub ExplainsClap : List Text → Stop → Type 0
ExplainsClap words Words = ¬ TakesWords words
ExplainsClap words Memory = Unit {0}
ExplainsClap words _ = ⊥

-- what a stop says of the words: they are refused, or the first option whose value is out of its range is named
abbrev pub ExplainsStop : List Text → Stop → Type 0
ExplainsStop words Words = (name : Text) → ¬ AreWords words name
ExplainsStop words (Value opt) =
    (name : Text) × AreWords words name × (first_out_of_range (matches_on words) ≡ Some opt)
ExplainsStop words _ = Unit {0}

-- a stop that reading the words may come to
abbrev pub IsReadingStop : Stop → Type 0
IsReadingStop RecordFault = ⊥
IsReadingStop _ = Unit {0}
