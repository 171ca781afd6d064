-- The levelled file of the files that settings name.
-- Source: this project's choice.
use Rattle.std.specs.Prelude.{ℕ, List}
use Rattle.psr_base.specs.Told.{Told}
use Rattle.stream_model.specs.Walk.{FileStream, transfer_data}
use Rattle.run_outcome.specs.Runs.{first_observation}
use Rattle.search_opening.specs.Settings.{OfRun}
use Rattle.level_words.specs.Settings.{LevelSeen, SayLevel}
use Rattle.drive_stream.specs.Outcome.{first_header}
use Rattle.psr_level.specs.Levels.{file_of}

-- the levelled file: its header, and all data levelled
abbrev pub level_file : LevelSeen → FileStream → List ℕ
level_file s w = file_of s (first_observation w 0) (first_header w) (transfer_data w 0)

-- P holds of the settings that the words say and of the files that they name, if the bytes of all are told
abbrev pub ForLevel : List (List ℕ) → Told → (LevelSeen → FileStream → Type 0) → Type 0
ForLevel words told P = (s : LevelSeen) → SayLevel words s → OfRun told s.run (P s)
