-- Searches of parts, each of which goes on from the CHECK line of the one before it, write the text of the whole search.
-- Source: this project's choice.
use Rattle.std.specs.Prelude.{◌≡◌, ℕ, ◌+◌, ◌≤◌, ◌<◌, [], ◌++◌, List, Some}
use Rattle.psr_base.specs.Written.{WroteAll}
use Rattle.search_model.specs.Observed.{search_text}
use Rattle.search_model.specs.Parts.{check_line}
use Rattle.search_words.specs.Settings.{SettingsSeen}
use Rattle.stream_model.specs.Walk.{FileStream, transfer_data}
use Rattle.disk_feeder.specs.Plan.{AreTold}
use Rattle.warm_restart.specs.declared.checkpoint.Checkpoint.{Checkpoint}
use Rattle.warm_restart.specs.Checkpoint.{CanBeSaid}
use Rattle.warm_restart.specs.Joins.{lines_of_part, checkpoint_at}
use Rattle.run_outcome.specs.Lone.{SayAlone}
use Rattle.run_outcome.specs.Runs.{stream_for, first_observation}
use Rattle.psr_part.specs.Part.{until_in, check_text_of, spectra_in, part_search}
use Rattle.psr_part.specs.Causes.{PartSeen, IsOutcome}

-- a search of these words over these files has ended with its text
pub record HasEnded (is_calm : Type 0) (words : List (List ℕ)) (seen : PartSeen)
    (s : SettingsSeen) (files : List (List ℕ)) : Type 0 where
  pub outcome : IsOutcome words is_calm seen
  pub all : seen.ran.status ≡ 0
  pub says : (from : Checkpoint) → SayAlone (part_search words from) words s
  pub told : AreTold seen.inputs.told s.names files

-- where a search begins, before its first spectrum
abbrev pub first_spectrum : Checkpoint
first_spectrum = record { place = 0; pulses = 0 }

-- The lines of all pulses of a walk that end before the place of a checkpoint, which counts them. None is there before
-- the first spectrum.
pub record AreLinesUpTo (s : SettingsSeen) (w : FileStream) (lines : List ℕ) (at : Checkpoint) :
    Type 0 where
  pub lines_are : lines ≡ lines_of_part (first_observation w 0) s.search first_spectrum at.place
      (transfer_data w 0)
  pub at_is : at ≡ checkpoint_at (first_observation w 0) s.search first_spectrum at.place
      (transfer_data w 0)

-- What a search wrote that went on from a checkpoint, and stopped before spectrum `until`, which has others behind it:
-- more lines, and the CHECK line of a next checkpoint. All lines so far are then those up to that one, which counts at
-- most `limit` pulses more.
pub record WritesNext (s : SettingsSeen) (w : FileStream) (lines : List ℕ) (at : Checkpoint)
    (until : ℕ) (seen : PartSeen) : Type 0 where
  pub more : List ℕ
  pub pulses : ℕ
  pub wrote : WroteAll (more ++ check_line until pulses) seen.out_before seen.out_after
  pub few : pulses ≤ at.pulses + s.search.max_candidates
  pub next : AreLinesUpTo s w (lines ++ more) (record { place = until; pulses = pulses })

-- What a search wrote that went on from a checkpoint to the end of the data: what the lines so far lack of the text of
-- the whole search.
pub record WritesRest (s : SettingsSeen) (w : FileStream) (lines : List ℕ) (seen : PartSeen) :
    Type 0 where
  pub rest : List ℕ
  pub wrote : WroteAll rest seen.out_before seen.out_after
  pub whole : lines ++ rest ≡ search_text (first_observation w 0) s.search (transfer_data w 0)

-- A chain of searches with the same options and files: there are lines up to a checkpoint, and the search whose CHECK
-- is its line ended with its text. It wrote the next lines and a next checkpoint, or what was left. `new` is the CHECK
-- line of the first spectrum. So a chain of any number of parts writes the text of the whole search.
pub record PartsAreJoined (is_calm : Type 0) : Type 0 where
  pub begins : (s : SettingsSeen) (w : FileStream) → AreLinesUpTo s w [] first_spectrum
  pub goes_on : (words : List (List ℕ)) (seen : PartSeen) (s : SettingsSeen)
      (files : List (List ℕ)) (lines : List ℕ) (at : Checkpoint) →
      HasEnded is_calm words seen s files → AreLinesUpTo s (stream_for s files) lines at →
      CanBeSaid at → check_text_of seen.inputs.told words ≡ Some (check_line at.place at.pulses) →
      (until_in words < spectra_in (stream_for s files) →
      WritesNext s (stream_for s files) lines at (until_in words) seen)
      × (spectra_in (stream_for s files) ≤ until_in words →
      WritesRest s (stream_for s files) lines seen)
