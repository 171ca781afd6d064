-- Searches of files, and of the files of a recording of their data.
-- Source: PSRDADA manual (OBS_OFFSET: recorded files go on where those before them ended); the law is this project's
-- choice.
use Rattle.std.specs.Prelude.{◌≡◌, ℕ, ◌≤◌, true, false, List}
use Rattle.psr_base.specs.Told.{InputsSeen}
use Rattle.psr_base.specs.Made.{FilesSeen}
use Rattle.psr_base.specs.Written.{SinkSeen, WroteAll}
use Rattle.search_words.specs.Settings.{SettingsSeen, RunSeen, RunInRange, SaySearch}
use Rattle.disk_feeder.specs.Plan.{AreTold}
use Rattle.run_outcome.specs.declared.ran.Ran.{Ran}
use Rattle.run_outcome.specs.Runs.{stream_for}
use Rattle.psr_record.specs.Outcome.{IsRecordable}
use Rattle.psr_search.specs.Outcome.{IsSearched, Outcome}
use Rattle.recorded_search.specs.ReadBack.{HasOffsets, NamesRecorded}

-- A search that ended with status 0, and what its output was before and after it. Its words say these settings, and its
-- inputs tell these bytes of the files that they name.
pub record HasSearched (is_calm : Type 0) (s : SettingsSeen) (files : List (List ℕ))
    (before after : SinkSeen) : Type 0 where
  pub words : List (List ℕ)
  pub says : SaySearch words s
  pub inputs : InputsSeen
  pub told : AreTold inputs.told s.names files
  pub files_before : FilesSeen
  pub files_after : FilesSeen
  pub notes_before : SinkSeen
  pub notes_after : SinkSeen
  pub ran : Ran
  pub outcome : Outcome words inputs is_calm files_before files_after before after notes_before
      notes_after ran
  pub whole : ran.status ≡ 0

-- all data of these files can be read and recorded with these settings, and their offsets end in their range
pub record HasRecording (s : RunSeen) (files : List (List ℕ)) : Type 0 where
  pub in_range : RunInRange s
  pub recording : s.recording ≡ true
  pub recordable : IsRecordable s (stream_for s files)
  pub offsets : HasOffsets (stream_for s files)

-- a search of files, and the same search of the files of a recording of all their data
pub record SearchesAgain (recorded : RunSeen) (s again : SettingsSeen)
    (files files_again : List (List ℕ)) : Type 0 where
  pub recording : HasRecording recorded files
  pub transfers : s.starts ≡ recorded.starts
  pub named : NamesRecorded recorded (stream_for recorded files) again files_again
  pub same : again.search ≡ s.search

-- both write the same text
abbrev pub RecordedIsFoundAlike : Type 0 → Type 0 → Type 0
RecordedIsFoundAlike is_calm is_calm_again =
    (recorded : RunSeen) (s again : SettingsSeen) (files files_again : List (List ℕ)) →
    SearchesAgain recorded s again files files_again →
    (before after before_again after_again : SinkSeen) →
    HasSearched is_calm s files before after →
    HasSearched is_calm_again again files_again before_again after_again →
    (text : List ℕ) × WroteAll text before after × WroteAll text before_again after_again

-- and where the first is accepted, the second is, which records nothing itself and takes no fewer data bytes than the
-- recording
abbrev pub RecordedIsAccepted : Type 0
RecordedIsAccepted =
    (recorded : RunSeen) (s again : SettingsSeen) (files files_again : List (List ℕ)) →
    SearchesAgain recorded s again files files_again → recorded.max_bytes ≤ again.max_bytes →
    again.recording ≡ false → IsSearched s (stream_for s files) →
    IsSearched again (stream_for again files_again)
