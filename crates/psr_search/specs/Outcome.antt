-- What the exit status of a search says.
-- Source: this project's choice.
use Rattle.std.specs.Prelude.{◌≡◌, ◌≢◌, ℕ, ◌≤◌, ◌<◌, ◌⊎◌, true, List, [], ◌∷◌, Option, Some, Contains}
use Rattle.psr_base.specs.Count.{Rose}
use Rattle.psr_base.specs.Told.{Told, InputsSeen}
use Rattle.psr_base.specs.Made.{FilesSeen}
use Rattle.psr_base.specs.Written.{SinkSeen, WroteAll, WroteFront}
use Rattle.ring_ends.specs.declared.finished.Finished.{Finished}
use Rattle.search_words.specs.Settings.{SettingsSeen, SaySearch}
use Rattle.stream_model.specs.Walk.{FileStream}
use Rattle.disk_feeder.specs.Plan.{AreTold}
use Rattle.dada_recorder.specs.declared.answers.RecordEnd.{RecordEnd}
use Rattle.dada_recorder.specs.declared.answers.RecordEnd.TheVariants.{FileFault}
use Rattle.transfer_text.specs.Searched.{searched_text}
use Rattle.run_outcome.specs.declared.ran.Ran.{Ran}
use Rattle.run_outcome.specs.Runs.{Searching, stream_for, ForFiles, observed_transfers, HasCandidates}
use Rattle.run_outcome.specs.Outcomes.{JudgesWords, ReadsInputs, StopsAtFiles, SealsStream, AllCleared, RecordsFiles, TellsNotes}

-- the words say a search that records its data besides
abbrev pub AsksToRecord : List (List ℕ) → Type 0
AsksToRecord words = (s : SettingsSeen) × SaySearch words s × (s.recording ≡ true)

-- P holds of the settings that the words of a search say and of the files that they name, where all of these are told
abbrev pub ForSearch : List (List ℕ) → Told → (SettingsSeen → FileStream → Type 0) → Type 0
ForSearch = ForFiles Searching

-- all data are read, and have no more candidates than there may be
abbrev pub IsSearched : SettingsSeen → FileStream → Type 0
IsSearched s w = HasCandidates s w (λ total. total ≤ s.search.max_candidates)

-- and P holds of their text
abbrev pub HasText : (List ℕ → Type 0) → SettingsSeen → FileStream → Type 0
HasText P s w = IsSearched s w × P (searched_text s.search (observed_transfers w))

-- What the output took: nothing but the text of all data. It is whole at 0, and at 11, where the files that are made
-- failed besides; at 10 its front is there, which comes only where the output failed.
pub record WritesText
    (words : List (List ℕ)) (told : Told) (before after : SinkSeen) (status : ℕ) : Type 0 where
  pub text : status ≡ 0 → ForSearch words told (HasText (λ text. WroteAll text before after))
  pub text_too : status ≡ 11 → ForSearch words told (HasText (λ text. WroteAll text before after))
  pub front : status ≡ 10 → ForSearch words told (HasText (λ text. WroteFront text before after))
  pub failed : status ≡ 10 → Rose before.faults after.faults
  pub quiet : status ≢ 10 → after.faults ≡ before.faults
  pub untouched : status ≢ 0 → status ≢ 10 → status ≢ 11 → after ≡ before

-- the readers that cleared all that was sealed: those of the shards, and that of the recorder unless its end is a fault
pub record ClearsBlocks (words : List (List ℕ)) (blocks : Option Finished)
    (recorded : Option RecordEnd) : Type 0 where
  pub shards : (b : Finished) → blocks ≡ Some b → (s : SettingsSeen) → SaySearch words s →
      AllCleared b 0 s.search.shards
  pub recorder : recorded ≢ Some FileFault → (b : Finished) → blocks ≡ Some b →
      (s : SettingsSeen) → SaySearch words s → s.recording ≡ true →
      AllCleared b s.search.shards 1

-- The outcome of a search for these words over these inputs, which may be calm: how it ended, by its status, and what
-- the outside objects and the data ring took. Where more than one cause is there, the first of these counts: words,
-- first headers, searches, recordings; the stop of the walk of the files; the candidates; the output; the files.
pub record Outcome (words : List (List ℕ)) (inputs : InputsSeen) (is_calm : Type 0)
    (files_before files_after : FilesSeen)
    (out_before out_after notes_before notes_after : SinkSeen)
    (ran : Ran) : Type 0 where
  -- there is no other status; 5 is want of memory, before the session alone
  pub known : Contains
      (0 ∷ 2 ∷ 3 ∷ 4 ∷ 5 ∷ 6 ∷ 7 ∷ 8 ∷ 9 ∷ 10 ∷ 11 ∷ []) ran.status
  -- the headline: the output has grown by exactly the text of all data of the files
  pub written : WritesText words inputs.told out_before out_after ran.status
  pub judged : JudgesWords Searching words ran.status
  pub read : ReadsInputs Searching words inputs is_calm ran.status
  pub stopped : StopsAtFiles Searching words inputs.told ran.blocks ran.status
  -- 9 exactly where all data have more candidates than there may be
  pub too_many : ran.status ≡ 9 → ForSearch words inputs.told (λ s w.
      HasCandidates s w (λ total. s.search.max_candidates < total))
  pub sealed : SealsStream Searching words inputs.told ran.blocks ran.status
  pub cleared : ClearsBlocks words ran.blocks ran.recorded
  pub recorded : RecordsFiles Searching words inputs.told ran.blocks ran.recorded files_before
      files_after ran.status
  pub noted : TellsNotes Searching words inputs.told notes_before notes_after ran.status

-- ---- the other way round, from what is accepted or refused to the status

-- what is seen of a search from outside: its inputs, its files, its output and its notes, and what it answered
pub record SearchSeen : Type 0 where
  pub inputs : InputsSeen
  pub files_before : FilesSeen
  pub files_after : FilesSeen
  pub out_before : SinkSeen
  pub out_after : SinkSeen
  pub notes_before : SinkSeen
  pub notes_after : SinkSeen
  pub ran : Ran

-- P holds of each outcome of a search over inputs that may be calm, where its words say settings and the bytes of all
-- their files are told: of what is seen of it, and of the settings and the files as a walk sees them
abbrev pub ForOutcomes : Type 0 → (SearchSeen → SettingsSeen → FileStream → Type 0) → Type 0
ForOutcomes is_calm P = (words : List (List ℕ)) (seen : SearchSeen) →
    Outcome words seen.inputs is_calm seen.files_before seen.files_after seen.out_before
    seen.out_after seen.notes_before seen.notes_after seen.ran →
    (s : SettingsSeen) (files : List (List ℕ)) → SaySearch words s →
    AreTold seen.inputs.told s.names files → P seen s (stream_for s files)

-- Words, headers, searches, recordings, data and candidates that are accepted are searched, over inputs that are calm
-- or count no fault, and an output and files that count none: 0, or want of memory.
abbrev pub AcceptedIsSearched : Type 0 → Type 0
AcceptedIsSearched is_calm = ForOutcomes is_calm (λ seen s w. IsSearched s w →
    is_calm ⊎ ¬ Rose seen.inputs.faults_before seen.inputs.faults_after →
    ¬ Rose seen.out_before.faults seen.out_after.faults →
    ¬ Rose seen.files_before.faults seen.files_after.faults →
    (seen.ran.status ≡ 0) ⊎ (seen.ran.status ≡ 5))
