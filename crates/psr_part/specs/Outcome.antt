-- What the exit status of the search of a part says.
-- Source: this project's choice.
use Rattle.std.specs.Prelude.{◌≡◌, ◌≢◌, ℕ, ◌≤◌, ◌<◌, ◌⊎◌, List, [], ◌∷◌, Option, None, IsSome, Contains}
use Rattle.std.specs.Option.{ForSome}
use Rattle.psr_base.specs.Count.{Rose}
use Rattle.psr_base.specs.Told.{Told, InputsSeen, OfFile, BreaksOff}
use Rattle.psr_base.specs.Written.{SinkSeen, WroteAll, WroteFront, Noted}
use Rattle.ring_ends.specs.declared.finished.Finished.{Finished}
use Rattle.search_words.specs.Settings.{SettingsSeen}
use Rattle.stream_model.specs.Walk.{FileStream}
use Rattle.disk_feeder.specs.Filling.{HoldsAll}
use Rattle.run_outcome.specs.declared.ran.Ran.{Ran}
use Rattle.warm_restart.specs.declared.checkpoint.Checkpoint.{Checkpoint}
use Rattle.warm_restart.specs.Checkpoint.{IsCheckpointText, IsNoCheckpointText}
use Rattle.warm_restart.specs.Named.{most_read, new_word, ReadsFront}
use Rattle.run_outcome.specs.Runs.{FindsAlone}
use Rattle.run_outcome.specs.Outcomes.{TellsNotes}
use Rattle.run_outcome.specs.Outcomes as runs
use Rattle.drive_lone.specs.Outcomes.{RunsAlone}
use Rattle.psr_part.specs.declared.stop.CheckpointRefusal.{CheckpointRefusal}
use Rattle.psr_part.specs.declared.stop.CheckpointRefusal.TheVariants.{Form, Place, Beyond}
use Rattle.psr_part.specs.Texts.{refusal_text, statuses}
use Rattle.psr_part.specs.Part.{check_word, until_in, check_names, check_text_of, GoesOnFrom, spectra_in, text_in_part, part_search, searching, ForPart}

-- ---- the output

-- all data are read, the checkpoint does not stand behind them, and P holds of how many pulses the part has
pub record FindsPart (words : List (List ℕ)) (from : Checkpoint) (s : SettingsSeen)
    (w : FileStream) (P : ℕ → Type 0) : Type 0 where
  pub finds : FindsAlone (part_search words from) s w P
  pub within : from.place ≤ spectra_in w

-- the part has no more pulses than there may be
abbrev pub IsSearched : List (List ℕ) → Checkpoint → SettingsSeen → FileStream → Type 0
IsSearched words from s w = FindsPart words from s w (λ total. total ≤ s.search.max_candidates)

-- it has more
abbrev pub IsCrowded : List (List ℕ) → Checkpoint → SettingsSeen → FileStream → Type 0
IsCrowded words from s w = FindsPart words from s w (λ total. s.search.max_candidates < total)

-- P holds of the text of a part that is searched
abbrev pub HasText : List (List ℕ) → Checkpoint → (List ℕ → Type 0) → SettingsSeen → FileStream →
    Type 0
HasText words from P s w = IsSearched words from s w × P (text_in_part words from s w)

-- What the output took: nothing but the text of the part. It is whole at 0; at 10 its front is there, which comes only
-- where the output failed.
pub record WritesPart (words : List (List ℕ)) (from : Checkpoint) (told : Told)
    (before after : SinkSeen) (status : ℕ) : Type 0 where
  pub text : status ≡ 0 →
      ForPart words from told (HasText words from (λ text. WroteAll text before after))
  pub front : status ≡ 10 →
      ForPart words from told (HasText words from (λ text. WroteFront text before after))
  pub failed : status ≡ 10 → Rose before.faults after.faults
  pub quiet : status ≢ 10 → after.faults ≡ before.faults
  pub untouched : status ≢ 0 → status ≢ 10 → after ≡ before

-- ---- the notes

-- What a refusal says. The text of CHECK is no checkpoint text; or it says a place that is not before the spectrum that
-- the part stops before; both before a header is read. Or all data are read, and have fewer spectra than that place.
abbrev pub IsRefused : List (List ℕ) → Checkpoint → Told → Option Finished → CheckpointRefusal →
    Type 0
IsRefused words from told blocks Form =
    (blocks ≡ None) × ForSome (check_text_of told words) IsNoCheckpointText
IsRefused words from told blocks (Place place until) =
    (blocks ≡ None) × (until ≡ until_in words) × (until ≤ place)
    × ForSome (check_text_of told words) (λ text.
    (c : Checkpoint) × IsCheckpointText text c × (c.place ≡ place))
IsRefused words from told blocks (Beyond place spectra) =
    IsSome blocks × (place ≡ from.place) × (spectra < place) × GoesOnFrom told words from
    × ForPart words from told (λ s w. FindsAlone (part_search words from) s w (λ total.
    spectra ≡ spectra_in w))

-- the notes took the line of a refusal, or its front at a fault of theirs; what it says is so
pub record NotesRefusal (words : List (List ℕ)) (from : Checkpoint) (told : Told)
    (blocks : Option Finished) (before after : SinkSeen) : Type 0 where
  pub refusal : CheckpointRefusal
  pub cause : IsRefused words from told blocks refusal
  pub line : Noted (refusal_text refusal) before after

-- 13 only at a refusal; nothing at 0, and one line at each other status
pub record TellsPart (words : List (List ℕ)) (from : Checkpoint) (told : Told)
    (blocks : Option Finished) (before after : SinkSeen) (status : ℕ) : Type 0 where
  pub refused : status ≡ 13 → NotesRefusal words from told blocks before after
  pub others : status ≢ 13 → TellsNotes (searching words from) words told before after status

-- ---- the outcome

-- the statuses of a search whose checkpoint was accepted: none of them comes before a header is read
abbrev pub later_statuses : List ℕ
later_statuses = 0 ∷ 3 ∷ 4 ∷ 7 ∷ 8 ∷ 9 ∷ 10 ∷ []

-- The outcome of the search of a part for these words over these inputs, which may be calm: how it ended, by its
-- status, and what the outside objects and the data ring took. Where more than one cause is there, the first of these
-- counts: words; the checkpoint; first headers, searches; the stop of the walk of the files; a place behind all data;
-- the pulses; the output.
pub record Outcome (words : List (List ℕ)) (inputs : InputsSeen) (is_calm : Type 0)
    (out_before out_after notes_before notes_after : SinkSeen) (ran : Ran) : Type 0 where
  -- the checkpoint that the part goes on from
  pub from : Checkpoint
  pub accepted : Contains later_statuses ran.status → GoesOnFrom inputs.told words from
  -- calm inputs that hold CHECK fail only after it is accepted
  pub held : is_calm → HoldsAll inputs.told (check_names words) → ran.status ≡ 6 →
      GoesOnFrom inputs.told words from
  -- there is no other status; 5 is want of memory, before the session alone
  pub known : Contains statuses ran.status
  -- the headline: the output has grown by exactly the text of the part
  pub written : WritesPart words from inputs.told out_before out_after ran.status
  -- words, inputs, files and data ring; calm inputs that hold all files and CHECK don't fail
  pub run : RunsAlone 13 (part_search words from) words inputs
      (is_calm × HoldsAll inputs.told (check_names words)) ran.blocks ran.status
  -- 9 exactly where the part has more pulses than there may be
  pub too_many : ran.status ≡ 9 → ForPart words from inputs.told (IsCrowded words from)
  -- there is no recorder
  pub unrecorded : ran.recorded ≡ None
  pub noted : TellsPart words from inputs.told ran.blocks notes_before notes_after ran.status

-- ---- what was read at want of memory and at a refusal, and what a fault of the inputs leaves

-- CHECK was read, and nothing else: of a file that it names the first 65 bytes, or all of fewer and their end
pub record ReadsCheck (words : List (List ℕ)) (before after : Told) : Type 0 where
  pub new : check_word words ≡ new_word → after ≡ before
  pub named : check_word words ≢ new_word → OfFile before (check_word words) (λ file.
      ReadsFront most_read (check_word words) file before after)
  pub names : after.bytes_under ≡ before.bytes_under

-- CHECK was read and accepted, and P holds of the checkpoint and of what the inputs told then
pub record AfterCheck (words : List (List ℕ)) (before : Told) (P : Checkpoint → Told → Type 0) :
    Type 0 where
  pub from : Checkpoint
  pub accepted : GoesOnFrom before words from
  pub told : Told
  pub read : ReadsCheck words before told
  pub holds : P from told

-- no file was opened; or CHECK was accepted, and then no more was read than in any search at want of memory
abbrev pub ReadsNoData : List (List ℕ) → Told → Told → Type 0
ReadsNoData words before after = (after ≡ before) ⊎ AfterCheck words before (λ from told.
    runs.ReadsNoData (searching words from) words told after)

-- A fault came before CHECK was judged: it names a file, and fewer bytes were read of it than judge it. Calm inputs
-- fail there only where that file isn't told.
pub record BreaksAtCheck (words : List (List ℕ)) (is_calm : Type 0) (before after : Told) :
    Type 0 where
  pub other : check_word words ≢ new_word
  pub broke : OfFile before (check_word words)
      (λ _. BreaksOff most_read (check_word words) before after)
  pub missing : is_calm → ¬ IsSome (before.bytes_under (check_word words))

-- What a fault of the inputs leaves: it came before CHECK was judged, and there is no data ring; or CHECK was accepted,
-- and then the fault left what it leaves in any search.
abbrev pub LeavesAtFault : List (List ℕ) → Type 0 → Told → Told → Option Finished → Type 0
LeavesAtFault words is_calm before after blocks =
    ((blocks ≡ None) × BreaksAtCheck words is_calm before after)
    ⊎ AfterCheck words before (λ from told.
    runs.LeavesAtFault (searching words from) words is_calm told after blocks)
