-- What a search has read at want of memory, what a fault of the inputs leaves, and what a refused checkpoint says.
-- Source: this project's choice.
use Rattle.std.specs.Prelude.{◌≡◌, ◌⊎◌, ⊤, ℕ, ◌<◌, ◌≤◌, List, Option, Some, None}
use Rattle.std.specs.Option.{ForSome}
use Rattle.psr_base.specs.Told.{Told}
use Rattle.psr_base.specs.Written.{SinkSeen, Noted}
use Rattle.search_model.specs.Plan.{plan_refusal}
use Rattle.search_words.specs.Settings.{SettingsSeen, with_search}
use Rattle.stream_model.specs.Walk as walk
use Rattle.stream_model.specs.Walk.{walk_stop}
use Rattle.stream_model.specs.WalkLaws.{AreWalked}
use Rattle.warm_restart.specs.declared.checkpoint.Checkpoint.{Checkpoint}
use Rattle.warm_restart.specs.Checkpoint.{IsCheckpointText, IsNoCheckpointText}
use Rattle.warm_restart.specs.Counts.{greatest_count}
use Rattle.run_outcome.specs.declared.stop.Stop.TheVariants.{Memory, ReadFault}
use Rattle.run_outcome.specs.Firsts.{ReadsFirsts, first_file}
use Rattle.run_outcome.specs.Runs.{CanSearch}
use Rattle.search_opening.specs.Settings.{OfRunFirsts}
use Rattle.drive_stream.specs.Outcome.{BreaksStream}
use Rattle.psr_part.specs.declared.stop.CheckpointRefusal.{CheckpointRefusal}
use Rattle.psr_part.specs.declared.stop.CheckpointRefusal.TheVariants.{Form, Place, Beyond}
use Rattle.psr_part.specs.declared.stop.PartStop.{PartStop}
use Rattle.psr_part.specs.declared.stop.PartStop.TheVariants.{Run, Refused}
use Rattle.psr_part.specs.Outcome.{BreaksAtCheck, ReadsCheck}
use Rattle.psr_part.specs.Part.{check_text_of}
use Rattle.psr_part.specs.Texts.{refusal_text}
use Rattle.psr_live.specs.Outcome.{ForLive, GoesOnFrom, LeavesIn, SayLive, spectra_in}
use Rattle.psr_live.specs.Task.{live_block}

-- CHECK was read and accepted, and P holds of the settings, of the checkpoint, and of what the inputs told then
pub record AfterCheck (words : List (List ℕ)) (before : Told)
    (P : SettingsSeen → Checkpoint → Told → Type 0) : Type 0 where
  pub settings : SettingsSeen
  pub says : SayLive words settings
  pub from : Checkpoint
  pub accepted : GoesOnFrom before words from
  pub told : Told
  pub read : ReadsCheck words before told
  pub holds : P settings from told

-- no file was opened; or CHECK was accepted, and then the first header was read at most, and no byte past it
abbrev pub ReadsNoData : List (List ℕ) → Told → Told → Type 0
ReadsNoData words before after = (after ≡ before) ⊎ AfterCheck words before (λ s from told.
    (after ≡ told) ⊎ OfRunFirsts told s (λ w. ReadsFirsts s.names w told after))

-- A fault of the inputs came before CHECK was judged, and nothing was written; or CHECK was accepted, and it came
-- before the first header was judged, and nothing was written, or while data were read, and their text was written.
abbrev pub LeavesAtFault : List (List ℕ) → Type 0 → Told → Told → SinkSeen → SinkSeen → Type 0
LeavesAtFault words is_calm before after out_before out_after =
    (BreaksAtCheck words is_calm before after × (out_after ≡ out_before))
    ⊎ AfterCheck words before (λ s from told. BreaksStream live_block
    (λ o header. plan_refusal o s.search ≡ None) (LeavesIn words s from) (with_search tt s)
    is_calm told after out_before out_after)

-- ---- a checkpoint that is refused

-- the checkpoint was accepted, and all data were read, which end before its place: they have so many spectra
pub record IsBeyond (words : List (List ℕ)) (told : Told) (place spectra : ℕ) : Type 0 where
  pub from : Checkpoint
  pub goes_on : GoesOnFrom told words from
  pub short : ForLive words told (λ s w. AreWalked w × CanSearch s.search (first_file w 0)
      × (walk_stop w ≡ walk.Whole) × (place ≡ from.place) × (spectra ≡ spectra_in w)
      × (spectra < place))

-- What a refusal says: the text of CHECK is no checkpoint text; or its place is not before the greatest number of
-- spectra; or data end before it.
abbrev pub IsRefused : List (List ℕ) → Told → CheckpointRefusal → Type 0
IsRefused words told Form = ForSome (check_text_of told words) IsNoCheckpointText
IsRefused words told (Place place until) = (until ≡ greatest_count) × (until ≤ place)
    × ForSome (check_text_of told words) (λ text.
    (c : Checkpoint) × IsCheckpointText text c × (c.place ≡ place))
IsRefused words told (Beyond place spectra) = IsBeyond words told place spectra

-- what was read at a refusal of the text of CHECK: that text, and nothing else
abbrev pub ReadsRefused : List (List ℕ) → Told → Told → CheckpointRefusal → Type 0
ReadsRefused words before after (Beyond place spectra) = ⊤
ReadsRefused words before after refusal = ReadsCheck words before after

-- a refusal, which is so; and the notes took its line, or its front at a fault of theirs
pub record NotesRefusal (words : List (List ℕ)) (before after : Told)
    (notes_before notes_after : SinkSeen) : Type 0 where
  pub refusal : CheckpointRefusal
  pub cause : IsRefused words before refusal
  pub read : ReadsRefused words before after refusal
  pub line : Noted (refusal_text refusal) notes_before notes_after

-- ---- by the stop of a search

-- what was read of the inputs at want of memory, at a fault of theirs, and at a refusal
pub record LeavesFiles (words : List (List ℕ)) (is_calm : Type 0) (before after : Told)
    (out_before out_after : SinkSeen) (stop : Option PartStop) : Type 0 where
  pub early : stop ≡ Some (Run Memory) → ReadsNoData words before after
  pub broken : stop ≡ Some (Run ReadFault) → LeavesAtFault words is_calm before after
      out_before out_after
  pub refused : (refusal : CheckpointRefusal) → stop ≡ Some (Refused refusal) →
      ReadsRefused words before after refusal
