-- Laws of how a program that searches alone ends, one for each way; functions of this crate carry them. `own` is the
-- status of the program's own stop, which no other stop has.
-- Source: this project's choice.
use Rattle.std.specs.Prelude.{◌≡◌, ℕ, ◌<◌, List, [], ◌∷◌, Some, None, Contains}
use Rattle.psr_base.specs.Told.{InputsSeen}
use Rattle.ring_ends.specs.declared.finished.Finished.{Finished}
use Rattle.search_words.specs.declared.fault.WordFault.{WordFault}
use Rattle.search_words.specs.Settings.{SettingsSeen}
use Rattle.stream_model.specs.Walk as walk
use Rattle.stream_model.specs.Walk.{walk_stop}
use Rattle.disk_feeder.specs.declared.answers.FeedEnd.{FeedEnd}
use Rattle.disk_feeder.specs.declared.answers.FeedEnd.TheVariants as feeder
use Rattle.run_outcome.specs.declared.stop.Stop.{Stop}
use Rattle.run_outcome.specs.declared.stop.Stop.TheVariants.{ReadFault}
use Rattle.run_outcome.specs.Conversions.{stop_of_words, stop_of_feed}
use Rattle.run_outcome.specs.Lone.{LoneSearch, SayAlone, ExplainsAlone}
use Rattle.run_outcome.specs.Runs.{Alone, ForFiles, CanBegin}
use Rattle.run_outcome.specs.Outcomes.{AllCleared}
use Rattle.run_outcome.specs.Ends.{CountsFaults, StopsBefore, IsRunFed}
use Rattle.drive_lone.specs.Outcomes.{EndsAlone, RunsAlone}

-- its words say no settings of its searches, or there was no memory: no file was opened
abbrev pub AloneAtWords : Type 0 → Type 0
AloneAtWords is_calm = (own : ℕ) (lone : LoneSearch) (words : List (List ℕ))
    (inputs : InputsSeen) (fault : WordFault) (stop : Stop) → ExplainsAlone lone words fault →
    stop ≡ stop_of_words fault → inputs.faults_after ≡ inputs.faults_before →
    EndsAlone own lone words inputs is_calm None stop

-- it stops between its words and its session, as any run
abbrev pub AloneBeforeSession : Type 0 → Type 0
AloneBeforeSession is_calm = (own : ℕ) (lone : LoneSearch) (words : List (List ℕ))
    (s : SettingsSeen) (inputs : InputsSeen) (stop : Stop) → SayAlone lone words s →
    StopsBefore (Alone lone) words inputs.told stop →
    CountsFaults inputs is_calm s.names (stop ≡ ReadFault) →
    EndsAlone own lone words inputs is_calm None stop

-- it comes to its own stop there
abbrev pub AloneAtOwnStop : Type 0 → Type 0
AloneAtOwnStop is_calm = (own : ℕ) (lone : LoneSearch) (words : List (List ℕ))
    (s : SettingsSeen) (inputs : InputsSeen) → 11 < own → SayAlone lone words s →
    CountsFaults inputs is_calm s.names ⊥ →
    RunsAlone own lone words inputs is_calm None own

-- a session of these settings went through, and this is what was read; its reader cleared all that was sealed
pub record GoesThrough (lone : LoneSearch) (words : List (List ℕ)) (s : SettingsSeen)
    (inputs : InputsSeen) (is_calm : Type 0) (blocks : Finished) (feed : FeedEnd) :
    Type 0 where
  pub says : SayAlone lone words s
  pub fed : IsRunFed (Alone lone) words inputs.told blocks feed
  pub read : CountsFaults inputs is_calm s.names (feed ≡ feeder.ReadFault)
  pub cleared : AllCleared blocks 0 1

-- the feeder was stopped
abbrev pub AloneAtFeedStop : Type 0 → Type 0
AloneAtFeedStop is_calm = (own : ℕ) (lone : LoneSearch) (words : List (List ℕ))
    (s : SettingsSeen) (inputs : InputsSeen) (blocks : Finished) (feed : FeedEnd) (stop : Stop) →
    GoesThrough lone words s inputs is_calm blocks feed → stop_of_feed feed ≡ Some stop →
    EndsAlone own lone words inputs is_calm (Some blocks) stop

-- all data were sealed: it ends with its text, with too many candidates, at a fault of its output, or at its own stop
abbrev pub AloneAfterWhole : Type 0 → Type 0
AloneAfterWhole is_calm = (own : ℕ) (lone : LoneSearch) (words : List (List ℕ))
    (s : SettingsSeen) (inputs : InputsSeen) (blocks : Finished) (feed : FeedEnd) (status : ℕ) →
    11 < own → GoesThrough lone words s inputs is_calm blocks feed → stop_of_feed feed ≡ None →
    Contains (0 ∷ 9 ∷ 10 ∷ own ∷ []) status →
    RunsAlone own lone words inputs is_calm (Some blocks) status
    × ForFiles (Alone lone) words inputs.told (λ s w.
    CanBegin (Alone lone) s w × (walk_stop w ≡ walk.Whole))
