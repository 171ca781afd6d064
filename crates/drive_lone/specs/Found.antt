-- What a lone run found.
-- Source: this project's choice.
use Rattle.std.specs.Prelude.{◌≡◌, ℕ, ◌^◌, ◌≤◌, true, List, length}
use Rattle.psr_base.specs.Told.{Told}
use Rattle.dada_model.specs.Bounds.{ObservationInRange}
use Rattle.dada_model.specs.Observation.{Observation}
use Rattle.search_model.specs.declared.search.Search.{Search}
use Rattle.search_model.specs.Search.{in_one_shard}
use Rattle.search_words.specs.Settings.{SettingsSeen}
use Rattle.stream_model.specs.Walk.{transfer_data}
use Rattle.disk_feeder.specs.declared.answers.FeedEnd.TheVariants.{Whole}
use Rattle.search_engine.specs.Scope.{Scope}
use Rattle.search_engine.specs.Engine.{HasFoundIn, scope_of}
use Rattle.run_outcome.specs.Outcomes.{AllCleared}
use Rattle.run_outcome.specs.Runs.{OfEachFirst, first_observation}
use Rattle.search_opening.specs.Settings.{OfRun, OfRunFirsts}
use Rattle.drive_lone.specs.declared.found.LoneFound.{LoneFound}
use Rattle.drive_lone.specs.Scopes.{SaysObservation}

-- The engine has searched a scope of all data, which are those of the transfer's files where these are told.
pub record HasFoundAll (s : SettingsSeen) (told : Told) (scope : Scope) (found : LoneFound) :
    Type 0 where
  pub bytes : List ℕ
  pub few : length bytes ≤ 2 ^ 48
  pub scope_is : scope_of found.engine ≡ scope
  pub search_is : found.engine.search ≡ in_one_shard s.search
  pub shard_is : found.engine.shard ≡ 0
  pub ended : found.engine.has_ended ≡ true
  pub searched : HasFoundIn found.observation scope bytes found.engine
  pub known : OfRun told s (λ w. bytes ≡ transfer_data w 0)

-- A session went through, whose engine searches this scope of the observation of the first header, and has searched it
-- where all data were sealed; its reader cleared all that was sealed.
pub record GoesAlone (s : SettingsSeen) (told : Told) (o : Observation) (scope : Scope)
    (found : LoneFound) : Type 0 where
  pub observed : found.observation ≡ o
  pub range : ObservationInRange found.observation
  pub says : OfEachFirst told s (SaysObservation found.observation)
  pub first : OfRunFirsts told s (λ w. first_observation w 0 ≡ found.observation)
  pub cleared : AllCleared found.blocks 0 1
  pub held : (bytes : ℕ) → found.feed ≡ Whole bytes → HasFoundAll s told scope found

-- What a lone run found: the program finds this scope in the observation of the first header, and the engine has
-- searched it where all data were sealed. The reader of the data ring cleared all that was sealed.
pub record IsFoundAlone (scopes : Observation → Search → Scope → Type 0) (s : SettingsSeen)
    (told : Told) (found : LoneFound) : Type 0 where
  pub scope : Scope
  pub scoped : scopes found.observation s.search scope
  pub range : ObservationInRange found.observation
  pub says : OfEachFirst told s (SaysObservation found.observation)
  pub first : OfRunFirsts told s (λ w. first_observation w 0 ≡ found.observation)
  pub cleared : AllCleared found.blocks 0 1
  pub held : (bytes : ℕ) → found.feed ≡ Whole bytes → HasFoundAll s told scope found
