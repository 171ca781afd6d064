-- The engines of all shards, one for each transfer.
-- Source: this project's choice.
use Rattle.std.specs.Prelude.{◌≡◌, ℕ, ◌<◌, ◌≤◌, List, [], length, slice_get, Option, Some, All, IsSome}
use Rattle.dada_model.specs.Observation.{Observation}
use Rattle.search_model.specs.Search.{SettingsInRange}
use Rattle.search_model.specs.declared.search.Search.{Search}
use Rattle.search_engine.specs.Engine.{EngineState, IsOpenedEngine, StandsForData}
use Rattle.session_readers.specs.declared.bank.Bank.{Bank}
use Rattle.session_readers.specs.Banks.{HasEngine, engines_of}
use Rattle.search_session.specs.Books.{HasBank}
use Rattle.search_opening.specs.Plans.{PlansFit}

-- there are few transfers, each with its observation, and the search of each fits and is in range
pub record CanBeSearched (s : Search) (observations : List (Option Observation)) : Type 0 where
  pub few : length observations ≤ 8
  pub there : All IsSome observations
  pub fit : PlansFit s observations
  pub range : SettingsInRange s

-- the engine searches the shard of an observation, and was fed nothing
pub record IsEngineFor (s : Search) (shard : ℕ) (o : Observation) (e : EngineState) : Type 0 where
  pub opened : IsOpenedEngine e s shard
  pub stands : StandsForData o [] e

-- and so does that of each transfer
pub record AreEnginesFor
    (s : Search) (shard : ℕ) (observations : List (Option Observation))
    (engines : List (Option EngineState)) : Type 0 where
  pub count : length engines ≡ length observations
  pub each : (k : ℕ) (o : Observation) → slice_get observations k ≡ Some (Some o) →
      (e : EngineState) × HasEngine engines k e × IsEngineFor s shard o e

-- the banks of the first shards have these engines
pub record AreBanksTo
    (s : Search) (observations : List (Option Observation)) (shards : ℕ)
    (banks : List (Option Bank)) : Type 0 where
  pub count : length banks ≡ shards
  pub each : (shard : ℕ) → shard < shards →
      (bank : Bank) × HasBank banks shard bank
      × AreEnginesFor s shard observations (engines_of bank)

-- those of all shards
abbrev pub AreOpenedBanks : Search → List (Option Observation) → List (Option Bank) → Type 0
AreOpenedBanks s observations banks = AreBanksTo s observations s.shards banks
