-- The observation of a program that searches alone, and what it makes of it: its scope, and the engine that searches it.
-- Source: this project's choice.
use Rattle.std.specs.Prelude.{◌≡◌, ℕ, ⊤, List, [], ◌∷◌, Some}
use Rattle.dada_model.specs.Observation.{Observation}
use Rattle.search_model.specs.declared.search.Search.{Search}
use Rattle.search_model.specs.Search.{in_one_shard}
use Rattle.stream_model.specs.Walk.{observation_at}
use Rattle.stream_model.specs.WalkLaws.{IsAccepted}
use Rattle.search_engine.specs.Scope.{Scope}
use Rattle.search_engine.specs.Engine.{EngineState, IsOpenedEngine, StandsForPart, scope_of}
use Rattle.session_readers.specs.declared.bank.Bank.{Bank}
use Rattle.session_readers.specs.Banks.{engines_of}
use Rattle.drive_lone.specs.declared.scoping.ScopeFault.{ScopeFault}
use Rattle.drive_lone.specs.declared.scoping.ScopeFault.TheVariants.{Refused, Memory}

-- the header of a file is accepted, and this is its observation
pub record SaysObservation (o : Observation) (file : List ℕ) : Type 0 where
  pub accepted : IsAccepted file
  pub is : observation_at file ≡ o

-- what a fault says of an observation: it is the program's own refusal, or want of memory
abbrev pub ExplainsScope : {F : Type 0} → (Observation → F → Type 0) → Observation → ScopeFault F →
    Type 0
ExplainsScope refuses o (Refused refusal) = refuses o refusal
ExplainsScope refuses o Memory = ⊤

-- the bank has one engine, which searches a scope of an observation, and was fed nothing
pub record IsBankOf (s : Search) (o : Observation) (scope : Scope) (bank : Bank) : Type 0 where
  pub engine : EngineState
  pub alone : engines_of bank ≡ Some engine ∷ []
  pub opened : IsOpenedEngine engine (in_one_shard s) 0
  pub scope_is : scope_of engine ≡ scope
  pub stands : StandsForPart o [] engine
