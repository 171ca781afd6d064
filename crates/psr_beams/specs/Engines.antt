-- The engines of beams, all of one observation; and the beams that are made of them.
-- Source: this project's choice.
use Rattle.std.specs.Prelude.{List, ℕ, [], ◌∷◌, Option, All, IsSomeAnd}
use Rattle.psr_base.specs.Told.{Told}
use Rattle.dada_model.specs.Observation.{Observation}
use Rattle.search_model.specs.declared.search.Search.{Search}
use Rattle.search_model.specs.Search.{in_one_shard}
use Rattle.search_words.specs.Settings.{SettingsSeen}
use Rattle.search_engine.specs.Engine.{EngineState, IsOpenedEngine, StandsForData}
use Rattle.ring_words.specs.declared.shape.RingShape.{RingShape}
use Rattle.disk_feeder.specs.Feeder.{HasPlan}
use Rattle.disk_feeder.specs.Resting.{at_rest}
use Rattle.search_opening.specs.Rings.{run_shape}
use Rattle.beam_set.specs.declared.beam.Beam.{Beam}
use Rattle.beam_set.specs.Beam.{BeamBegins, feeder_in}
use Rattle.beam_set.specs.Answers.{SearchesAll}

-- an engine searches all delays of an observation, and was fed nothing
pub record IsEngineOf (s : Search) (o : Observation) (e : EngineState) : Type 0 where
  pub opened : IsOpenedEngine e (in_one_shard s) 0
  pub stands : StandsForData o [] e

-- each slot has one
abbrev pub HaveEngines : Search → Observation → List (Option EngineState) → Type 0
HaveEngines s o slots = All (λ slot. IsSomeAnd slot (IsEngineOf s o)) slots

-- the data ring of a beam
abbrev pub beam_shape : SettingsSeen → RingShape
beam_shape s = run_shape s.buffers s.size 1 s.max_bytes 1

-- where inputs tell this, a beam with the one file of this name begins, and searches all of the observation
pub record IsBeamOf (told : Told) (s : SettingsSeen) (o : Observation) (name : List ℕ) (beam : Beam) :
    Type 0 where
  pub begins : BeamBegins told beam
  pub searches : SearchesAll s.search o beam
  pub plan : HasPlan (at_rest (feeder_in beam)) (name ∷ []) s.starts s.size s.max_bytes
