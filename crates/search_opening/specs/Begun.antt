-- A run of which all first headers were read.
-- Source: PSRDADA manual (a transfer is what one header describes).
use Rattle.std.specs.Prelude.{List, Option}
use Rattle.dada_model.specs.Observation.{Observation}
use Rattle.psr_base.specs.Told.{Told}
use Rattle.search_words.specs.Settings.{RunSeen}
use Rattle.disk_feeder.specs.declared.feeder.Feeder.{Feeder}
use Rattle.disk_feeder.specs.Feeder.{HasPlan, IsBegun, HasOpenFile, FeederRead, headers_of}
use Rattle.run_outcome.specs.Firsts.{ReadsFirsts}
use Rattle.search_opening.specs.First.{AreFirsts, AreFirstsAt, AreHeadersOf, AreObserved}
use Rattle.search_opening.specs.Settings.{OfRunFirsts}

-- The feeder of a run has read all first headers, and these are their observations.
pub record HasFirsts {I : Type 0} (told : I → Told) (is_open : I → Type 0) (s : RunSeen)
    (feeder : Feeder I) (observations : List (Option Observation)) : Type 0 where
  pub plan : HasPlan feeder s.names s.starts s.size s.max_bytes
  pub begun : IsBegun (told feeder.inputs.now) feeder
  pub file : HasOpenFile feeder → is_open feeder.inputs.now
  pub observed : AreObserved (headers_of feeder) observations
  pub each : AreFirstsAt (told feeder.inputs.now) s.names s.starts (headers_of feeder) observations
  pub firsts : OfRunFirsts (told feeder.inputs.now) s (λ w. AreFirsts w observations)
  pub headers : OfRunFirsts (told feeder.inputs.now) s (λ w. AreHeadersOf w (headers_of feeder))

-- It has read them since, and nothing else.
pub record HasBegun {I : Type 0} (told : I → Told) (is_open : I → Type 0) (s : RunSeen)
    (old new : Feeder I) (observations : List (Option Observation)) : Type 0 where
  pub firsts : HasFirsts told is_open s new observations
  pub only : OfRunFirsts (told old.inputs.now) s (λ w.
      ReadsFirsts s.names w (told old.inputs.now) (told new.inputs.now))
  pub reads : FeederRead (told old.inputs.now) (told new.inputs.now) new
