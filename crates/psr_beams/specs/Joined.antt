-- The beams that are made of engines and of feeders, each of which has read the header of its file.
-- Source: this project's choice.
use Rattle.std.specs.Prelude.{◌≡◌, ℕ, ◌<◌, List, [], ◌∷◌, length, slice_index_or, Option, Some, None, Ok}
use Rattle.psr_base.specs.Told.{Told}
use Rattle.dada_model.specs.Fields.{HeaderText, fields_of}
use Rattle.dada_model.specs.Observation.{Observation, observation_of}
use Rattle.search_words.specs.Settings.{SettingsSeen}
use Rattle.disk_feeder.specs.declared.feeder.FeederSpace.{FeederSpace}
use Rattle.disk_feeder.specs.Feeder.{HasPlan, IsBegun, HasOpenFile, FeederRead}
use Rattle.disk_feeder.specs.Resting.{at_rest}
use Rattle.beam_set.specs.declared.beam.Beam.{Beam}
use Rattle.beam_set.specs.Beam.{feeder_in}
use Rattle.psr_beams.specs.Files.{beam_name}
use Rattle.psr_beams.specs.Judged.{slot_header}
use Rattle.psr_beams.specs.Engines.{IsBeamOf}

-- where inputs tell this, a feeder has read the header of the file of this name, which says the observation
pub record CanJoin (told : Told) (s : SettingsSeen) (o : Observation) (name : List ℕ)
    (feeder : FeederSpace) : Type 0 where
  pub one : s.starts ≡ 0 ∷ []
  pub plan : HasPlan (at_rest feeder) (name ∷ []) s.starts s.size s.max_bytes
  pub begun : IsBegun told (at_rest feeder)
  pub accepted : (h : HeaderText) → slot_header (Some feeder) ≡ Some h →
      observation_of (fields_of h.text) ≡ Ok o

-- it is that of this beam, which has a file open only where the feeder had, and has read what that has
pub record IsJoined (told : Told) (s : SettingsSeen) (o : Observation) (name : List ℕ)
    (feeder : FeederSpace) (beam : Beam) : Type 0 where
  pub beam_is : IsBeamOf told s o name beam
  pub file : HasOpenFile (at_rest (feeder_in beam)) → HasOpenFile (at_rest feeder)
  pub reads_on : (before now : Told) → FeederRead before now (at_rest feeder) →
      FeederRead before now (at_rest (feeder_in beam))

abbrev pub CanJoinSlot : Told → SettingsSeen → Observation → List ℕ → Option FeederSpace → Type 0
CanJoinSlot told s o name None = ⊥
CanJoinSlot told s o name (Some feeder) = CanJoin told s o name feeder

abbrev pub IsSlotJoined : Told → SettingsSeen → Observation → List ℕ → Option FeederSpace →
    Option Beam → Type 0
IsSlotJoined told s o name (Some feeder) (Some beam) = IsJoined told s o name feeder beam
IsSlotJoined told s o name _ _ = ⊥

-- so it is for each beam, over what the inputs at its place tell
pub record CanJoinAll (told : ℕ → Told) (s : SettingsSeen) (o : Observation) (count : ℕ)
    (feeders : List (Option FeederSpace)) : Type 0 where
  pub many : length feeders ≡ count
  pub each : (k : ℕ) → k < count → CanJoinSlot (told k) s o (beam_name s k)
      (slice_index_or feeders k None)

pub record AreJoined (told : ℕ → Told) (s : SettingsSeen) (o : Observation) (count : ℕ)
    (feeders : List (Option FeederSpace)) (beams : List (Option Beam)) : Type 0 where
  pub many : length beams ≡ count
  pub each : (k : ℕ) → k < count → IsSlotJoined (told k) s o (beam_name s k)
      (slice_index_or feeders k None) (slice_index_or beams k None)
