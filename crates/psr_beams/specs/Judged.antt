-- The headers of beams as they were read, judged in the order of the beams.
-- Source: this project's choice.
use Rattle.std.specs.Prelude.{◌≡◌, ℕ, ◌<◌, ◌⊎◌, List, slice_get, slice_index_or, Option, Some, None, Ok}
use Rattle.dada_model.specs.Fields.{HeaderText, fields_of}
use Rattle.dada_model.specs.Observation.{Observation, observation_of}
use Rattle.obs_plan.specs.declared.fault.ObsFault.{ObsFault}
use Rattle.obs_plan.specs.Faults.{IsRefusedFirst}
use Rattle.disk_feeder.specs.declared.answers.HeaderCause.TheVariants.{Fields}
use Rattle.disk_feeder.specs.declared.feeder.FeederSpace.{FeederSpace}
use Rattle.disk_feeder.specs.Feeder.{headers_of}
use Rattle.disk_feeder.specs.Resting.{at_rest}
use Rattle.run_outcome.specs.declared.stop.Stop.{Stop}
use Rattle.run_outcome.specs.declared.stop.Stop.TheVariants.{Header, Memory}
use Rattle.psr_beams.specs.Refusals.{later_stop}

-- the header that a feeder has read
abbrev pub slot_header : Option FeederSpace → Option HeaderText
slot_header None = None
slot_header (Some space) = slice_get (headers_of (at_rest space)) 0

-- those of the feeders of beams, by their numbers
abbrev pub headers_in : List (Option FeederSpace) → ℕ → Option HeaderText
headers_in slots beam = slot_header (slice_index_or slots beam None)

-- so many headers are those of beams of this observation
pub record AreOfOne (headers : ℕ → Option HeaderText) (count : ℕ) (o : Observation) : Type 0 where
  pub first : (h : HeaderText) → headers 0 ≡ Some h → observation_of (fields_of h.text) ≡ Ok o
  pub later : (beam : ℕ) (h : HeaderText) → 0 < beam → beam < count → headers beam ≡ Some h →
      later_stop beam o h ≡ None

-- the header of beam 0 says no observation
pub record RefusesZero (headers : ℕ → Option HeaderText) (stop : Stop) : Type 0 where
  pub header : HeaderText
  pub has : headers 0 ≡ Some header
  pub fault : ObsFault
  pub is : stop ≡ Header 0 (Fields fault)
  pub cause : IsRefusedFirst (fields_of header.text) fault

-- it says this one, and the header of a later beam is the first that is refused
pub record RefusesBeyond (headers : ℕ → Option HeaderText) (count : ℕ) (o : Observation) (stop : Stop) :
    Type 0 where
  pub beam : ℕ
  pub later : 0 < beam
  pub there : beam < count
  pub header : HeaderText
  pub has : headers beam ≡ Some header
  pub refused : later_stop beam o header ≡ Some stop
  pub earlier : (k : ℕ) (h : HeaderText) → 0 < k → k < beam → headers k ≡ Some h →
      later_stop k o h ≡ None

abbrev pub RefusesOne : (ℕ → Option HeaderText) → ℕ → Stop → Type 0
RefusesOne headers count stop = (o : Observation)
    × ((h : HeaderText) → headers 0 ≡ Some h → observation_of (fields_of h.text) ≡ Ok o)
    × RefusesBeyond headers count o stop

-- so many headers are not those of beams of one observation; or there was no memory
abbrev pub StopsJudging : (ℕ → Option HeaderText) → ℕ → Stop → Type 0
StopsJudging headers count stop =
    (stop ≡ Memory) ⊎ (RefusesZero headers stop ⊎ RefusesOne headers count stop)
