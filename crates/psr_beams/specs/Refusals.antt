-- The headers of several beams, in the order of the beams: all texts are judged before the first is judged by its
-- fields.
-- Source: PSRDADA manual (the keywords, OBS_OFFSET); what is refused is this project's choice.
use Rattle.std.specs.Prelude.{◌≡◌, ℕ, ◌<◌, ◌==◌, if◌then◌else◌, List, length, Option, Some, None, Result, Ok, Err}
use Rattle.dada_model.specs.Fields.{HeaderText, header_of, fields_of}
use Rattle.dada_model.specs.Observation.{Observation}
use Rattle.dada_header.specs.declared.faults.HeaderFault.{HeaderFault}
use Rattle.dada_header.specs.Faults.{IsHeaderRefusal}
use Rattle.obs_plan.specs.declared.fault.ObsFault.{ObsFault}
use Rattle.obs_plan.specs.Faults.{IsRefusedFirst}
use Rattle.obs_plan.specs.Later.{profile_of, later_offset_of}
use Rattle.search_model.specs.Plan.{plan_refusal}
use Rattle.search_words.specs.Settings.{SettingsSeen}
use Rattle.stream_model.specs.WalkLaws.{IsAccepted}
use Rattle.disk_feeder.specs.declared.answers.HeaderCause.TheVariants.{Fields}
use Rattle.run_outcome.specs.declared.causes.PlanCause.{PlanCause}
use Rattle.run_outcome.specs.declared.stop.Stop.{Stop}
use Rattle.run_outcome.specs.declared.stop.Stop.TheVariants.{Header, Gap}
use Rattle.run_outcome.specs.Firsts.{HasHeader}
use Rattle.run_outcome.specs.Runs.{IsPlanCause}
use Rattle.psr_beams.specs.Files.{beam_file, beams_observation}

-- ---- texts

abbrev pub HaveHeaders : List (List ℕ) → ℕ → Type 0
HaveHeaders files count = (beam : ℕ) → beam < count → HasHeader (beam_file files beam)

-- the file of this beam has no header, and those of the beams before it have
pub record RefusesText (files : List (List ℕ)) (beam : ℕ) (fault : HeaderFault) : Type 0 where
  pub there : beam < length files
  pub cause : IsHeaderRefusal (beam_file files beam) fault
  pub earlier : HaveHeaders files beam

-- ---- fields

-- all files have headers, and that of beam 0 says no observation
pub record RefusesFirst (files : List (List ℕ)) (fault : ObsFault) : Type 0 where
  pub texts : HaveHeaders files (length files)
  pub header : HeaderText
  pub has : header_of (beam_file files 0) ≡ Ok header
  pub cause : IsRefusedFirst (fields_of header.text) fault

-- the stop of a beam whose header has this OBS_OFFSET, or another fault, where another one is expected
abbrev pub stop_of_offset : ℕ → ℕ → Result ℕ ObsFault → Option Stop
stop_of_offset beam expected (Err fault) = Some (Header beam (Fields fault))
stop_of_offset beam expected (Ok found) =
    if found == expected then None else Some (Gap beam expected found)

-- The stop of a later beam at its header, or none: its header is judged as that of a later file of beam 0's
-- observation, and has the same OBS_OFFSET.
unfoldable pub later_stop : ℕ → Observation → HeaderText → Option Stop
later_stop beam o header =
    stop_of_offset beam o.obs_offset (later_offset_of (profile_of o) (fields_of header.text))

-- by beam 0's observation, a file has a header with this stop for a later beam, or with none
pub record StopsByHeader (o : Observation) (beam : ℕ) (stop : Option Stop) (file : List ℕ) :
    Type 0 where
  pub header : HeaderText
  pub has : header_of file ≡ Ok header
  pub stops : later_stop beam o header ≡ stop

-- so has the file of this beam
abbrev pub StopsLater : List (List ℕ) → ℕ → Option Stop → Type 0
StopsLater files beam stop =
    StopsByHeader (beams_observation files) beam stop (beam_file files beam)

-- all files have headers, and that of beam 0 says an observation; this later beam is the first that stops at its header
pub record RefusesLater (files : List (List ℕ)) (stop : Stop) : Type 0 where
  pub texts : HaveHeaders files (length files)
  pub first : IsAccepted (beam_file files 0)
  pub beam : ℕ
  pub later : 0 < beam
  pub there : beam < length files
  pub refused : StopsLater files beam (Some stop)
  pub earlier : (k : ℕ) → 0 < k → k < beam → StopsLater files k None

-- ---- what is accepted

-- no header is refused
pub record AreAccepted (files : List (List ℕ)) : Type 0 where
  pub first : IsAccepted (beam_file files 0)
  pub later : (beam : ℕ) → 0 < beam → beam < length files → StopsLater files beam None

-- nor is the search
pub record CanSearch (s : SettingsSeen) (files : List (List ℕ)) : Type 0 where
  pub accepted : AreAccepted files
  pub fits : plan_refusal (beams_observation files) s.search ≡ None

-- the search is refused, by this cause
pub record RefusesSearch (s : SettingsSeen) (files : List (List ℕ)) (cause : PlanCause) : Type 0 where
  pub accepted : AreAccepted files
  pub refused : IsPlanCause (plan_refusal (beams_observation files) s.search) cause
