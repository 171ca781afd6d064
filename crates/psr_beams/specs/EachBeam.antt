-- What is said of the files of several beams, of each by itself where its bytes are told: so a stop is explained by the
-- files that it needs, whatever is told of the others. An observation of which beams are is that of beam 0, where its
-- file is told.
-- Source: PSRDADA manual (the keywords, OBS_OFFSET); what is refused is this project's choice.
use Rattle.std.specs.Prelude.{◌≡◌, ℕ, ◌<◌, ◌≤◌, List, length, Some, None}
use Rattle.psr_base.specs.Told.{Told}
use Rattle.dada_model.specs.Observation.{Observation}
use Rattle.dada_header.specs.declared.faults.HeaderFault.{HeaderFault}
use Rattle.dada_header.specs.Faults.{IsHeaderRefusal}
use Rattle.obs_plan.specs.declared.fault.ObsFault.{ObsFault}
use Rattle.search_model.specs.Observed.{candidates_of}
use Rattle.search_model.specs.Plan.{plan_refusal}
use Rattle.search_words.specs.Settings.{SettingsSeen}
use Rattle.stream_model.specs.Walk as walk
use Rattle.stream_model.specs.Walk.{data_of, observation_at, walk_stop}
use Rattle.stream_model.specs.WalkLaws.{IsAccepted}
use Rattle.run_outcome.specs.declared.causes.PlanCause.{PlanCause}
use Rattle.run_outcome.specs.declared.stop.Stop.{Stop}
use Rattle.run_outcome.specs.declared.stop.Stop.TheVariants.{TooLong}
use Rattle.run_outcome.specs.Firsts.{HasHeader, RefusesFields}
use Rattle.run_outcome.specs.Runs.{IsPlanCause, stop_of_walk}
use Rattle.psr_beams.specs.Files.{OfBeam, stream_of_one}
use Rattle.psr_beams.specs.Refusals.{StopsByHeader}

-- ---- headers

-- so many beams have headers
abbrev pub HaveHeadersAt : (ℕ → Told) → SettingsSeen → ℕ → Type 0
HaveHeadersAt told s count = (k : ℕ) → k < count → OfBeam told s k HasHeader

-- this beam has no header, and those before it have
pub record RefusesTextAt (told : ℕ → Told) (s : SettingsSeen) (beam : ℕ) (fault : HeaderFault) :
    Type 0 where
  pub there : beam < length s.names
  pub refused : OfBeam told s beam (λ file. IsHeaderRefusal file fault)
  pub earlier : HaveHeadersAt told s beam

-- all beams have headers, and that of beam 0 says no observation
pub record RefusesFirstAt (told : ℕ → Told) (s : SettingsSeen) (fault : ObsFault) : Type 0 where
  pub texts : HaveHeadersAt told s (length s.names)
  pub refused : OfBeam told s 0 (λ file. RefusesFields file fault)

-- the header of a file says this observation
pub record SaysObservation (o : Observation) (file : List ℕ) : Type 0 where
  pub accepted : IsAccepted file
  pub is : observation_at file ≡ o

-- so many beams are of this observation: beam 0 says it, and the headers of later ones agree with it
pub record AreOfOneAt (told : ℕ → Told) (s : SettingsSeen) (count : ℕ) (o : Observation) :
    Type 0 where
  pub first : OfBeam told s 0 (SaysObservation o)
  pub later : (k : ℕ) → 0 < k → k < count → OfBeam told s k (StopsByHeader o k None)

-- All beams have headers, and those before this one are of one observation. Its own header has this stop by that
-- observation; and it is a later beam, where the file of beam 0 is told.
pub record RefusesLaterAt (told : ℕ → Told) (s : SettingsSeen) (beam : ℕ) (stop : Stop) :
    Type 0 where
  pub texts : HaveHeadersAt told s (length s.names)
  pub there : beam < length s.names
  pub later : OfBeam told s 0 (λ file. 0 < beam)
  pub observation : Observation
  pub earlier : AreOfOneAt told s beam observation
  pub refused : OfBeam told s beam (StopsByHeader observation beam (Some stop))

-- ---- the search

-- all beams are of one observation, whose search fits
pub record CanSearchAt (told : ℕ → Told) (s : SettingsSeen) : Type 0 where
  pub observation : Observation
  pub accepted : AreOfOneAt told s (length s.names) observation
  pub fits : plan_refusal observation s.search ≡ None

-- all beams are of one observation, whose search is refused by this cause
pub record RefusesSearchAt (told : ℕ → Told) (s : SettingsSeen) (cause : PlanCause) :
    Type 0 where
  pub observation : Observation
  pub accepted : AreOfOneAt told s (length s.names) observation
  pub refused : IsPlanCause (plan_refusal observation s.search) cause

-- ---- data

-- all data of a file are read
abbrev pub IsWholeFile : SettingsSeen → List ℕ → Type 0
IsWholeFile s file = walk_stop (stream_of_one s file) ≡ walk.Whole

-- so are those of so many beams
abbrev pub AreWholeAt : (ℕ → Told) → SettingsSeen → ℕ → Type 0
AreWholeAt told s count = (k : ℕ) → k < count → OfBeam told s k (IsWholeFile s)

-- a file has more data than this limit, at which it stops
abbrev pub IsTooLongFile : SettingsSeen → ℕ → List ℕ → Type 0
IsTooLongFile s limit file =
    stop_of_walk s.max_bytes (walk_stop (stream_of_one s file)) ≡ Some (TooLong limit)

-- The search is accepted. This beam has more data than this limit, which is that of the settings, and those before it
-- are read whole.
pub record StopsBeamAt (told : ℕ → Told) (s : SettingsSeen) (limit : ℕ) : Type 0 where
  pub begins : CanSearchAt told s
  pub limit_is : limit ≡ s.max_bytes
  pub beam : ℕ
  pub there : beam < length s.names
  pub long : OfBeam told s beam (IsTooLongFile s limit)
  pub earlier : AreWholeAt told s beam

-- ---- candidates

-- how many candidates the data of a file have
abbrev pub count_of : Observation → SettingsSeen → List ℕ → ℕ
count_of o s file = length (candidates_of o s.search (data_of file))

-- so many beams have no more candidates each than there may be
abbrev pub AreFewAt : (ℕ → Told) → SettingsSeen → Observation → ℕ → Type 0
AreFewAt told s o count = (k : ℕ) → k < count →
    OfBeam told s k (λ file. count_of o s file ≤ s.search.max_candidates)

-- The search is accepted, and all data are read. This beam has so many candidates, which are more than there may be,
-- and those before it have no more.
pub record HasTooManyAt (told : ℕ → Told) (s : SettingsSeen) (count limit : ℕ) : Type 0 where
  pub begins : CanSearchAt told s
  pub whole : AreWholeAt told s (length s.names)
  pub beam : ℕ
  pub there : beam < length s.names
  pub counted : OfBeam told s beam (λ file. count_of begins.observation s file ≡ count)
  pub limit_is : limit ≡ s.search.max_candidates
  pub many : limit < count
  pub earlier : AreFewAt told s begins.observation beam

-- the search is accepted, all data are read, and no beam has more candidates than there may be
pub record AreSearchedAt (told : ℕ → Told) (s : SettingsSeen) : Type 0 where
  pub begins : CanSearchAt told s
  pub whole : AreWholeAt told s (length s.names)
  pub few : AreFewAt told s begins.observation (length s.names)
