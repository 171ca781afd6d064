-- The first headers of all transfers, in order: their observations, or the first header that is refused.
-- Source: PSRDADA manual (a transfer is what one header describes); what is refused is this project's choice.
use Rattle.std.specs.Prelude.{◌≡◌, ◌<◌, ℕ, ⊤, List, length, map, Option, Some, Ok, slice_get}
use Rattle.psr_base.specs.Told.{Told, OfFile}
use Rattle.dada_model.specs.Fields.{HeaderText, fields_of, header_of}
use Rattle.dada_model.specs.Observation.{Observation, observation_of}
use Rattle.obs_plan.specs.Faults.{ExplainsObservation}
use Rattle.stream_model.specs.Walk.{FileStream, observation_at}
use Rattle.stream_model.specs.WalkLaws.{AreWalked}
use Rattle.disk_feeder.specs.declared.answers.HeaderCause.TheVariants.{Text, Fields}
use Rattle.disk_feeder.specs.Plan.{Plan, stream_of, AreToldAt, IsFirstFile}
use Rattle.run_outcome.specs.declared.stop.Stop.{Stop}
use Rattle.run_outcome.specs.declared.stop.Stop.TheVariants.{Header, Memory, ReadFault}
use Rattle.run_outcome.specs.Firsts.{first_file, first_name, RefusesTextAt, RefusesFieldsAt, RefusesFirstFields}
use Rattle.search_opening.specs.declared.first.RefusedHeader.{RefusedHeader}

-- ---- the files

-- P holds of the files as a walk sees them, where the first one of each transfer is told
abbrev pub OfFirsts : Told → Plan → (FileStream → Type 0) → Type 0
OfFirsts told plan P = (files : List (List ℕ)) →
    AreToldAt (IsFirstFile plan.starts (length plan.names)) told plan.names files →
    P (stream_of plan files)

-- all first headers are accepted, and these are their observations
pub record AreFirsts (w : FileStream) (observations : List (Option Observation)) : Type 0 where
  pub walked : AreWalked w
  pub count : length observations ≡ length w.starts
  pub each : (k : ℕ) → k < length w.starts →
      slice_get observations k ≡ Some (Some (observation_at (first_file w k)))

-- these are the first headers
abbrev pub AreHeadersOf : FileStream → List HeaderText → Type 0
AreHeadersOf w headers = (k : ℕ) (header : HeaderText) → slice_get headers k ≡ Some header →
    header_of (first_file w k) ≡ Ok header

-- the file has the header at this place, and that says the observation there
pub record IsFirstOf
    (headers : List HeaderText) (observations : List (Option Observation)) (k : ℕ) (file : List ℕ)
    : Type 0 where
  pub header : HeaderText
  pub observation : Observation
  pub there : slice_get headers k ≡ Some header
  pub said : slice_get observations k ≡ Some (Some observation)
  pub is_header : header_of file ≡ Ok header
  pub is_observation : observation_of (fields_of header.text) ≡ Ok observation
  pub is : observation ≡ observation_at file

-- so it is with the first file of each transfer, of those that are told
abbrev pub AreFirstsAt : Told → List (List ℕ) → List ℕ → List HeaderText →
    List (Option Observation) → Type 0
AreFirstsAt told names starts headers observations = (k : ℕ) → k < length starts →
    OfFile told (first_name names starts k) (IsFirstOf headers observations k)

-- What a stop says of the first files: the header of one of them is the first that is refused, by its text or by what
-- it says
abbrev pub StopsFirsts : Told → Plan → Stop → Type 0
StopsFirsts told plan (Header file (Text fault)) =
    RefusesTextAt told plan.names plan.starts file fault
StopsFirsts told plan (Header file (Fields fault)) =
    RefusesFieldsAt told plan.names plan.starts file fault
    × OfFirsts told plan (λ w. RefusesFirstFields w file fault)
StopsFirsts told plan Memory = ⊤
StopsFirsts told plan ReadFault = ⊤
StopsFirsts told plan _ = ⊥

-- a stop that comes while they are read: one of them is refused, the inputs failed, or there was no memory
abbrev pub ComesFirst : Stop → Type 0
ComesFirst (Header file cause) = ⊤
ComesFirst Memory = ⊤
ComesFirst ReadFault = ⊤
ComesFirst _ = ⊥

-- ---- the headers that were read

-- each header says the observation that stands at its place
pub record AreObserved (headers : List HeaderText) (observations : List (Option Observation)) :
    Type 0 where
  pub said : List Observation
  pub here : observations ≡ map Some said
  pub accepted : map (λ header. observation_of (fields_of header.text)) headers ≡ map Ok said

-- the header of this transfer is refused, by its first refusal or for want of memory, and those before it are accepted
pub record RefusesTransferHeader (headers : List HeaderText) (refused : RefusedHeader) :
    Type 0 where
  pub header : HeaderText
  pub there : slice_get headers refused.transfer ≡ Some header
  pub cause : ExplainsObservation (fields_of header.text) refused.cause
  pub earlier : (k : ℕ) (other : HeaderText) → k < refused.transfer →
      slice_get headers k ≡ Some other →
      (o : Observation) × (observation_of (fields_of other.text) ≡ Ok o)
