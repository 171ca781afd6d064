-- What the faults of a header say.
-- Source: PSRDADA manual (the keywords); what is refused is this project's choice.
use Rattle.std.specs.Prelude.{◌≡◌, ◌⊎◌, List, Some, Err}
use Rattle.dada_model.specs.declared.key.Key.{Key}
use Rattle.dada_model.specs.Fields.{Field}
use Rattle.dada_model.specs.Observation as model
use Rattle.dada_model.specs.Observation.{Refusal, refusal_at, observation_of}
use Rattle.obs_plan.specs.declared.fault.ObsFault.{ObsFault}
use Rattle.obs_plan.specs.declared.fault.ObsFault.TheVariants.{Missing, BadNumber, OutOfProfile, OutOfRange, TooNarrow, Differs, Memory}

-- the fault is a refusal of which P holds
abbrev pub IsObservationRefusal : (Refusal → Type 0) → ObsFault → Type 0
IsObservationRefusal P (Missing key) = P (model.Missing key)
IsObservationRefusal P (BadNumber key) = P (model.BadNumber key)
IsObservationRefusal P (OutOfProfile key) = P (model.OutOfProfile key)
IsObservationRefusal P (OutOfRange key) = P (model.OutOfRange key)
IsObservationRefusal P (TooNarrow bw nchan) = P (model.TooNarrow bw nchan)
IsObservationRefusal P (Differs key) = ⊥
IsObservationRefusal P Memory = ⊥

-- it is what is refused at a key, and what is refused first
abbrev pub IsRefusedAt : List Field → Key → ObsFault → Type 0
IsRefusedAt fields key fault =
    IsObservationRefusal (λ refusal. refusal_at fields key ≡ Some refusal) fault

abbrev pub IsRefusedFirst : List Field → ObsFault → Type 0
IsRefusedFirst fields fault =
    IsObservationRefusal (λ refusal. observation_of fields ≡ Err refusal) fault

-- a header's fault is its first refusal, or want of memory
abbrev pub ExplainsObservation : List Field → ObsFault → Type 0
ExplainsObservation fields fault = (fault ≡ Memory) ⊎ IsRefusedFirst fields fault
