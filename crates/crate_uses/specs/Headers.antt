-- What bytes say of an observation, or why they say nothing.
-- Source: PSRDADA manual (the keywords); what is refused is this project's choice.
use Rattle.std.specs.Prelude.{◌≡◌, ℕ, List, Ok}
use Rattle.dada_model.specs.Fields.{HeaderText, header_of, fields_of}
use Rattle.dada_model.specs.Observation.{Observation, observation_of, dm}
use Rattle.dada_header.specs.Faults.{ExplainsHeader}
use Rattle.obs_plan.specs.Faults.{ExplainsObservation}
use Rattle.crate_uses.specs.declared.headers.Refused.{Refused}
use Rattle.crate_uses.specs.declared.headers.Refused.TheVariants as fault

-- bytes begin with a header that has an observation, in which a delay has this dispersion measure
pub record HasDispersion (bytes : List ℕ) (delay result : ℕ) : Type 0 where
  pub header : HeaderText
  pub observation : Observation
  pub is_header : header_of bytes ≡ Ok header
  pub is_observation : observation_of (fields_of header.text) ≡ Ok observation
  pub dispersion : result ≡ dm observation delay

-- the header that they begin with has no observation
pub record IsWithout (bytes : List ℕ) (Explains : List ℕ → Type 0) : Type 0 where
  pub header : HeaderText
  pub is_header : header_of bytes ≡ Ok header
  pub explains : Explains header.text

-- why it is so
abbrev pub IsRefused : List ℕ → Refused → Type 0
IsRefused bytes (fault.Header refusal) = ExplainsHeader bytes refusal
IsRefused bytes (fault.Observation refusal) =
    IsWithout bytes (λ text. ExplainsObservation (fields_of text) refusal)
