-- A law of the headers of beams; a function of this crate carries it.
-- Source: PSRDADA manual (OBS_OFFSET); what a later header has to say is this project's choice.
use Rattle.std.specs.Prelude.{◌≡◌, List, Ok}
use Rattle.dada_model.specs.Fields.{Field}
use Rattle.dada_model.specs.Observation.{Observation, observation_of}
use Rattle.obs_plan.specs.Later.{later_offset_of, profile_of}

-- a header that says the same as the first one, and has its OBS_OFFSET, has its observation
abbrev pub LaterHeadersAgree : Type 0
LaterHeadersAgree = (o : Observation) (first later : List Field) → observation_of first ≡ Ok o →
    later_offset_of (profile_of o) later ≡ Ok o.obs_offset → observation_of later ≡ Ok o
