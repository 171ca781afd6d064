-- The header of a later file of an observation: it has the same values as the first, and an OBS_OFFSET of its own.
-- Source: PSRDADA manual (OBS_OFFSET); what else a later header has to say is this project's choice.
use Rattle.std.specs.Prelude.{ℕ, if◌then◌else◌, List, [], ◌∷◌, filter_map, Option, Some, None, Result, Err, ℤ, pos, neg_ℤ}
use Rattle.dada_model.specs.declared.key.Key.{Key}
use Rattle.dada_model.specs.declared.key.Key.TheVariants.{Nchan, Nbit, Npol, Ndim, Tsamp, Freq, Bw, ObsOffset}
use Rattle.dada_model.specs.Fields.{Field}
use Rattle.dada_model.specs.Observation.{Observation, number_of}
use Rattle.obs_plan.specs.declared.fault.ObsFault.{ObsFault}
use Rattle.obs_plan.specs.declared.fault.ObsFault.TheVariants.{Differs}
use Rattle.obs_plan.specs.declared.profile.Profile.{Profile}
use Rattle.obs_plan.specs.Offset.{has_value, offset_or_fault}

-- what the headers of an observation's files have in common
abbrev pub profile_of : Observation → Profile
profile_of o = record {
  nchan = o.channels;
  nbit = o.nbit;
  npol = o.npol;
  ndim = 1;
  tsamp_ns = o.sample_ns;
  freq_hz = o.centre_hz;
  bw_hz = if o.is_falling then neg_ℤ (pos o.width_hz) else pos o.width_hz;
}

-- its values, in the order in which they are compared
abbrev pub profile_values : Profile → List (Key × ℤ)
profile_values p =
    (Nchan, pos p.nchan) ∷ (Nbit, pos p.nbit) ∷ (Npol, pos p.npol) ∷ (Ndim, pos p.ndim)
    ∷ (Tsamp, pos p.tsamp_ns) ∷ (Freq, pos p.freq_hz) ∷ (Bw, p.bw_hz) ∷ []

-- a header has no number for a key, or another than the value
abbrev pub difference : List Field → Key × ℤ → Option ObsFault
difference fields e = if has_value (number_of fields e.0) e.1 then None else Some (Differs e.0)

abbrev pub unless_differs : List ObsFault → Result ℕ ObsFault → Result ℕ ObsFault
unless_differs [] offset = offset
unless_differs (first ∷ more) offset = Err first

-- the OBS_OFFSET of a later header, or its first fault
unfoldable pub later_offset_of : Profile → List Field → Result ℕ ObsFault
later_offset_of p fields =
    unless_differs (filter_map (difference fields) (profile_values p))
    (offset_or_fault (number_of fields ObsOffset))
