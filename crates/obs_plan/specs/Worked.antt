-- Worked values of the definitions, computed.
use Rattle.std.specs.Prelude.{◌≡◌, ℕ, List, [], ◌∷◌, map, Result, Ok, Err, codes, refl}
use Rattle.dada_model.specs.declared.key.Key.TheVariants.{Ndim, Bw, ObsOffset}
use Rattle.dada_model.specs.Number.{number_value}
use Rattle.dada_model.specs.Fields.{Field, value_of}
use Rattle.dada_model.specs.Observation.{number_of}
use Rattle.dada_model.specs.Worked.{two_channels}
use Rattle.obs_plan.specs.declared.fault.ObsFault.{ObsFault}
use Rattle.obs_plan.specs.declared.fault.ObsFault.TheVariants.{BadNumber, OutOfRange, Differs}
use Rattle.obs_plan.specs.Later.{profile_of, later_offset_of}

abbrev field : List ℕ → List ℕ → Field
field keyword value = record { keyword = keyword; value = value }

-- the fields of a later header, after a first one
abbrev later : Field → List Field
later first =
    first ∷ field (codes "NCHAN") (codes "2") ∷ field (codes "NBIT") (codes "8.9")
    ∷ field (codes "TSAMP") (codes "64.0009") ∷ field (codes "FREQ") (codes "1400")
    ∷ field (codes "BW") (codes "-200") ∷ []

abbrev offset_after : Field → Result ℕ ObsFault
offset_after first = later_offset_of (profile_of two_channels) (later first)

offsets : map offset_after
    (field (codes "HDR_SIZE") (codes "4096") ∷ field (codes "OBS_OFFSET") (codes "4.9")
    ∷ field (codes "OBS_OFFSET") (codes "x")
    ∷ field (codes "OBS_OFFSET") (codes "-1") ∷ [])
    ≡ Ok 0 ∷ Ok 4 ∷ Err (BadNumber ObsOffset) ∷ Err (OutOfRange ObsOffset) ∷ []
unfolding number_value value_of number_of later_offset_of
offsets = refl

differences : map offset_after
    (field (codes "BW") (codes "200") ∷ field (codes "NDIM") (codes "x") ∷ [])
    ≡ Err (Differs Bw) ∷ Err (Differs Ndim) ∷ []
unfolding number_value value_of number_of later_offset_of
differences = refl
