-- What the header of a later file has for a key.
-- Source: PSRDADA manual (OBS_OFFSET); the ranges are this project's choice.
use Rattle.std.specs.Prelude.{ℕ, ◌^◌, Bool, false, ◌&&◌, nat_le, if◌then◌else◌, Result, Ok, Err, ℤ, pos, unsigned_abs}
use Rattle.dada_model.specs.declared.key.Key.TheVariants.{ObsOffset}
use Rattle.dada_model.specs.Observation.{Refusal, is_within}
use Rattle.obs_plan.specs.declared.fault.ObsFault.{ObsFault}
use Rattle.obs_plan.specs.declared.fault.ObsFault.TheVariants.{BadNumber, OutOfRange}

-- the number is the value; one whose absolute value is above 10^18 is another value than any
abbrev pub has_value : Result ℤ Refusal → ℤ → Bool
has_value (Ok z) value = is_within value value z && nat_le (unsigned_abs z) (10 ^ 18)
has_value (Err _) value = false

-- an OBS_OFFSET in its row
abbrev pub offset_or_fault : Result ℤ Refusal → Result ℕ ObsFault
offset_or_fault (Ok z) =
    if is_within (pos 0) (pos (10 ^ 15)) z then Ok (unsigned_abs z) else Err (OutOfRange ObsOffset)
offset_or_fault (Err _) = Err (BadNumber ObsOffset)
