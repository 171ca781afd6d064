-- Where the data of each transfer begin.
-- Source: PSRDADA manual (OBS_OFFSET).
use Rattle.std.specs.Prelude.{◌≡◌, ℕ, ◌≤◌, ◌^◌, All, List, length, slice_get, Option, Some}
use Rattle.dada_model.specs.Observation.{Observation}

-- the OBS_OFFSET of each observation, in order
pub record AreOffsetsOf (observations : List (Option Observation)) (offsets : List ℕ) : Type 0 where
  pub count : length offsets ≡ length observations
  pub each : (k : ℕ) (o : Observation) → slice_get observations k ≡ Some (Some o) →
      slice_get offsets k ≡ Some o.obs_offset
  pub bounds : All (λ offset. offset ≤ 10 ^ 15) offsets
