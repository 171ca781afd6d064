-- Offsets that are taken of observations, one after another.
use Rattle.std.proofs.Common.{◌≡◌, ℕ, ◌≤◌, ◌^◌, List, length, get_or, slice_get, Option, Some, All, ap, ◌∙◌}
use Rattle.std.proofs.lemmas.Option.{slice_get_within, get_or_from_slice_get}
use Rattle.dada_model.specs.Observation.{Observation}
use Rattle.search_opening.specs.Offsets.{AreOffsetsOf}
use Rattle.search_opening.proofs.Built.{AreBuilt}

module _ (observations : List (Option Observation)) where
  -- the offset of a transfer is that of its observation
  abbrev pub IsOffsetAt : ℕ → ℕ → Type 0
  IsOffsetAt k offset =
      (o : Observation) → slice_get observations k ≡ Some (Some o) → offset ≡ o.obs_offset

  pub offset_there : (k : ℕ) (at : Option Observation) (offset : ℕ) → at ≡ get_or observations k at →
      ((o : Observation) → at ≡ Some o → offset ≡ o.obs_offset) → IsOffsetAt k offset
  offset_there k at offset read is o there = is o (read ∙ get_or_from_slice_get observations k (Some o) at there)

  pub offsets_of : (offsets : List ℕ) → AreBuilt IsOffsetAt (length observations) offsets →
      All (λ offset. offset ≤ 10 ^ 15) offsets → AreOffsetsOf observations offsets
  offsets_of offsets built bounds = record {
    count = built.count;
    each = λ k o there.
        let slot = built.each k (slice_get_within observations k (Some o) there) in
        slot.1 ∙ ap (λ (x : ℕ). Some x) (slot.2 o there);
    bounds = bounds;
  }
