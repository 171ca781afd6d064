-- What is seen of the inputs of several beams, by the numbers of the beams.
-- Source: this project's choice.
use Rattle.std.specs.Prelude.{ℕ, List, slice_get, IsSomeAnd}
use Rattle.std.specs.Option.{option_map_or}
use Rattle.psr_base.specs.Told.{Told, nothing_told, InputsSeen}

-- what the inputs of a beam tell
abbrev pub told_at : {I : Type 0} → (I → Told) → List I → ℕ → Told
told_at told inputs beam = option_map_or told (slice_get inputs beam) nothing_told

-- how many of their calls have failed
abbrev pub faults_at : {I : Type 0} → (I → ℕ) → List I → ℕ → ℕ
faults_at faults inputs beam = option_map_or faults (slice_get inputs beam) 0

-- they are there, and calm
abbrev pub calm_at : {I : Type 0} → (I → Type 0) → List I → ℕ → Type 0
calm_at is_calm inputs beam = IsSomeAnd (slice_get inputs beam) is_calm

-- what is seen of them over a call
abbrev pub seen_at : {I : Type 0} → (I → Told) → (I → ℕ) → List I → List I → ℕ → InputsSeen
seen_at told faults before after beam = record {
  told = told_at told before beam;
  faults_before = faults_at faults before beam;
  faults_after = faults_at faults after beam;
}

-- what the inputs of each beam tell
abbrev pub told_in : (ℕ → InputsSeen) → ℕ → Told
told_in inputs beam = (inputs beam).told
