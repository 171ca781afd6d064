-- How far the data of an observation were made.
-- Source: this project's choice.
use Rattle.std.specs.Prelude.{◌≡◌, ℕ, ◌*◌, ◌≤◌, List}
use Rattle.band_paths.specs.Edges.{AreDelays}
use Rattle.psr_make.specs.Draws.{state_after}
use Rattle.psr_make.specs.Made.{SpecInRange, made_path}
use Rattle.psr_make.specs.declared.spec.MakeSpec.{MakeSpec}

-- an observation, and how many of its spectra were made
pub record Making : Type 0 where
  pub spec : MakeSpec
  pub made : ℕ

-- how many values there are before spectrum t
abbrev pub values_before : MakeSpec → ℕ → ℕ
values_before s t = t * s.channels * s.npol

-- what stands behind: the delays, and a generator that stands at the draws of the next spectrum
pub record MakerIsSound (s : MakeSpec) (delays : List ℕ) (state made : ℕ) : Type 0 where
  pub in_range : SpecInRange s
  pub path : delays ≡ made_path s
  pub rises : AreDelays s.channels delays
  pub stands : state ≡ state_after s.number (values_before s made)
  pub within : made ≤ s.spectra
