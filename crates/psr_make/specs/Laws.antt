-- Laws of the definitions; the functions of this crate carry them.
-- Source: Steele, Lea & Flood, OOPSLA 2014, section 4; Zackay & Ofek, ApJ 835:11, 2017, section 2.
use Rattle.std.specs.Prelude.{◌≡◌, ℕ, ◌+◌, ◌<◌, ◌^◌, ◌↔◌, List, IsTrue, slice_index}
use Rattle.rand_xoshiro.specs.SplitMix64.{mix_u64}
use Rattle.dada_model.specs.Observation.{edges}
use Rattle.search_model.specs.Paths.{IsPath}
use Rattle.psr_make.specs.Draws.{state_after, draw, noise}
use Rattle.psr_make.specs.Pulses.{IsPassed}
use Rattle.psr_make.specs.Made.{SpecInRange, made_observation, is_on_train}
use Rattle.psr_make.specs.declared.spec.MakeSpec.{MakeSpec}

-- The draws are the words of the generator SplitMix64: seeded with a number, it gives draw i after i others, and then
-- stands where the next one comes.
pub record DrawsAreSplitMix : Type 0 where
  pub first : (number : ℕ) → number < 2 ^ 64 → state_after number 0 ≡ number
  pub word : (number i : ℕ) → (mix_u64 (state_after number i)).0 ≡ draw number i
  pub next : (number i : ℕ) → (mix_u64 (state_after number i)).1 ≡ state_after number (i + 1)
  -- a generator that stands after i draws goes on with those from i on
  pub goes_on : (number i j : ℕ) → state_after (state_after number i) j ≡ state_after number (i + j)
  pub noise : (number i j : ℕ) → noise (state_after number i) j ≡ noise number (i + j)

-- A cell is on the train exactly where some pulse passes it, along any path of the delay over the band.
abbrev pub TrainGoesByPath : Type 0
TrainGoesByPath = (s : MakeSpec) (e : List ℕ) (c t : ℕ) → SpecInRange s →
    IsPath (edges (made_observation s)) s.channels s.delay e →
    IsTrue (is_on_train s c t) ↔ IsPassed s (slice_index e c) (slice_index e (c + 1)) t
