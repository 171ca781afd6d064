-- An amount that is spread over the values of a spectrum, one after another.
-- Source: this project's choice.
use Rattle.std.specs.Prelude.{ℕ, ◌≡◌, ◌+◌, ◌-◌, ◌*◌, ◌/◌, ◌%◌, ◌<◌, ◌≤◌, Bool, List, slice_index, min, if◌then◌else◌}
use Rattle.band_level.specs.declared.finish.Spread.{Spread}
use Rattle.band_level.specs.Finished.{kept_before, share}

-- the parts of a spread
pub record IsSpread (s : Spread) : Type 0 where
  pub start : s.start < s.count
  pub whole : s.whole ≡ s.amount / s.count
  pub rest : s.rest ≡ s.amount % s.count
  pub few : s.count ≤ 8192
  pub part : s.rest < s.count
  pub small : s.amount ≤ 8192 * 65535
  pub most : s.most ≤ 65535

-- what is left over of the first j shares
abbrev pub left_over : Spread → ℕ → ℕ
left_over s j = (j * s.amount + s.start) % s.count

-- a value with its share
abbrev pub with_share : Spread → ℕ → ℕ → ℕ
with_share s part value = min s.most (if s.is_taken then value - part else value + part)

-- the value of a cell with its share, if it isn't masked
abbrev pub spread_level : Spread → (ℕ → Bool) → List ℕ → ℕ → ℕ
spread_level s is_masked levels i =
    if is_masked i then slice_index levels i else
    with_share s (share s.count s.amount s.start (kept_before is_masked i)) (slice_index levels i)
