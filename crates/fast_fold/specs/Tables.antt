-- The tables of a folder.
-- Source: Staelin, Proc. IEEE 57:724, 1969 (folding by halves); the sizes are this project's choice.
use Rattle.std.specs.Prelude.{ℕ, ◌*◌, ◌^◌, ◌≡◌, ◌<◌, ◌≤◌, min}

-- the tables of a folder have room for all that it may be loaded with, and were loaded with no more
pub record IsRoomy (longest most period halvings level sums spare tile spare_tile : ℕ) : Type 0 where
  pub size : longest * 2 ^ most ≤ 2 ^ 22
  pub few : most ≤ 12
  pub sums_room : sums ≡ longest * 2 ^ most
  pub spare_room : spare ≡ longest * 2 ^ most
  pub short : period ≤ longest
  pub some_phases : 0 < halvings → 0 < period
  pub few_halvings : halvings ≤ most
  pub done : level ≤ halvings
  pub tile_room : 2 ^ min most 8 * 784 ≤ tile
  pub spare_tile_room : 2 ^ min most 8 * 784 ≤ spare_tile
