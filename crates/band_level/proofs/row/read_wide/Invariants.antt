use Rattle.std.proofs.Common.{ℕ, ◌≡◌, ◌*◌, ◌<◌, ◌≤◌, slice_index}
use Rattle.band_level.specs.Values.{cells}
use Rattle.band_level.proofs.Values.{part_value}
use Rattle.band_level.proofs.row.read_wide.Given as goal

abbrev pub invariant-loop-k : goal.invariant-loop-k
invariant-loop-k l = record {
  values : (i : ℕ) → i < cells l.format → slice_index l.row i ≡ part_value l.format l.bytes l.t i l.k;
  small : (i : ℕ) → slice_index l.row i ≤ l.k * 65535;
}
