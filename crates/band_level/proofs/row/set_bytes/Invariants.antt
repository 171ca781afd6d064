use Rattle.std.proofs.Common.{◌≡◌, ℕ, ◌+◌, ◌<◌, ◌≤◌, slice_index}
use Rattle.band_level.specs.Values.{value_at}
use Rattle.band_level.proofs.row.set_bytes.Given as goal

abbrev pub invariant-loop-i : goal.invariant-loop-i
invariant-loop-i l = record {
  set : (i : ℕ) → i < l.i → slice_index l.row i ≡ value_at l.format l.bytes (l.start + i);
  small : (i : ℕ) → i < l.i → slice_index l.row i ≤ 255;
}
