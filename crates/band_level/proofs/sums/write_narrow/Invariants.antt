use Rattle.std.proofs.Common.{◌≡◌, ℕ, ◌+◌, ◌<◌, slice_index}
use Rattle.band_level.proofs.sums.write_narrow.Given as goal

abbrev pub invariant-loop-i : goal.invariant-loop-i
invariant-loop-i l = record {
  row : (k : ℕ) → k < l.i → slice_index l.values (l.at + k) ≡ slice_index l.row k;
  before : (k : ℕ) → k < l.at → slice_index l.values k ≡ slice_index l.initial.values k;
}
