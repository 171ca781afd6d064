use Rattle.std.proofs.Common.{◌≡◌, ◌≤◌}
use Rattle.band_level.specs.Rows.{AreNarrow}
use Rattle.band_level.proofs.narrow.narrow_scales.Given as goal

abbrev pub invariant-loop-i : goal.invariant-loop-i
invariant-loop-i l = record {
  few : l.misses ≤ l.i;
  narrow : l.misses ≡ 0 → AreNarrow l.i l.most l.gains l.bases l.lifts l.narrow_gains l.narrow_bases l.narrow_lifts;
}
