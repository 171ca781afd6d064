use Rattle.std.proofs.Common.{◌≡◌, ℕ, ◌<◌, true, false, length, slice_index}
use Rattle.row_model.specs.Sums.{is_narrow}
use Rattle.row_schedule.specs.Layout.{hold_of}
use Rattle.row_schedule.proofs.layout.Layout.of_kept.Given as goal

abbrev pub invariant-loop-r : goal.invariant-loop-r
invariant-loop-r l = record {
  entries : length l.layout.places.items ≡ l.r;
  each : (q : ℕ) → q < l.r → slice_index l.layout.places.items q ≡ hold_of l.rows l.narrow (is_narrow l.narrow q) q;
  narrow : l.layout.narrow_size ≡ hold_of l.rows l.narrow true l.r;
  wide : l.layout.wide_size ≡ hold_of l.rows l.narrow false l.r;
}
