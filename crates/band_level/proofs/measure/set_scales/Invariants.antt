use Rattle.std.proofs.Common.{ℕ, ◌≡◌, ◌≤◌, length}
use Rattle.band_level.specs.Columns.{moments_held}
use Rattle.band_level.specs.Levelled.{marks_cell}
use Rattle.band_level.specs.Rows.{ScalesFit, SetsScales, scale_held}
use Rattle.band_level.proofs.measure.set_scales.Given as goal

abbrev pub invariant-loop-i : goal.invariant-loop-i
invariant-loop-i l = record {
  fit : ScalesFit (length l.counts) l.gains l.bases l.lifts;
  sets : SetsScales l.i l.task.plan (marks_cell l.masked l.polarisations)
      (moments_held l.counts l.totals l.squares)
      (scale_held l.initial.gains l.initial.bases l.initial.lifts) (scale_held l.gains l.bases l.lifts);
  rest : (i : ℕ) → l.i ≤ i → scale_held l.gains l.bases l.lifts i
      ≡ scale_held l.initial.gains l.initial.bases l.initial.lifts i;
}
