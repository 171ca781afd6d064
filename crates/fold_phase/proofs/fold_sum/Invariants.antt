use Rattle.std.proofs.Common.{◌≡◌, ◌+◌, ◌*◌, ◌%◌, ◌^◌, ◌≤◌, sum_by, slice_index}
use Rattle.std.specs.List.{range_with_len}
use Rattle.search_model.specs.Folds.{shift}
use Rattle.fold_phase.proofs.fold_sum.Given as goal

abbrev pub invariant-loop-row : goal.invariant-loop-row
invariant-loop-row l = record {
  parts : l.sum ≡ sum_by
      (λ i. slice_index l.series (i * l.p + (l.phase + shift l.m l.j i) % l.p))
      (range_with_len 0 l.row);
  bound : l.sum ≤ 2 ^ 32 * l.row;
}
