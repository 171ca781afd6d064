use Rattle.std.proofs.Common.{◌≡◌, ◌+◌, ◌-◌, ◌*◌, ◌/◌, ◌%◌, ◌^◌, ◌==◌, ◌≤◌, sum_by, if◌then◌else◌}
use Rattle.std.specs.List.{range_with_len}
use Rattle.fold_phase.proofs.shift.Given as goal

abbrev pub invariant-loop-k : goal.invariant-loop-k
invariant-loop-k l = record {
  parts : l.shift ≡ sum_by
      (λ k. if (l.i / 2 ^ (l.m - 1 - k)) % 2 == 1 then (l.j / 2 ^ k + 1) / 2 else 0)
      (range_with_len 0 l.k);
  bound : l.shift ≤ 2048 * l.k;
}
