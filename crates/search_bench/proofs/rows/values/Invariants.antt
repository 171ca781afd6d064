use Rattle.std.proofs.Common.{◌≡◌, ◌≤◌, vec_len}
use Rattle.std.specs.List.{All}
use Rattle.search_bench.proofs.rows.values.Given as goal

abbrev pub invariant-loop-done : goal.invariant-loop-done
invariant-loop-done l = record {
  long : vec_len l.values ≡ l.done;
  small : All (λ x. x ≤ 31) l.values.items;
}
