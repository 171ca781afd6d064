use Rattle.std.proofs.Common.{◌≡◌, vec_len}
use Rattle.search_bench.proofs.rows.add_often.Given as goal

abbrev pub invariant-loop-done : goal.invariant-loop-done
invariant-loop-done l = record {
  here : vec_len l.here ≡ l.length;
  there : vec_len l.there ≡ l.length;
}
