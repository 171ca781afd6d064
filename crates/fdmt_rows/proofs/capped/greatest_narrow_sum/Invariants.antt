use Rattle.std.proofs.Common.{ℕ, ◌≤◌}
use Rattle.fdmt_rows.specs.Capped.{FirstSumsUpTo}
use Rattle.fdmt_rows.proofs.capped.greatest_narrow_sum.Given as goal

abbrev pub invariant-loop-k : goal.invariant-loop-k
invariant-loop-k l = record {
  enough : FirstSumsUpTo l.a l.b l.k l.most;
  least : (bound : ℕ) → FirstSumsUpTo l.a l.b l.k bound → l.most ≤ bound;
}
