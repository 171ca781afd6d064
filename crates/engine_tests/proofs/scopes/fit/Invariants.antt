use Rattle.std.proofs.Common.{ℕ, ◌+◌, ◌≤◌, ◌<◌, slice_index}
use Rattle.engine_tests.proofs.scopes.fit.Given as goal

abbrev pub invariant-loop-d : goal.invariant-loop-d
invariant-loop-d l = (d : ℕ) → d < l.d → slice_index l.counts d ≤ l.channels + d
