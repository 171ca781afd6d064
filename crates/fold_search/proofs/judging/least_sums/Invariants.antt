use Rattle.std.proofs.Common.{◌≡◌, ℕ, ◌*◌, ◌^◌, ◌<◌, length, None}
use Rattle.std.specs.Prelude.{slice_index_or}
use Rattle.detect_rule.specs.Noise.{StandOutFrom}
use Rattle.fold_search.proofs.judging.least_sums.Given as goal

abbrev pub invariant-loop-halvings : goal.invariant-loop-halvings
invariant-loop-halvings l = record {
  long : length l.least ≡ 13;
  least : (m : ℕ) → m < l.halvings → StandOutFrom l.rule (2 ^ m * l.cells) (slice_index_or l.least m None);
}
