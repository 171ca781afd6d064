use Rattle.std.proofs.Common.{◌≡◌, ◌-◌, ◌*◌, length}
use Rattle.shard_search.specs.Thresholds.{AreLeastSums}
use Rattle.shard_search.proofs.thresholds.open_sums.Given as goal

-- the least sums of the first delays
abbrev pub invariant-loop-d : goal.invariant-loop-d
invariant-loop-d l = record {
  count : length l.sums.items ≡ length l.widths * (l.d - l.first);
  least : AreLeastSums l.search l.sought l.first l.widths l.sums.items;
}
