use Rattle.std.proofs.Common.{◌≡◌, ◌+◌, ◌-◌, ◌*◌, length}
use Rattle.shard_search.specs.Thresholds.{AreLeastSums}
use Rattle.shard_search.proofs.thresholds.add_sums.Given as goal

-- the least sums of the first widths
abbrev pub invariant-loop-at : goal.invariant-loop-at
invariant-loop-at l = record {
  count : length l.sums.items ≡ length l.widths * (l.d - l.first) + l.at;
  least : AreLeastSums l.search l.sought l.first l.widths l.sums.items;
}
