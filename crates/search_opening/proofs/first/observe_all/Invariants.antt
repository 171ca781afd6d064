use Rattle.std.proofs.Common.{◌≡◌, length, take}
use Rattle.disk_feeder.specs.Feeder.{headers_of}
use Rattle.search_opening.specs.First.{AreObserved}
use Rattle.search_opening.proofs.first.observe_all.Given as goal

-- the headers before are observed
abbrev pub invariant-loop-transfer : goal.invariant-loop-transfer
invariant-loop-transfer g l = record {
  count : length l.observations.items ≡ l.transfer;
  observed : AreObserved (take l.transfer (headers_of l.feeder)) l.observations.items;
}
