use Rattle.std.proofs.Common.{◌≡◌, length}
use Rattle.disk_feeder.proofs.source.Source.open.Given as goal

abbrev pub invariant-loop-start : goal.invariant-loop-start
invariant-loop-start l = length l.headers.items ≡ l.start-index
