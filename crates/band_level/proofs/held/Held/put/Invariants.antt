use Rattle.std.proofs.Common.{◌-◌, ◌≤◌, length, take}
use Rattle.band_level.specs.Holding.{Puts}
use Rattle.band_level.proofs.held.Held.put.Given as goal

abbrev pub invariant-loop-taken : goal.invariant-loop-taken
invariant-loop-taken l = record {
  within : l.taken ≤ length l.bytes;
  puts : Puts l.fn.self.format l.fn.self l.self (take l.taken l.bytes);
}

abbrev pub decreases-loop-taken : goal.decreases-loop-taken
decreases-loop-taken l = length l.bytes - l.taken
