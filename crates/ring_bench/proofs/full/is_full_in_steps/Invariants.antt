use Rattle.std.proofs.Common.{◌≡◌, ◌*◌, length}
use Rattle.ring_bench.specs.Full.{AreZero, IsFullTo}
use Rattle.ring_bench.proofs.full.is_full_in_steps.Given as goal

abbrev pub invariant-loop-step : goal.invariant-loop-step
invariant-loop-step l = record {
  long : length l.others ≡ 32;
  full : AreZero l.others → IsFullTo l.block l.byte (l.step * 32);
}
