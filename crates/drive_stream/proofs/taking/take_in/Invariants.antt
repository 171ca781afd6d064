use Rattle.std.proofs.Common.{◌-◌, ◌≤◌, length, take}
use Rattle.drive_stream.specs.Streams.{StreamsOn}
use Rattle.drive_stream.proofs.taking.take_in.Given as goal

abbrev pub invariant-loop-taken : goal.invariant-loop-taken
invariant-loop-taken g l = record {
  within : l.taken ≤ length l.bytes;
  on : StreamsOn (g.T.Streaming.streams l.task l.observation) l.fn.stream (take l.taken l.bytes) l.stream
      (g.K.Sink.seen l.fn.out) (g.K.Sink.seen l.out);
}

abbrev pub decreases-loop-taken : goal.decreases-loop-taken
decreases-loop-taken g l = length l.bytes - l.taken
