use Rattle.std.proofs.Common.{◌≡◌}
use Rattle.drive_stream.specs.Flows.{FlowsOn}
use Rattle.drive_stream.proofs.flow.flow.Given as goal

abbrev pub invariant-loop-turn : goal.invariant-loop-turn
invariant-loop-turn g l = record {
  same : l.feeder.inputs.ghost_name ≡ l.fn.feeder.inputs.ghost_name;
  flows : FlowsOn g.I.Inputs.told g.I.Inputs.is_open g.I.Inputs.is_calm g.I.Inputs.faults
      (g.T.Streaming.streams l.task l.observation) l.fn.feeder l.feeder l.fn.stream l.stream
      (g.K.Sink.seen l.fn.out) (g.K.Sink.seen l.out);
}
