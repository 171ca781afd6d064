use Rattle.std.proofs.Common.{[], ◌++◌, inr, arith}
use Rattle.stream_model.specs.Blocks.{joined_bytes}
use Rattle.drive_stream.proofs.Streamed.{head_broke, flow_broke, closed}
use Rattle.drive_stream.proofs.writing.write_stream.Goals as goal

pub returns-in-Err-clause-wrote : goal.returns-in-Err-clause-wrote
returns-in-Err-clause-wrote g c =
    let i = g.I.Inputs in
    inr (head_broke i.told i.is_calm i.faults (g.T.Streaming.opens c.args.task.now c.args.observation.now)
    (g.T.Streaming.streams c.args.task.now c.args.observation.now)
    (g.T.Streaming.leaves c.args.task.now c.args.observation.now) c.args.feeder.now c.args.stream.now
    (g.K.Sink.seen c.args.out.now) (g.K.Sink.seen c.begin.new.out) c.requires.stands
    c.requires.running.0 c.requires.running.1 c.in-Err.ensures.broke)

pub close-requires : goal.close-requires
close-requires g c =
    let seen = g.K.Sink.seen in
    let head = c.requires.head in
    let flows = c.in-Ok-flow.ensures.flowed in
    let few = flows.few in
    record {
      header = head.0;
      bytes = [] ++ joined_bytes flows.taken.blocks;
      start = seen c.args.out.now;
      stands = flows.taken.on head.0 [] (seen c.args.out.now) (c.in-Ok.ensures.began head.0 head.1);
      few = omega (arith, few);
    }

pub returns-in-Ok-flow-clause-wrote : goal.returns-in-Ok-flow-clause-wrote
returns-in-Ok-flow-clause-wrote g c =
    let i = g.I.Inputs in
    closed i.told i.is_calm i.faults (g.T.Streaming.opens c.args.task.now c.args.observation.now)
    (g.T.Streaming.streams c.args.task.now c.args.observation.now)
    (g.T.Streaming.leaves c.args.task.now c.args.observation.now) c.args.feeder.now c.flow.new.feeder
    c.args.stream.now c.begin.new.stream c.flow.new.stream (g.K.Sink.seen c.args.out.now)
    (g.K.Sink.seen c.begin.new.out) (g.K.Sink.seen c.flow.new.out) (g.K.Sink.seen c.close.new.out) _ c.close.result
    c.in-Ok.ensures.began c.in-Ok-flow.ensures.flowed c.close.ensures

pub returns-in-Err-flow-clause-wrote : goal.returns-in-Err-flow-clause-wrote
returns-in-Err-flow-clause-wrote g c =
    let i = g.I.Inputs in
    inr (flow_broke i.told i.is_calm i.faults (g.T.Streaming.opens c.args.task.now c.args.observation.now)
    (g.T.Streaming.streams c.args.task.now c.args.observation.now)
    (g.T.Streaming.leaves c.args.task.now c.args.observation.now) c.args.feeder.now c.flow.new.feeder
    c.args.stream.now c.begin.new.stream (g.K.Sink.seen c.args.out.now) (g.K.Sink.seen c.begin.new.out)
    (g.K.Sink.seen c.flow.new.out) c.in-Ok.ensures.began c.in-Err-flow.ensures.broke)
