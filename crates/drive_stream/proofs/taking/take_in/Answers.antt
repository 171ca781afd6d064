use Rattle.std.proofs.Common.{◌+◌, ◌-◌, ◌++◌, length, take, drop, arith}
use Rattle.std.proofs.lemmas.List.{take_all, length-take}
use Rattle.drive_stream.specs.Endings.{Failed as FailedSink, Midway}
use Rattle.drive_stream.proofs.Pieces.{none_taken, one_more, one_ends, same_bytes, same_left, stands_still, pieces_meet, rest_meets, rest_length}
use Rattle.drive_stream.proofs.taking.take_in.Goals as goal

pub loop-taken-init : goal.loop-taken-init
loop-taken-init g c = record {
  within = omega arith;
  on = none_taken (g.T.Streaming.streams c.args.task.now c.args.observation.now) c.args.stream.now
      (g.K.Sink.seen c.args.out.now);
}

pub loop-taken-preserved : goal.loop-taken-preserved
loop-taken-preserved g c =
    let seen = g.K.Sink.seen in
    let streams = g.T.Streaming.streams c.args.task.now c.args.observation.now in
    let all = c.args.bytes.now in
    let taken = c.loop-taken.taken in
    let rest = rest_length taken all c.loop-taken.invariant.within in
    let most = c.in-Ok.ensures.within in
    record {
      within = omega (arith, most, rest, c.loop-taken.invariant.within);
      on = same_bytes streams c.args.stream.now c.feed.new.stream (seen c.args.out.now) (seen c.feed.new.out)
          (take taken all ++ take c.in-Ok.count (take (length all - taken) (drop taken all)))
          (take (taken + c.in-Ok.count) all) (pieces_meet taken c.in-Ok.count all)
          (one_more streams c.args.stream.now c.loop-taken.stream c.feed.new.stream (take taken all) _
          (seen c.args.out.now) (seen c.loop-taken.out) (seen c.feed.new.out) c.loop-taken.invariant.on
          c.in-Ok.ensures.took);
    }

pub returns-in-Err-clause-broke : goal.returns-in-Err-clause-broke
returns-in-Err-clause-broke g c =
    let seen = g.K.Sink.seen in
    let streams = g.T.Streaming.streams c.args.task.now c.args.observation.now in
    let leaves = g.T.Streaming.leaves c.args.task.now c.args.observation.now in
    let all = c.args.bytes.now in
    let taken = c.loop-taken.taken in
    same_left streams leaves c.args.stream.now
    (take taken all ++ take (length all - taken) (drop taken all)) all (FailedSink Midway) (seen c.args.out.now)
    (seen c.feed.new.out) (rest_meets taken all)
    (one_ends streams leaves c.args.stream.now c.loop-taken.stream (take taken all) _ (FailedSink Midway)
    (seen c.args.out.now) (seen c.loop-taken.out) (seen c.feed.new.out) c.loop-taken.invariant.on
    c.in-Err.ensures.broke)

pub returns-clause-took : goal.returns-clause-took
returns-clause-took g c =
    let seen = g.K.Sink.seen in
    let streams = g.T.Streaming.streams c.args.task.now c.args.observation.now in
    let all = c.args.bytes.now in
    let taken = c.loop-taken.taken in
    same_bytes streams c.args.stream.now c.loop-taken.stream (seen c.args.out.now) (seen c.loop-taken.out)
    (take taken all) all (take_all taken all (omega arith)) c.loop-taken.invariant.on

pub feed-requires : goal.feed-requires
feed-requires g c =
    let seen = g.K.Sink.seen in
    let streams = g.T.Streaming.streams c.args.task.now c.args.observation.now in
    let all = c.args.bytes.now in
    let taken = c.loop-taken.taken in
    let within = c.loop-taken.invariant.within in
    stands_still streams c.args.stream.now c.loop-taken.stream (take taken all) (length all) _ (seen c.args.out.now)
    (seen c.loop-taken.out) c.loop-taken.invariant.on
    (omega (arith, within, length-take taken all, rest_length taken all within)) c.requires
