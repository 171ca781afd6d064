use Rattle.std.proofs.Common.{ℕ, ◌<◌, List, [], ◌++◌, length, take, refl, sym, ◌∙◌, subst, arith}
use Rattle.std.proofs.lemmas.List.{length-take}
use Rattle.stream_model.specs.Blocks.{joined_bytes}
use Rattle.disk_feeder.specs.Handing.{block_of}
use Rattle.drive_stream.specs.Endings.{Failed as FailedSink, Midway}
use Rattle.drive_stream.specs.Streams.{StreamsOn, LeavesAt}
use Rattle.drive_stream.proofs.Blocks.{block_more, few_more}
use Rattle.drive_stream.proofs.Flowing.{none_flowed, has_room, one_flowed, one_breaks}
use Rattle.drive_stream.proofs.flow.flow.Goals as goal

pub loop-turn-init : goal.loop-turn-init
loop-turn-init g c =
    let i = g.I.Inputs in
    record {
      same = refl;
      flows = record {
        running = c.requires.running;
        file = c.requires.file;
        taken = none_flowed i.told i.is_calm i.faults (g.T.Streaming.streams c.args.task.now c.args.observation.now)
            c.args.feeder.now c.args.stream.now (g.K.Sink.seen c.args.out.now) c.requires.stands;
      };
    }

pub take_in-requires : goal.take_in-requires
take_in-requires g c =
    let i = g.I.Inputs in
    let seen = g.K.Sink.seen in
    let streams = g.T.Streaming.streams c.args.task.now c.args.observation.now in
    let was = c.loop-turn.invariant.flows in
    let used = c.next-handed.result.used in
    let room = has_room i.told i.is_calm i.faults streams c.bytes_are_joined.ensures c.args.feeder.now
    c.loop-turn.feeder c.next-handed.new.self c.args.stream.now c.loop-turn.stream (seen c.args.out.now)
    (seen c.loop-turn.out) was.taken c.next-handed.ensures.kept c.next-handed.result was.running c.requires.limit
    c.requires.size c.next-handed.ensures.within in
    record {
      header = c.requires.begun.header;
      bytes = [] ++ joined_bytes was.taken.blocks;
      start = c.requires.begun.start;
      stands = was.taken.on c.requires.begun.header [] c.requires.begun.start c.requires.begun.stands;
      few = omega (arith, room, length-take used c.block.result.now);
    }

pub loop-turn-preserved : goal.loop-turn-preserved
loop-turn-preserved g c =
    let i = g.I.Inputs in
    let seen = g.K.Sink.seen in
    let streams = g.T.Streaming.streams c.args.task.now c.args.observation.now in
    let was = c.loop-turn.invariant.flows in
    let handed = c.next-handed.result in
    let P : List ℕ → Type 0 = λ xs. StreamsOn streams c.loop-turn.stream (take handed.used xs) c.take_in.new.stream
    (seen c.loop-turn.out) (seen c.take_in.new.out) in
    record {
      same = c.next-handed.ensures.same_reference ∙ c.loop-turn.invariant.same;
      flows = record {
        running = sym c.next-handed.ensures.end ∙ c.in_default.is;
        file = c.next-handed.ensures.file;
        taken = one_flowed i.told i.is_calm i.faults streams c.bytes_are_joined.ensures c.args.feeder.now
            c.loop-turn.feeder c.next-handed.new.self c.args.stream.now c.loop-turn.stream (seen c.args.out.now)
            (seen c.loop-turn.out) was.taken c.next-handed.ensures.kept handed
            (c.next-handed.ensures.hands was.taken.blocks was.taken.hands) c.take_in.new.stream
            (seen c.take_in.new.out) (subst P c.block.ensures c.in-Ok.ensures.took);
      };
    }

pub returns-in-Some-end-clause-flowed : goal.returns-in-Some-end-clause-flowed
returns-in-Some-end-clause-flowed g c =
    let i = g.I.Inputs in
    let seen = g.K.Sink.seen in
    let streams = g.T.Streaming.streams c.args.task.now c.args.observation.now in
    let was = c.loop-turn.invariant.flows in
    let next = c.next-handed.new.self in
    let handed = c.next-handed.result in
    let P : List ℕ → Type 0 = λ xs. StreamsOn streams c.loop-turn.stream (take handed.used xs) c.take_in.new.stream
    (seen c.loop-turn.out) (seen c.take_in.new.out) in
    let room = has_room i.told i.is_calm i.faults streams c.bytes_are_joined.ensures c.args.feeder.now
    c.loop-turn.feeder next c.args.stream.now c.loop-turn.stream (seen c.args.out.now) (seen c.loop-turn.out) was.taken
    c.next-handed.ensures.kept handed was.running c.requires.limit c.requires.size c.next-handed.ensures.within in
    record {
      ended = sym c.next-handed.ensures.end ∙ c.in-Some-end.is;
      taken = one_flowed i.told i.is_calm i.faults streams c.bytes_are_joined.ensures c.args.feeder.now
          c.loop-turn.feeder next c.args.stream.now c.loop-turn.stream (seen c.args.out.now) (seen c.loop-turn.out)
          was.taken c.next-handed.ensures.kept handed (c.next-handed.ensures.hands was.taken.blocks was.taken.hands)
          c.take_in.new.stream (seen c.take_in.new.out) (subst P c.block.ensures c.in-Ok.ensures.took);
      few = few_more (joined_bytes was.taken.blocks) (block_of next) _ handed.used
          (block_more c.bytes_are_joined.ensures was.taken.blocks handed (block_of next)) room;
    }

pub returns-in-Err-clause-broke : goal.returns-in-Err-clause-broke
returns-in-Err-clause-broke g c =
    let i = g.I.Inputs in
    let seen = g.K.Sink.seen in
    let streams = g.T.Streaming.streams c.args.task.now c.args.observation.now in
    let leaves = g.T.Streaming.leaves c.args.task.now c.args.observation.now in
    let was = c.loop-turn.invariant.flows in
    let handed = c.next-handed.result in
    let P : List ℕ → Type 0 = λ xs. LeavesAt streams leaves c.loop-turn.stream (take handed.used xs) (FailedSink Midway)
    (seen c.loop-turn.out) (seen c.take_in.new.out) in
    one_breaks i.told i.is_calm i.faults streams c.bytes_are_joined.ensures c.args.feeder.now c.loop-turn.feeder
    c.next-handed.new.self c.args.stream.now c.loop-turn.stream (seen c.args.out.now) (seen c.loop-turn.out) was.taken
    c.next-handed.ensures.kept handed (c.next-handed.ensures.hands was.taken.blocks was.taken.hands) leaves
    (seen c.take_in.new.out) c.next-handed.ensures.idle
    (subst (λ (xs : List ℕ). 0 < length (take handed.used xs)) c.block.ensures c.in-Err.ensures.some)
    (subst P c.block.ensures c.in-Err.ensures.broke)
