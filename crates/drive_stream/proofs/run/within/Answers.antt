use Rattle.std.proofs.Common.{Some, sym, subst}
use Rattle.search_words.specs.Settings.{run_seen}
use Rattle.drive_stream.specs.Outcome.{LeavesInputs, ReadsRefused}
use Rattle.drive_stream.proofs.Through.{left_unread, left_early, left_broken, refused_unread, refused_early, no_memory_ends, stopped_ends, names_through, serves_through}
use Rattle.drive_stream.proofs.run.within.Goals as goal

pub returns-in-Err-clause-ends : goal.returns-in-Err-clause-ends
returns-in-Err-clause-ends g c =
    let t = g.T.Streaming in
    no_memory_ends (t.block c.args.task.now) (t.takes c.args.task.now) (t.refuses c.args.task.now)
    (t.leaves c.args.task.now) (run_seen c.args.run.now) (g.I.Inputs.told c.args.inputs.now)
    (g.K.Sink.seen c.args.out.now)

pub returns-in-Err-open-clause-ends : goal.returns-in-Err-open-clause-ends
returns-in-Err-open-clause-ends g c =
    let t = g.T.Streaming in
    let i = g.I.Inputs in
    stopped_ends i.told (t.block c.args.task.now) (t.takes c.args.task.now) (t.refuses c.args.task.now)
    (t.leaves c.args.task.now) (run_seen c.args.run.now) c.args.inputs.now c.over-feeder.result.inputs.now
    (g.K.Sink.seen c.args.out.now) c.in-Err-open.stop c.over-feeder.ensures.inputs c.in-Err-open.ensures.stopped

pub returns-in-Ok-open-clause-serves : goal.returns-in-Ok-open-clause-serves
returns-in-Ok-open-clause-serves g c =
    let i = g.I.Inputs in
    serves_through i.told i.is_calm i.faults (run_seen c.args.run.now) c.args.inputs.now
    c.over-feeder.result.inputs.now c.open.new.feeder.inputs.now _ _ c.over-feeder.ensures.inputs
    c.open.ensures.inputs c.stream_all-done.ensures.serves

pub returns-in-Ok-open-clause-ends : goal.returns-in-Ok-open-clause-ends
returns-in-Ok-open-clause-ends g c =
    let i = g.I.Inputs in
    c.stream_all-done.ensures.ends (i.told c.args.inputs.now)
    (names_through i.told i.is_calm i.faults c.args.inputs.now c.over-feeder.result.inputs.now
    c.open.new.feeder.inputs.now _ c.over-feeder.ensures.inputs c.open.ensures.inputs)

pub returns-in-Err-clause-leaves : goal.returns-in-Err-clause-leaves
returns-in-Err-clause-leaves g c =
    let t = g.T.Streaming in
    left_unread (t.block c.args.task.now) (t.takes c.args.task.now) (t.leaves c.args.task.now)
    (run_seen c.args.run.now) (g.I.Inputs.is_calm c.args.inputs.now) (g.I.Inputs.told c.args.inputs.now)
    (g.K.Sink.seen c.args.out.now)

pub returns-in-Err-open-clause-leaves : goal.returns-in-Err-open-clause-leaves
returns-in-Err-open-clause-leaves g c =
    let t = g.T.Streaming in
    let i = g.I.Inputs in
    let seen = g.K.Sink.seen c.args.out.now in
    let P : _ → Type 0 = λ n.
    LeavesInputs (t.block c.args.task.now) (t.takes c.args.task.now) (t.leaves c.args.task.now)
    (run_seen c.args.run.now) (i.is_calm c.args.inputs.now) (i.told c.args.inputs.now) (i.told n) seen seen
    (Some c.in-Err-open.stop) in
    subst P (sym c.close-in-Err-open.ensures.inputs)
    (left_early i.told i.is_calm (t.block c.args.task.now) (t.takes c.args.task.now) (t.leaves c.args.task.now)
    (run_seen c.args.run.now) c.args.inputs.now c.over-feeder.result.inputs.now c.open.new.feeder.inputs.now seen
    c.in-Err-open.stop c.over-feeder.ensures.inputs c.in-Err-open.ensures.leaves)

pub returns-in-Ok-open-clause-leaves : goal.returns-in-Ok-open-clause-leaves
returns-in-Ok-open-clause-leaves g c =
    let t = g.T.Streaming in
    let i = g.I.Inputs in
    let seen = g.K.Sink.seen in
    let P : _ → Type 0 = λ n.
    LeavesInputs (t.block c.args.task.now) (t.takes c.args.task.now) (t.leaves c.args.task.now)
    (run_seen c.args.run.now) (i.is_calm c.args.inputs.now) (i.told c.args.inputs.now) (i.told n)
    (seen c.args.out.now) (seen c.stream_all-done.new.out) c.stream_all-done.result in
    subst P (sym c.close.ensures.inputs)
    (left_broken i.told i.is_calm i.faults (t.block c.args.task.now) (t.takes c.args.task.now)
    (t.leaves c.args.task.now) (run_seen c.args.run.now) (seen c.args.out.now) (seen c.stream_all-done.new.out)
    c.args.inputs.now c.over-feeder.result.inputs.now c.open.new.feeder.inputs.now
    c.stream_all-done.new.feeder.inputs.now _ c.stream_all-done.result c.over-feeder.ensures.inputs
    c.open.ensures.inputs c.stream_all-done.ensures.memory c.open.new.feeder
    (λ failed same read. c.stream_all-done.ensures.broken failed (i.told c.args.inputs.now) same read)
    c.in-Ok-open.ensures.opened.reads)

pub returns-in-Err-clause-refused : goal.returns-in-Err-clause-refused
returns-in-Err-clause-refused g c =
    refused_unread (g.T.Streaming.leaves c.args.task.now) (run_seen c.args.run.now)
    (g.I.Inputs.told c.args.inputs.now) (g.K.Sink.seen c.args.out.now)

pub returns-in-Err-open-clause-refused : goal.returns-in-Err-open-clause-refused
returns-in-Err-open-clause-refused g c =
    let i = g.I.Inputs in
    let seen = g.K.Sink.seen c.args.out.now in
    let P : _ → Type 0 = λ n. ReadsRefused (g.T.Streaming.leaves c.args.task.now) (run_seen c.args.run.now)
    (i.told c.args.inputs.now) (i.told n) seen seen (Some c.in-Err-open.stop) in
    subst P (sym c.close-in-Err-open.ensures.inputs)
    (refused_early i.told i.is_calm (g.T.Streaming.leaves c.args.task.now) (run_seen c.args.run.now)
    c.args.inputs.now c.over-feeder.result.inputs.now c.open.new.feeder.inputs.now seen c.in-Err-open.stop
    c.over-feeder.ensures.inputs c.in-Err-open.ensures.leaves)

pub returns-in-Ok-open-clause-refused : goal.returns-in-Ok-open-clause-refused
returns-in-Ok-open-clause-refused g c =
    let i = g.I.Inputs in
    let seen = g.K.Sink.seen in
    let P : _ → Type 0 = λ n. ReadsRefused (g.T.Streaming.leaves c.args.task.now) (run_seen c.args.run.now)
    (i.told c.args.inputs.now) (i.told n) (seen c.args.out.now) (seen c.stream_all-done.new.out)
    c.stream_all-done.result in
    subst P (sym c.close.ensures.inputs)
    (c.stream_all-done.ensures.refused (i.told c.args.inputs.now)
    (names_through i.told i.is_calm i.faults c.args.inputs.now c.over-feeder.result.inputs.now
    c.open.new.feeder.inputs.now _ c.over-feeder.ensures.inputs c.open.ensures.inputs))
