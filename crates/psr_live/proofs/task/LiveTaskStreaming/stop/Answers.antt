use Rattle.psr_live.specs.Task.{task_of}
use Rattle.psr_live.proofs.Streamed.{so_written}
use Rattle.psr_live.proofs.task.LiveTaskStreaming.stop.Goals as goal

pub returns-in-Ok-clause-stopped : goal.returns-in-Ok-clause-stopped
returns-in-Ok-clause-stopped g c = λ header bytes start stands.
    let o = c.args.observation.now in
    let t = task_of c.args.self.now in
    (c.in-Ok.ensures.wrote t bytes start stands.was
    (so_written o t bytes c.args.stream.now start (g.K.Sink.seen c.args.out.now) stands)).all

pub returns-in-Err-clause-broke : goal.returns-in-Err-clause-broke
returns-in-Err-clause-broke g c = λ header bytes start stands.
    let o = c.args.observation.now in
    let t = task_of c.args.self.now in
    (c.in-Err.ensures.wrote t bytes start stands.was
    (so_written o t bytes c.args.stream.now start (g.K.Sink.seen c.args.out.now) stands)).front
