use Rattle.psr_live.specs.Task.{task_of}
use Rattle.psr_live.proofs.Streamed.{begun}
use Rattle.psr_live.proofs.task.LiveTaskStreaming.begin.Goals as goal

pub returns-clause-began : goal.returns-clause-began
returns-clause-began g c = λ header was.
    begun c.args.observation.now c.live_data_grow.ensures c.pieces_join.ensures.pieces (task_of c.args.self.now)
    c.args._stream.now (g.K.Sink.seen c.args._out.now) was
