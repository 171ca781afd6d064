use Rattle.live_search.specs.Live.{Task}
use Rattle.psr_live.specs.Task.{task_of}
use Rattle.psr_live.proofs.Streamed.{broke, bytes_are, fed}
use Rattle.psr_live.proofs.task.LiveTaskStreaming.feed.Goals as goal

pub returns-in-Ok-clause-took : goal.returns-in-Ok-clause-took
returns-in-Ok-clause-took g c = λ header bytes start stands.
    let t : Task = task_of c.args.self.now in
    fed c.args.observation.now c.live_data_grow.ensures c.pieces_join.ensures.pieces t bytes c.args.bytes.now
    c.args.stream.now start _ (g.K.Sink.seen c.feed.new.sink) (bytes_are c.args.bytes.now c.type_inv.bytes) stands
    c.feed.new.self (c.in-Ok.ensures.fed t bytes) (c.in-Ok.ensures.wrote t bytes)

pub returns-in-Err-clause-broke : goal.returns-in-Err-clause-broke
returns-in-Err-clause-broke g c = λ header bytes start stands more each.
    let t : Task = task_of c.args.self.now in
    broke c.args.observation.now c.live_data_grow.ensures c.pieces_join.ensures.pieces t bytes c.args.bytes.now
    c.args.stream.now start _ (g.K.Sink.seen c.feed.new.sink) (bytes_are c.args.bytes.now c.type_inv.bytes) stands
    (c.in-Err.ensures.broke t bytes) more each
