use Rattle.level_words.specs.Settings.{level_seen}
use Rattle.psr_level.proofs.Taken.{finished, finish_broke}
use Rattle.psr_level.proofs.task.LevelTaskStreaming.finish.Goals as goal

pub returns-in-Ok-clause-finished : goal.returns-in-Ok-clause-finished
returns-in-Ok-clause-finished g c = λ header bytes start was.
    let seen = g.K.Sink.seen in
    finished c.pieces_join.ensures.pieces (level_seen c.args.self.now.settings.now) c.args._observation.now header
    c.args.stream.now c.end.new.self c.drain.new.leveller bytes start (seen c.args.out.now) (seen c.drain.new.out)
    was c.end.ensures c.in-Ok.ensures.drained

pub returns-in-Err-clause-broke : goal.returns-in-Err-clause-broke
returns-in-Err-clause-broke g c = λ header bytes start was.
    let seen = g.K.Sink.seen in
    finish_broke c.pieces_join.ensures.pieces (level_seen c.args.self.now.settings.now) c.args._observation.now header
    c.levels_are_fronts.ensures c.args.stream.now c.end.new.self c.drain.new.leveller bytes start
    (seen c.args.out.now) (seen c.drain.new.out) was c.end.ensures c.in-Err.ensures.broke
