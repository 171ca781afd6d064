use Rattle.level_words.specs.Settings.{level_seen}
use Rattle.psr_level.proofs.Taken.{began, begin_broke, begin_breaks}
use Rattle.psr_level.proofs.task.LevelTaskStreaming.begin.Goals as goal

pub returns-in-Ok-drain-clause-began : goal.returns-in-Ok-drain-clause-began
returns-in-Ok-drain-clause-began g c = λ header was.
    let seen = g.K.Sink.seen in
    began c.pieces_join.ensures.pieces (level_seen c.args.self.now.settings.now) c.args._observation.now header
    c.args.stream.now _ (seen c.args.out.now) (seen c.write_all.new.sink) (seen c.drain.new.out) _ was
    c.bytes.ensures.bytes c.in-Ok.ensures.all c.in-Ok-drain.ensures.drained

pub returns-in-Err-clause-broke : goal.returns-in-Err-clause-broke
returns-in-Err-clause-broke g c = λ header was.
    let seen = g.K.Sink.seen in
    begin_broke c.pieces_join.ensures.pieces (level_seen c.args.self.now.settings.now) c.args._observation.now header
    c.args.stream.now (seen c.args.out.now) (seen c.write_all.new.sink) _ was c.bytes.ensures.bytes
    c.in-Err.ensures.front

pub returns-in-Err-drain-clause-broke : goal.returns-in-Err-drain-clause-broke
returns-in-Err-drain-clause-broke g c = λ header was.
    let seen = g.K.Sink.seen in
    begin_breaks c.pieces_join.ensures.pieces (level_seen c.args.self.now.settings.now) c.args._observation.now header
    c.levels_are_fronts.ensures c.args.stream.now _ (seen c.args.out.now) (seen c.write_all.new.sink)
    (seen c.drain.new.out) _ was c.bytes.ensures.bytes c.in-Ok.ensures.all c.in-Err-drain.ensures.broke
