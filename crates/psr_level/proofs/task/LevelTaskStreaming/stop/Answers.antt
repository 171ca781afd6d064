use Rattle.level_words.specs.Settings.{level_seen}
use Rattle.psr_level.proofs.Taken.{stopped}
use Rattle.psr_level.proofs.task.LevelTaskStreaming.stop.Goals as goal

pub returns-clause-stopped : goal.returns-clause-stopped
returns-clause-stopped g c = λ header bytes start was.
    stopped c.pieces_join.ensures.pieces (level_seen c.args.self.now.settings.now) c.args._observation.now header
    c.stretches_are_whole.ensures c.args._stream.now bytes start (g.K.Sink.seen c.args._out.now) was
