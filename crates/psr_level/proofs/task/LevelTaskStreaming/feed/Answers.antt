use Rattle.level_words.specs.Settings.{level_seen}
use Rattle.psr_level.proofs.Taken.{fed, feed_broke}
use Rattle.psr_level.proofs.task.LevelTaskStreaming.feed.Goals as goal

pub returns-in-Ok-clause-took : goal.returns-in-Ok-clause-took
returns-in-Ok-clause-took g c = λ header bytes start was.
    let seen = g.K.Sink.seen in
    fed c.pieces_join.ensures.pieces (level_seen c.args.self.now.settings.now) c.args._observation.now header
    c.args.stream.now _ c.feed-count.new.self bytes _ start (seen c.args.out.now) (seen c.drain.new.out) was
    c.feed-count.ensures.takes c.in-Ok.ensures.drained

pub returns-in-Err-clause-broke : goal.returns-in-Err-clause-broke
returns-in-Err-clause-broke g c = λ header bytes start was.
    let seen = g.K.Sink.seen in
    feed_broke c.pieces_join.ensures.pieces (level_seen c.args.self.now.settings.now) c.args._observation.now header
    c.levels_are_fronts.ensures c.args.stream.now c.feed-count.new.self c.drain.new.leveller bytes c.args.bytes.now
    c.feed-count.result start (seen c.args.out.now) (seen c.drain.new.out) was c.feed-count.ensures.takes
    c.in-Err.ensures.broke

pub returns-in-Ok-clause-some : goal.returns-in-Ok-clause-some
returns-in-Ok-clause-some g c =
    let was = c.requires.stands in
    c.feed-count.ensures.some c.requires.bytes was.text was.levels was.goes_on was.drained
