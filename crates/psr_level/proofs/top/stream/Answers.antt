use Rattle.level_words.specs.Settings.{level_seen}
use Rattle.psr_level.proofs.Completing.{is_complete}
use Rattle.psr_level.proofs.Ending.{whole_written}
use Rattle.psr_level.proofs.Leaving.{reads_refused}
use Rattle.psr_level.proofs.top.stream.Goals as goal

pub returns-clause-whole : goal.returns-clause-whole
returns-clause-whole g c =
    whole_written (level_seen c.args.settings.now) c.streams_end.ensures c.requires.range.run c.requires.one
    (g.I.Inputs.told c.args.inputs.now) (g.K.Sink.seen c.args.out.now) (g.K.Sink.seen c.drive_stream.new.out)
    c.drive_stream.result c.drive_stream.ensures.ends

pub returns-clause-complete : goal.returns-clause-complete
returns-clause-complete g c =
    let laws = c.causes_are_answered.ensures in
    is_complete (level_seen c.args.settings.now) laws.accepted laws.headers laws.refusals laws.stops
    c.requires.range.run c.requires.one (g.I.Inputs.told c.args.inputs.now) (g.K.Sink.seen c.args.out.now)
    (g.K.Sink.seen c.drive_stream.new.out) c.drive_stream.result c.drive_stream.ensures.ends

pub returns-clause-refused : goal.returns-clause-refused
returns-clause-refused g c =
    reads_refused (level_seen c.args.settings.now) c.causes_are_answered.ensures.refusals c.requires.range.run
    c.requires.one (g.I.Inputs.told c.args.inputs.now) (g.I.Inputs.told c.drive_stream.new.inputs)
    (g.K.Sink.seen c.args.out.now) (g.K.Sink.seen c.drive_stream.new.out) c.drive_stream.result
    c.drive_stream.ensures.ends c.drive_stream.ensures.refused
