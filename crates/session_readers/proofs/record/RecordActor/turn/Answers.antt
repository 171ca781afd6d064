use Rattle.std.proofs.Common.{refl, sym, ◌∙◌, arith}
use Rattle.session_readers.proofs.Recording.{record_on, record_turned, has_begun, stood}
use Rattle.dada_recorder.specs.Recorder.{has_end, has_header}
use Rattle.session_readers.proofs.record.RecordActor.turn.Goals as goal

pub turn-requires-clause-stands : goal.turn-requires-clause-stands
turn-requires-clause-stands g c = stood c.args.self.now c.in-Here.reader c.in-Here.is c.requires.on.stands

pub returns-in-Moved-clause-on : goal.returns-in-Moved-clause-on
returns-in-Moved-clause-on g c =
    record_on g.F.Files.is_open c.args.hdu.now c.args.self.now _ c.turn.new.pass refl c.requires.on c.turn.ensures.ring
    c.turn.ensures.kept.block c.turn.ensures.files.is_open c.turn.ensures.files.closed c.turn.ensures.stands
    (c.requires.running ∙ sym c.in-Moved.ensures.answer.0) (omega arith)

pub returns-in-Waiting-clause-on : goal.returns-in-Waiting-clause-on
returns-in-Waiting-clause-on g c =
    record_on g.F.Files.is_open c.args.hdu.now c.args.self.now _ c.turn.new.pass refl c.requires.on c.turn.ensures.ring
    c.turn.ensures.kept.block c.turn.ensures.files.is_open c.turn.ensures.files.closed c.turn.ensures.stands
    (c.requires.running ∙ sym c.in-Waiting.ensures.answer.0) (omega arith)

pub returns-in-Ended-clause-on : goal.returns-in-Ended-clause-on
returns-in-Ended-clause-on g c =
    record_on g.F.Files.is_open c.args.hdu.now c.args.self.now _ c.turn.new.pass refl c.requires.on c.turn.ensures.ring
    c.turn.ensures.kept.block c.turn.ensures.files.is_open c.turn.ensures.files.closed c.turn.ensures.stands
    (sym c.in-Ended.ensures.answer.0) (omega arith)

pub returns-in-Moved-clause-moved : goal.returns-in-Moved-clause-moved
returns-in-Moved-clause-moved g c =
    let turn = c.turn.ensures in
    let files = turn.files in
    record_turned g.F.Files.seen c.args.self.now _ c.in-Here.reader c.turn.new.pass (has_header c.args.self.now.part)
    (has_end c.turn.new.self) c.turn.result c.in-Here.is refl c.requires.running
    c.requires.on.end c.requires.on.stands (c.requires.running ∙ sym c.in-Moved.ensures.answer.0) turn.answer
    (has_begun c.args.self.now c.in-Here.reader c.in-Here.is (sym c.requires.on.end ∙ c.requires.running)
    c.requires.on.stands) turn.kept.same_reference turn.kept.plan turn.kept.block files.made files.faults.failed
    files.faults.quiet files.faults.count (omega arith)

pub returns-in-Waiting-clause-moved : goal.returns-in-Waiting-clause-moved
returns-in-Waiting-clause-moved g c =
    let turn = c.turn.ensures in
    let files = turn.files in
    record_turned g.F.Files.seen c.args.self.now _ c.in-Here.reader c.turn.new.pass (has_header c.args.self.now.part)
    (has_end c.turn.new.self) c.turn.result c.in-Here.is refl c.requires.running
    c.requires.on.end c.requires.on.stands (c.requires.running ∙ sym c.in-Waiting.ensures.answer.0) turn.answer
    (has_begun c.args.self.now c.in-Here.reader c.in-Here.is (sym c.requires.on.end ∙ c.requires.running)
    c.requires.on.stands) turn.kept.same_reference turn.kept.plan turn.kept.block files.made files.faults.failed
    files.faults.quiet files.faults.count (omega arith)

pub returns-in-Ended-clause-moved : goal.returns-in-Ended-clause-moved
returns-in-Ended-clause-moved g c =
    let turn = c.turn.ensures in
    let files = turn.files in
    record_turned g.F.Files.seen c.args.self.now _ c.in-Here.reader c.turn.new.pass (has_header c.args.self.now.part)
    (has_end c.turn.new.self) c.turn.result c.in-Here.is refl c.requires.running
    c.requires.on.end c.requires.on.stands (sym c.in-Ended.ensures.answer.0) turn.answer
    (has_begun c.args.self.now c.in-Here.reader c.in-Here.is (sym c.requires.on.end ∙ c.requires.running)
    c.requires.on.stands) turn.kept.same_reference turn.kept.plan turn.kept.block files.made files.faults.failed
    files.faults.quiet files.faults.count (omega arith)
