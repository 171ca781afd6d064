use Rattle.dada_recorder.specs.Changes.{recording}
use Rattle.dada_recorder.proofs.Refusals.{after_changes, refused_third, never_full}
use Rattle.dada_recorder.proofs.changes.change.Goals as goal

pub returns-in-Ok-set_number-2-clause-header : goal.returns-in-Ok-set_number-2-clause-header
returns-in-Ok-set_number-2-clause-header c =
    (after_changes (recording c.args.header.now c.args.offset c.args.file_size) c.args.number c.set_number.new.header
    c.set_number-2.new.header c.set_number-3.new.header c.in-Ok.ensures.set c.in-Ok-set_number.ensures.set
    c.in-Ok-set_number-2.ensures.set).0

pub returns-in-Ok-set_number-2-clause-room : goal.returns-in-Ok-set_number-2-clause-room
returns-in-Ok-set_number-2-clause-room c =
    (after_changes (recording c.args.header.now c.args.offset c.args.file_size) c.args.number c.set_number.new.header
    c.set_number-2.new.header c.set_number-3.new.header c.in-Ok.ensures.set c.in-Ok-set_number.ensures.set
    c.in-Ok-set_number-2.ensures.set).1

pub returns-in-Err-set_number-2-clause-fault : goal.returns-in-Err-set_number-2-clause-fault
returns-in-Err-set_number-2-clause-fault c =
    refused_third (recording c.args.header.now c.args.offset c.args.file_size) c.args.number c.set_number.new.header
    c.set_number-2.new.header c.in-Err-set_number-2.fault c.in-Ok.ensures.set c.in-Ok-set_number.ensures.set
    c.in-Err-set_number-2.ensures.fault

pub returns-in-Err-set_number-2-clause-serves : goal.returns-in-Err-set_number-2-clause-serves
returns-in-Err-set_number-2-clause-serves c = λ room.
    absurd (never_full (recording c.args.header.now c.args.offset c.args.file_size)
    c.args.number c.set_number.new.header c.set_number-2.new.header c.in-Err-set_number-2.fault room
    c.in-Ok.ensures.set c.in-Ok-set_number.ensures.set
    c.in-Err-set_number-2.ensures.fault)
