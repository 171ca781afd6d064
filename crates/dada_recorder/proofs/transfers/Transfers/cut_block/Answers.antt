use Rattle.ring_blocks.specs.declared.Mark.TheVariants.{Cut}
use Rattle.dada_hdu.specs.Answers.{entry}
use Rattle.dada_recorder.proofs.Ending.{cut_is_given_up, end_makes}
use Rattle.dada_recorder.proofs.transfers.Transfers.cut_block.Goals as goal

pub returns-in-Ok-clause-stands : goal.returns-in-Ok-clause-stands
returns-in-Ok-clause-stands g c = λ headers blocks bytes has.
    cut_is_given_up c.entries_are_of_transfers.ensures c.ends_are_counted.ensures c.args.self.now
    c.end_transfer.new.self headers blocks bytes has c.in-Ok.ensures.kept.plan c.in-Ok.ensures.finished

pub returns-in-Ok-clause-made : goal.returns-in-Ok-clause-made
returns-in-Ok-clause-made g c = λ headers blocks bytes has outset made.
    (end_makes c.entries_are_of_transfers.ensures c.args.self.now c.end_transfer.new.self headers blocks
    (entry Cut bytes) has c.in-Ok.ensures.kept.plan c.in-Ok.ensures.made).all outset made

pub returns-in-Err-clause-made : goal.returns-in-Err-clause-made
returns-in-Err-clause-made g c = λ headers blocks bytes has outset made all front.
    (end_makes c.entries_are_of_transfers.ensures c.args.self.now c.end_transfer.new.self headers blocks
    (entry Cut bytes) has c.in-Err.ensures.kept.plan c.in-Err.ensures.made).front outset all made front
