use Rattle.std.proofs.Common.{arith, refl}
use Rattle.ring_blocks.specs.declared.Mark.TheVariants.{End}
use Rattle.dada_hdu.specs.Answers.{entry}
use Rattle.dada_recorder.proofs.Ending.{last_is_whole, next_runs, end_makes, of_offsets}
use Rattle.dada_recorder.proofs.transfers.Transfers.last_block.Goals as goal

pub returns-in-Err-clause-made : goal.returns-in-Err-clause-made
returns-in-Err-clause-made g c = λ headers blocks bytes has outset made all front.
    (end_makes c.entries_are_of_transfers.ensures c.args.self.now c.end_transfer.new.self headers blocks
    (entry End bytes) has c.in-Err.ensures.kept.plan c.in-Err.ensures.made).front outset all made front

pub returns-then-self-clause-stands : goal.returns-then-self-clause-stands
returns-then-self-clause-stands g c = λ headers blocks bytes has.
    let t = c.args.self.now in
    let offsets = of_offsets t c.end_transfer.new.self c.in-Ok.ensures.kept.plan in
    let ended = c.in-Ok.ensures.kept.ended in
    let all = c.if-self.true in
    last_is_whole c.entries_are_of_transfers.ensures c.ends_are_counted.ensures t c.end_transfer.new.self headers blocks
    bytes has c.in-Ok.ensures.kept.plan c.in-Ok.ensures.finished (omega (arith, offsets, ended, all))

pub returns-then-self-clause-made : goal.returns-then-self-clause-made
returns-then-self-clause-made g c = λ headers blocks bytes has outset made.
    (end_makes c.entries_are_of_transfers.ensures c.args.self.now c.end_transfer.new.self headers blocks
    (entry End bytes) has c.in-Ok.ensures.kept.plan c.in-Ok.ensures.made).all outset made

pub returns-else-self-clause-stands : goal.returns-else-self-clause-stands
returns-else-self-clause-stands g c = λ headers blocks bytes has.
    let t = c.args.self.now in
    let offsets = of_offsets t c.end_transfer.new.self c.in-Ok.ensures.kept.plan in
    let ended = c.in-Ok.ensures.kept.ended in
    let more = c.if-self.false in
    next_runs c.entries_are_of_transfers.ensures c.ends_are_counted.ensures t _ headers blocks bytes has (record {
      plan = c.in-Ok.ensures.kept.plan;
      ended = omega (arith, ended);
      total = c.in-Ok.ensures.total;
      finished = c.in-Ok.ensures.finished;
      header = refl;
      closed = c.in-Ok.ensures.closed.0;
    }) c.requires.number (λ all. more (omega (arith, offsets, ended, all)))

pub returns-else-self-clause-made : goal.returns-else-self-clause-made
returns-else-self-clause-made g c = λ headers blocks bytes has outset made.
    rw c.in-Ok.ensures.closed.0 ((end_makes c.entries_are_of_transfers.ensures c.args.self.now c.end_transfer.new.self
    headers blocks (entry End bytes) has c.in-Ok.ensures.kept.plan c.in-Ok.ensures.made).all outset made)
