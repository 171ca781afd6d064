use Rattle.dada_recorder.proofs.LongBlocks.{long_is, long_breaks_off, long_made, long_front, long_makes}
use Rattle.dada_recorder.proofs.transfers.Transfers.long_block.Goals as goal

pub returns-clause-stands : goal.returns-clause-stands
returns-clause-stands g c = λ headers blocks block many run.
    long_is c.args.self.now c.close.new.self headers blocks c.requires.header run c.in_default.ensures.kept block
    c.bytes_are_joined.ensures many

pub returns-clause-made : goal.returns-clause-made
returns-clause-made g c = λ headers blocks block run outset made.
    let t = c.args.self.now in
    let f = c.close.new.self in
    let kept = c.in_default.ensures.kept in
    long_made t f headers blocks c.requires.header run kept block outset (g.F.Files.seen c.close.new.files)
    ((long_makes t f headers blocks c.requires.header run kept c.in_default.ensures.made).all outset made)

pub returns-in-Err-clause-stands : goal.returns-in-Err-clause-stands
returns-in-Err-clause-stands g c = λ headers blocks block many run.
    long_breaks_off c.args.self.now c.close.new.self headers blocks c.requires.header run c.in-Err.ensures.kept block
    c.bytes_are_joined.ensures c.ends_are_counted.ensures many

pub returns-in-Err-clause-made : goal.returns-in-Err-clause-made
returns-in-Err-clause-made g c = λ headers blocks block run outset made all front.
    let t = c.args.self.now in
    let f = c.close.new.self in
    let kept = c.in-Err.ensures.kept in
    (long_makes t f headers blocks c.requires.header run kept c.in-Err.ensures.made).front outset all made
    (long_front t f headers blocks c.requires.header run kept block c.entries_are_of_transfers.ensures all front)
