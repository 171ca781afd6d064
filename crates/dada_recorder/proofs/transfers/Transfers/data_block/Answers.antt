use Rattle.std.proofs.Common.{refl, arith}
use Rattle.dada_hdu.specs.Answers.{entry}
use Rattle.dada_recorder.proofs.DataBlocks.{number_small, few_ended}
use Rattle.dada_recorder.proofs.transfers.Transfers.data_block.Goals as goal

pub returns-then-bytes-self-clause-stands : goal.returns-then-bytes-self-clause-stands
returns-then-bytes-self-clause-stands g c = λ headers blocks run.
    c.long_block.ensures.stands headers blocks (entry c.args.mark c.args.bytes.now)
    (omega (arith, c.if-bytes-self.true)) run

pub returns-then-bytes-self-clause-made : goal.returns-then-bytes-self-clause-made
returns-then-bytes-self-clause-made g c = λ headers blocks run.
    c.long_block.ensures.made headers blocks (entry c.args.mark c.args.bytes.now) run

pub after_data-requires-clause-number : goal.after_data-requires-clause-number
after_data-requires-clause-number g c =
    let on = c.requires.running in
    let block = entry c.args.mark c.args.bytes.now in
    number_small c.bytes_are_joined.ensures c.append.new.self on.headers on.blocks block
    (c.in-Ok.ensures.appended on.headers on.blocks block refl on.running)

pub after_data-requires-clause-few : goal.after_data-requires-clause-few
after_data-requires-clause-few g c =
    let on = c.requires.running in
    let block = entry c.args.mark c.args.bytes.now in
    (few_ended c.append.new.self on.headers on.blocks block
    (c.in-Ok.ensures.appended on.headers on.blocks block refl on.running)).1

pub after_data-requires-clause-ended : goal.after_data-requires-clause-ended
after_data-requires-clause-ended g c =
    let on = c.requires.running in
    let block = entry c.args.mark c.args.bytes.now in
    let few = few_ended c.append.new.self on.headers on.blocks block
    (c.in-Ok.ensures.appended on.headers on.blocks block refl on.running) in
    omega (arith, few.0)

pub returns-in-Err-clause-stands : goal.returns-in-Err-clause-stands
returns-in-Err-clause-stands g c = λ headers blocks run.
    c.in-Err.ensures.stands headers blocks (entry c.args.mark c.args.bytes.now) refl run
