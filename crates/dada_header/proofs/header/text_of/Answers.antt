use Rattle.dada_header.proofs.HeaderReads.{short_for_size, not_text, text_read}
use Rattle.dada_header.proofs.header.text_of.Goals as goal

pub returns-then-bytes-size-clause-fault : goal.returns-then-bytes-size-clause-fault
returns-then-bytes-size-clause-fault c =
    short_for_size c.args.bytes.now c.args.size c.requires.long c.requires.size c.if-bytes-size.true

pub returns-in-Some-clause-fault : goal.returns-in-Some-clause-fault
returns-in-Some-clause-fault c =
    not_text c.args.bytes.now c.before_nul_of-text.result.now c.args.size c.in-Some.place c.requires.long
    c.requires.size c.if-bytes-size.false c.before_nul_of-text.ensures c.in-Some.ensures

pub returns-in-None-clause-ok : goal.returns-in-None-clause-ok
returns-in-None-clause-ok c =
    text_read c.args.bytes.now c.before_nul_of-text.result.now c.args.size c.requires.long c.requires.size
    c.if-bytes-size.false c.before_nul_of-text.ensures c.in-None.ensures
