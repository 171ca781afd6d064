use Rattle.std.proofs.lemmas.List.{take_rest}
use Rattle.dada_header.proofs.Scans.{word_start_some, word_start_none}
use Rattle.dada_header.proofs.words.word_start.Goals as goal

pub returns-in-Some-clause-start : goal.returns-in-Some-clause-start
returns-in-Some-clause-start c = word_start_some c.args.line.now c.args.from c.in-Some.count (rw
    (take_rest c.args.line.now c.args.from) at c.in-Some.ensures)

pub returns-in-None-clause-start : goal.returns-in-None-clause-start
returns-in-None-clause-start c = word_start_none c.args.line.now c.args.from c.requires (rw
    (take_rest c.args.line.now c.args.from) at c.in-None.ensures)
