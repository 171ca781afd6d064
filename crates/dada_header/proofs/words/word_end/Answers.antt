use Rattle.std.proofs.lemmas.List.{take_rest}
use Rattle.dada_header.proofs.Scans.{word_end_some, word_end_none}
use Rattle.dada_header.proofs.words.word_end.Goals as goal

pub returns-in-Some-clause-end : goal.returns-in-Some-clause-end
returns-in-Some-clause-end c = word_end_some c.args.line.now c.args.start c.in-Some.count (rw
    (take_rest c.args.line.now c.args.start) at c.in-Some.ensures)

pub returns-in-None-clause-end : goal.returns-in-None-clause-end
returns-in-None-clause-end c = word_end_none c.args.line.now c.args.start c.requires (rw
    (take_rest c.args.line.now c.args.start) at c.in-None.ensures)
