use Rattle.std.proofs.lemmas.List.{take_rest}
use Rattle.dada_header.proofs.Scans.{line_end_some, line_end_none}
use Rattle.dada_header.proofs.fields.line_end.Goals as goal

pub returns-in-Some : goal.returns-in-Some
returns-in-Some c = line_end_some c.args.text.now c.args.from c.in-Some.count c.requires (rw
    (take_rest c.args.text.now c.args.from) at c.in-Some.ensures)

pub returns-in-None : goal.returns-in-None
returns-in-None c = line_end_none c.args.text.now c.args.from c.requires (rw
    (take_rest c.args.text.now c.args.from) at c.in-None.ensures)
