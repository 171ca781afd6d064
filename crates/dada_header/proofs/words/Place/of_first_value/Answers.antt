use Rattle.std.specs.Prelude.{slice_range}
use Rattle.dada_header.proofs.TextSteps.{searched_more, found}
use Rattle.dada_header.proofs.words.Place.of_first_value.Goals as goal

pub returns-in-Some-clause-some : goal.returns-in-Some-clause-some
returns-in-Some-clause-some c =
    let line = slice_range c.args.text.now c.loop-place.from c.line_end-end.result in
    found c.args.key.now c.args.text.now c.loop-place.from c.line_end-end.result c.in-Some.place
    c.loop-place.invariant c.line_end-end.ensures c.in-Some.ensures.some
    (c.fields_by_lines.ensures c.args.key.now line c.line_end-end.ensures.line)

pub loop-place-preserved : goal.loop-place-preserved
loop-place-preserved c =
    let line = slice_range c.args.text.now c.loop-place.from c.line_end-end.result in
    searched_more c.args.key.now c.args.text.now c.loop-place.from c.line_end-end.result c.loop-place.invariant
    c.line_end-end.ensures c.if-end-text.false
    (c.fields_by_lines.ensures c.args.key.now line c.line_end-end.ensures.line) c.in_default.ensures.none
