use Rattle.std.specs.Prelude.{slice_range}
use Rattle.dada_header.proofs.Edits.{blank_more}
use Rattle.dada_header.proofs.blank.blank_fields.Goals as goal

pub loop-text-preserved : goal.loop-text-preserved
loop-text-preserved c =
    let from = c.loop-text.from in
    let end = c.line_end-end.result in
    let line = slice_range c.loop-text.text from end in
    blank_more c.args.key.now c.args.text.now c.loop-text.text c.blank_field.new.line from end c.loop-text.invariant
    c.line_end-end.ensures c.if-end-text.false
    (c.fields_by_lines.ensures c.args.key.now line c.line_end-end.ensures.line) c.blank_field.ensures
    c.blank_field.auto.line
