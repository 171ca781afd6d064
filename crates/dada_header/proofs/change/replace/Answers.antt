use Rattle.std.proofs.Common.{ap, ◌∙◌, length, take}
use Rattle.std.proofs.lemmas.List.{length-take-le}
use Rattle.dada_header.proofs.Edits.{replaced}
use Rattle.dada_header.proofs.change.replace.Goals as goal

pub returns : goal.returns
returns c =
    let count = ap length c.blank_fields.ensures ∙ c.blank_keeps_length.ensures c.args.key.now
    (take c.args.len c.args.bytes.now) ∙ length-take-le c.args.len c.args.bytes.now c.requires.len in
    replaced c.args.key.now c.args.value.now c.args.bytes.now c.blank_fields.new.text c.put-end.new.bytes
    c.put_field.new.bytes c.line_feed_after-line_feed.result.now c.args.len c.put-end.result c.put_field.result
    c.requires.len count c.blank_fields.ensures c.line_feed_after-line_feed.ensures c.put-end.ensures
    c.put_field.ensures
