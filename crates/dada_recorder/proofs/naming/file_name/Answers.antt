use Rattle.std.proofs.Common.{List, ℕ, ◌++◌, ap, ◌∙◌}
use Rattle.dada_recorder.specs.Changes.{recording}
use Rattle.dada_recorder.proofs.Names.{name_is}
use Rattle.dada_recorder.proofs.naming.file_name.Goals as goal

pub returns : goal.returns
returns c =
    let offset = c.as_str.ensures.value ∙ c.padded_number.ensures.text in
    let number = c.as_str-2.ensures.value ∙ c.padded_number-2.ensures.text in
    name_is (recording c.args.header.now c.args.offset c.args.file_size) c.args.number c.start_text.result.now
    c.add.new.name.bytes c.add-2.new.name.bytes c.add-3.new.name.bytes c.add-4.new.name.bytes c.add-5.new.name.bytes
    c.add-6.new.name.bytes c.start_text.ensures.is
    (c.add.ensures.bytes ∙ ap (λ (t : List ℕ). t ++ c.start_text.result.now) c.new-name.ensures)
    c.add-2.ensures.bytes
    (c.add-3.ensures.bytes ∙ ap (λ (t : List ℕ). c.add-2.new.name.bytes ++ t) offset)
    c.add-4.ensures.bytes
    (c.add-5.ensures.bytes ∙ ap (λ (t : List ℕ). c.add-4.new.name.bytes ++ t) number)
    c.add-6.ensures.bytes
