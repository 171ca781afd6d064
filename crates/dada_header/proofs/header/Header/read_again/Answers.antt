use Rattle.std.proofs.Common.{◌≡◌, refl, sym, ap, ◌∙◌, length, drop, take, ◌++◌, Ok}
use Rattle.std.proofs.lemmas.List.{take_at}
use Rattle.dada_model.specs.Fields.{HeaderText}
use Rattle.dada_header.specs.Space.{header_in}
use Rattle.dada_header.proofs.HeaderReads.{refused_size, header_in_space, kept}
use Rattle.dada_header.proofs.header.Header.read_again.Goals as goal

pub returns-in-Err-clause-fault : goal.returns-in-Err-clause-fault
returns-in-Err-clause-fault c = (refused_size c.args.bytes.now c.in-Err.fault c.in-Err.ensures.fault, refl)

pub invariant_of-self : goal.invariant_of-self
invariant_of-self c =
    let new = c.write_text.new.space in
    let text = c.in-Ok-text_of.text.now in
    let header : HeaderText = record { size = c.in-Ok.size; text = text } in
    let room : length new ≡ 65536 = c.write_text.auto.space ∙ ap length c.as_mut_slice.ensures.value
    ∙ c.self.invariant.space in
    let back = c.headers_are_read_back.ensures c.args.bytes.now header c.in-Ok-text_of.ensures.ok in
    rw (take_at new (drop (length new) c.self.inside.space.items) c.self.inside.space.len (c.write_text.auto.space
    ∙ c.as_mut_slice.ensures.len))
    (kept new text c.in-Ok.size room c.write_text.ensures back (c.headers_are_text.ensures header back))

pub returns-clause-ok : goal.returns-clause-ok
returns-clause-ok c =
    let new = c.write_text.new.space in
    let text = c.in-Ok-text_of.text.now in
    let header : HeaderText = record { size = c.in-Ok.size; text = text } in
    let same : header_in (take c.self.inside.space.len (new ++ drop (length new) c.self.inside.space.items))
    (length text) c.in-Ok.size ≡ header =
    rw (take_at new (drop (length new) c.self.inside.space.items) c.self.inside.space.len (c.write_text.auto.space
    ∙ c.as_mut_slice.ensures.len))
    (header_in_space new text c.in-Ok.size c.write_text.ensures c.in-Ok-text_of.ensures.len) in
    c.in-Ok-text_of.ensures.ok ∙ ap Ok (sym same)
