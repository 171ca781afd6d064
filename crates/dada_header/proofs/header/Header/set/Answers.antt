use Rattle.std.proofs.Common.{◌≡◌, ap, ◌∙◌, length, drop, take, ◌++◌, ◌<◌}
use Rattle.std.proofs.lemmas.List.{take_at}
use Rattle.dada_model.specs.Fields.{HeaderText, fields_of, value_of}
use Rattle.dada_model.specs.Change.{changed}
use Rattle.dada_header.specs.Space.{header_in}
use Rattle.dada_header.proofs.HeaderSets.{need_is, kept_changed, others_kept}
use Rattle.dada_header.proofs.header.Header.set.Goals as goal

pub invariant_of-self : goal.invariant_of-self
invariant_of-self c =
    let key = c.args.key.now in
    let value = c.args.value.now in
    let space = c.self.inside.space.items in
    let len = c.self.inside.len in
    let size = c.self.inside.size in
    let new = c.edit-self-inside.new.bytes in
    let text = changed key value (take len space) in
    let header : HeaderText = record { size = size; text = text } in
    let room : length new ≡ 65536 = c.edit-self-inside.auto.bytes ∙ ap length c.as_mut_slice-space.ensures.value
    ∙ c.self.invariant.space in
    let edited = rw (
      c.as_bytes-key.ensures.value,
      c.as_bytes-value.ensures.value,
      c.as_mut_slice-space.ensures.value,
    ) at c.edit-self-inside.ensures in
    let need = rw (
      c.as_bytes-key.ensures.value,
      c.as_bytes-value.ensures.value,
      c.deref.ensures.value,
    ) at c.plan-overwritten.ensures.need in
    let fits : length text < size = need_is _ (length text) size need c.if-need-self.false c.self.invariant.most in
    let back = c.changed_is_read_back.ensures key value
    (header_in space len size) c.requires.key c.requires.value c.requires.other_than_size fits
    c.self.invariant.read_back in
    rw (take_at new (drop (length new) space) c.self.inside.space.len (c.edit-self-inside.auto.bytes
    ∙ c.as_mut_slice-space.ensures.len))
    (kept_changed key value space new len c.edit-self-inside.result size c.self.invariant edited room fits
    (c.change_stays_in_place.ensures key value (take len space) c.requires.key c.requires.value) back
    (c.headers_are_text.ensures header back))

pub returns-clause-others : goal.returns-clause-others
returns-clause-others c = λ other apart.
    let key = c.args.key.now in
    let value = c.args.value.now in
    let space = c.self.inside.space.items in
    let old = take c.self.inside.len space in
    let new = c.edit-self-inside.new.bytes in
    let edited = rw (
      c.as_bytes-key.ensures.value,
      c.as_bytes-value.ensures.value,
      c.as_mut_slice-space.ensures.value,
    ) at c.edit-self-inside.ensures in
    let stays = c.change_stays_in_place.ensures key value old c.requires.key c.requires.value in
    let text_is : take c.edit-self-inside.result (take c.self.inside.space.len (new ++ drop
    (length new) space)) ≡ changed key value old =
    ap (take c.edit-self-inside.result) (take_at new (drop (length new) space) c.self.inside.space.len
    (c.edit-self-inside.auto.bytes ∙ c.as_mut_slice-space.ensures.len)) ∙ edited.front in
    ap (λ t. value_of other (fields_of t)) text_is
    ∙ others_kept old (changed key value old) other
    (λ n. c.change_keeps_others.ensures key value old other n c.requires.key c.requires.value apart) stays.no_shorter
    ∙ ap (λ (h : HeaderText). value_of other (fields_of h.text)) c.self.view_is
