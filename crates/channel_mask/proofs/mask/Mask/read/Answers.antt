use Rattle.std.proofs.Common.{Bool, List, ℕ, sym, ap, ◌∙◌}
use Rattle.std.specs.List.{list_all}
use Rattle.channel_mask.specs.Texts.{first_outside}
use Rattle.channel_mask.proofs.Marks.{AreMarksOf, outside_is, same_marks, mask_is, all_named}
use Rattle.channel_mask.proofs.mask.Mask.read.Goals as goal

pub returns-in-Some-first_outside-clause-fault : goal.returns-in-Some-first_outside-clause-fault
returns-in-Some-first_outside-clause-fault c =
    let text = c.args.text.now in
    let is = c.in_default.ensures.none in
    let ranges = c.as_slice.ensures.value ∙ c.in_ok-ranges.ensures in (
      is,
      ap (λ (n : ℕ). first_outside n text) (sym c.channels-channels.ensures)
          ∙ sym (outside_is c.channels-channels.result text c.as_slice.result.now is ranges)
          ∙ sym c.in-Some-first_outside.ensures,
      c.channels-channels.ensures,
    )

pub returns-then-are_all-clause-fault : goal.returns-then-are_all-clause-fault
returns-then-are_all-clause-fault c =
    let text = c.args.text.now in
    let o = c.args.obs.now in
    let is = c.in_default.ensures.none in
    let none = ap (λ (n : ℕ). first_outside n text) (sym c.channels-channels.ensures)
    ∙ sym (outside_is c.channels-channels.result text c.as_slice.result.now is
    (c.as_slice.ensures.value ∙ c.in_ok-ranges.ensures)) ∙ sym c.in_default-first_outside.ensures in
    let are : AreMarksOf o text c.in_ok-masked.masked.items = record {
      is_text = is;
      within = none;
      marks_are = same_marks o text c.as_slice-2.result.now c.channels-channels.result c.falling.result
          c.in_ok-masked.masked.items c.in_ok-masked.ensures (c.as_slice-2.ensures.value ∙ c.in_ok-ranges.ensures)
          c.channels-channels.ensures c.falling.ensures;
    } in (
      is,
      none,
      all_named o text c.in_ok-masked.masked.items are
          (ap (λ (ms : List Bool). list_all (λ mark. mark) ms) (sym c.as_slice-3.ensures.value)
          ∙ sym c.are_all.ensures ∙ c.if-are_all.true),
    )

pub returns-clause-ok : goal.returns-clause-ok
returns-clause-ok c =
    let text = c.args.text.now in
    let o = c.args.obs.now in
    let is = c.in_default.ensures.none in
    let none = ap (λ (n : ℕ). first_outside n text) (sym c.channels-channels.ensures)
    ∙ sym (outside_is c.channels-channels.result text c.as_slice.result.now is
    (c.as_slice.ensures.value ∙ c.in_ok-ranges.ensures)) ∙ sym c.in_default-first_outside.ensures in
    let are : AreMarksOf o text c.in_ok-masked.masked.items = record {
      is_text = is;
      within = none;
      marks_are = same_marks o text c.as_slice-2.result.now c.channels-channels.result c.falling.result
          c.in_ok-masked.masked.items c.in_ok-masked.ensures (c.as_slice-2.ensures.value ∙ c.in_ok-ranges.ensures)
          c.channels-channels.ensures c.falling.ensures;
    } in
    mask_is o text c.in_ok-masked.masked.items are
    (ap (λ (ms : List Bool). list_all (λ mark. mark) ms) (sym c.as_slice-3.ensures.value)
    ∙ sym c.are_all.ensures ∙ c.if-are_all.false)
