use Rattle.std.proofs.Common.{◌-◌, ap, ◌∙◌}
use Rattle.beam_set.proofs.Rising.{none_late, first_tells}
use Rattle.beam_set.proofs.near.has_near.Goals as goal

pub returns-in-Some : goal.returns-in-Some
returns-in-Some c =
    let read = c.in-Some.ensures.lookup in
    c.ends_near.ensures
    ∙ first_tells c.args.list.now c.args.within c.args.spectrum _ c.count_before.result c.requires
    (c.saturating_sub-least.ensures ∙ ap (λ w. c.args.spectrum - w) c.from.ensures) c.count_before.ensures
    c.in-Some.candidate.now read.3.0 read.1

pub returns-in-None : goal.returns-in-None
returns-in-None c =
    none_late c.args.list.now c.args.within c.args.spectrum _ c.count_before.result c.requires
    (c.saturating_sub-least.ensures ∙ ap (λ w. c.args.spectrum - w) c.from.ensures) c.count_before.ensures
    c.in-None.ensures.lookup.3
