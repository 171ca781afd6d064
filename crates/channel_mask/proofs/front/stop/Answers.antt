use Rattle.std.proofs.Common.{◌+◌, ℕ, Option, false, sym, ap, subst, ◌∙◌, add-zero}
use Rattle.std.specs.Option.{option_map_or}
use Rattle.channel_mask.specs.declared.front.Front.{Front}
use Rattle.channel_mask.specs.Fronts.{StopsAt, is_whole}
use Rattle.channel_mask.proofs.FrontReads.{no_more_bytes}
use Rattle.channel_mask.proofs.front.stop.Goals as goal

pub returns-in-None-clause-some : goal.returns-in-None-clause-some
returns-in-None-clause-some c =
    let text = c.args.text.now in
    let place = c.loop-place.place in
    let over = no_more_bytes c.loop-place.front text place c.loop-place-test.true (sym c.in-None.ensures) in
    let stop = c.loop-place.invariant.stop ∙ ap (λ (n : ℕ). place + n) over.1 ∙ add-zero place in (
      c.fronts_are_read.ensures.whole text
          ∙ ap (λ (front : Option Front). option_map_or is_whole front false) (c.loop-place.invariant.front ∙ over.0),
      subst (λ (n : ℕ). StopsAt text n) stop (c.fronts_are_read.ensures.stops text),
    )
