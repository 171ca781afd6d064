use Rattle.std.proofs.Common.{◌<◌, All, IsSome, length, ap, ◌∙◌, sym, subst}
use Rattle.psr_beams.proofs.Slots.{filled}
use Rattle.psr_beams.specs.Engines.{IsEngineOf}
use Rattle.psr_beams.proofs.engines.open_engines.Goals as goal

pub returns-then-are_opened-clause-engines : goal.returns-then-are_opened-clause-engines
returns-then-are_opened-clause-engines g c =
    let value = c.as_mut_slice.ensures.value in
    filled (IsEngineOf c.args.search.now c.args.observation.now) c.no_engines-slots.result.items
    c.fill_engines.new.slots (c.fill_engines.ensures.count ∙ ap length value)
    (λ k within. c.fill_engines.ensures.engines k (subst (λ xs. k < length xs) (sym value) within))
    (subst (λ xs. All IsSome xs) c.as_slice.ensures.value (c.are_opened.ensures.0 c.if-are_opened.true))
