use Rattle.std.proofs.Common.{◌/◌, ◌∙◌, sym, ap, subst}
use Rattle.search_engine.specs.Engine.{EngineState, StandsForPart}
use Rattle.search_engine.specs.Scope.{spectrum_size}
use Rattle.search_engine.proofs.Feeding.{size_is}
use Rattle.search_engine.proofs.Sizes.{spectra_are}
use Rattle.search_engine.proofs.engine.Engine.whole_spectra.Goals as goal

pub returns-clause-all : goal.returns-clause-all
returns-clause-all c = λ o bytes stands.
    let P : EngineState → Type 0 = λ e. StandsForPart o bytes e in
    let old = subst P (sym c.self.view_is) stands in
    let size = c.self.invariant.1.spectrum_is ∙ size_is o _ old.chunks.holds.searches in
    ap (λ n. c.self.inside.fed / n) size ∙ ap (λ n. n / spectrum_size o) (sym old.count) ∙ sym (spectra_are o bytes)
