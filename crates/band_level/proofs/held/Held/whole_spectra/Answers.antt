use Rattle.std.proofs.Common.{◌/◌, ◌∙◌, ap, arith}
use Rattle.band_level.specs.Values.{spectrum_bytes}
use Rattle.band_level.specs.Holding.{Holding, held_bytes}
use Rattle.band_level.proofs.Values.{some_bytes}
use Rattle.band_level.proofs.held.Held.whole_spectra.Goals as goal

pub returns-clause-count : goal.returns-clause-count
returns-clause-count c =
    ap (λ n. n / c.self.inside.spectrum) c.len.ensures.len
    ∙ ap (λ n. held_bytes c.args.self.now.format c.args.self.now / n)
    (c.self.invariant.spectrum_is ∙ ap (λ (o : Holding). spectrum_bytes o.format) c.self.view_is)

pub nonzero_div-result : goal.nonzero_div-result
nonzero_div-result c =
    let f = c.self.inside in
    omega (arith, c.self.invariant.spectrum_is, some_bytes f.format c.self.invariant.in_range)
