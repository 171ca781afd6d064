use Rattle.std.proofs.Common.{◌≡◌, ◌+◌, ◌*◌, ap, subst, arith}
use Rattle.std.proofs.lemmas.List.{length-take-le}
use Rattle.band_level.specs.Values.{spectrum_bytes}
use Rattle.band_level.specs.Holding.{Holding, held_bytes}
use Rattle.band_level.proofs.held.Held.len.Goals as goal

pub returns-clause-len : goal.returns-clause-len
returns-clause-len c =
    let f = c.self.inside in
    let inv = c.self.invariant in
    let same : f.count * f.spectrum ≡ f.count * spectrum_bytes f.format = ap (λ n. f.count * n) inv.spectrum_is in
    subst (λ (o : Holding). f.count * f.spectrum + f.filled ≡ held_bytes o.format o) c.self.view_is
    (omega (arith, length-take-le f.filled f.bytes.items inv.filled_in))

pub overflow_mul-result : goal.overflow_mul-result
overflow_mul-result c = record { fits = let inside = c.self.invariant.inside in omega arith }

pub overflow_add-result : goal.overflow_add-result
overflow_add-result c = record { fits = let inside = c.self.invariant.inside in omega arith }
