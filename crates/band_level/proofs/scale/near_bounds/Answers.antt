use Rattle.std.proofs.Common.{◌∙◌, ap, arith}
use Rattle.std.specs.Int.{div_ceil}
use Rattle.band_level.specs.Columns.{moments_of}
use Rattle.band_level.proofs.Scales.{near_is}
use Rattle.band_level.proofs.scale.near_bounds.Goals as goal

pub returns : goal.returns
returns c = λ x lt.
    near_is (moments_of c.args.m) c.root_of-far.result x _ _ c.requires.some (omega arith) (omega arith)
    (c.div_ceil-low.ensures ∙ ap (λ a. div_ceil a c.args.m.count) c.saturating_sub.ensures) (omega arith) (omega arith)
