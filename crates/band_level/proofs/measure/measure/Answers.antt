use Rattle.std.proofs.Common.{ℕ, subst, arith}
use Rattle.band_level.specs.Values.{cells}
use Rattle.band_level.specs.Holding.{held_value}
use Rattle.band_level.specs.Columns.{HoldsNear}
use Rattle.band_level.specs.Levelled.{is_masked}
use Rattle.band_level.specs.Rows.{scale_in}
use Rattle.band_level.specs.Sound.{task_in}
use Rattle.band_level.proofs.Columns.{fair_scales, some_counted}
use Rattle.band_level.proofs.measure.measure.Goals as goal

pub returns-clause-scales : goal.returns-clause-scales
returns-clause-scales c =
    let all = c.measure_all.new.sums in
    let n = cells c.args.task.now.format in
    let value = held_value c.args.task.now.format c.args.held.now in
    let near : HoldsNear n all c.set_bounds.new.bounds =
    subst (λ (m : ℕ). HoldsNear m all c.set_bounds.new.bounds) c.measure_all.ensures.long.first
    c.set_bounds.ensures.near in
    fair_scales c.args.task.now.plan (is_masked (task_in c.args.task.now)) value n c.args.count
    _ _ _ _ _ _ _ _ (scale_in c.args.scales.now) (scale_in c.set_scales.new.scales) (scale_in c.set_scales-2.new.scales)
    c.measure_all.ensures.values c.measure_all.ensures.moments
    (some_counted value n c.args.count all.counts.items all.totals.items all.squares.items c.requires.some
    c.measure_all.ensures.moments)
    near c.set_scales.ensures.sets c.measure_near.ensures.moments c.set_scales-2.ensures.sets

pub set_bounds-requires-clause-some : goal.set_bounds-requires-clause-some
set_bounds-requires-clause-some c = λ i lt.
    let all = c.measure_all.new.sums in
    let long = c.measure_all.ensures.long.first in
    some_counted (held_value c.args.task.now.format c.args.held.now) (cells c.args.task.now.format) c.args.count
    all.counts.items all.totals.items all.squares.items c.requires.some c.measure_all.ensures.moments i (omega arith)
