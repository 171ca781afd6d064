use Rattle.std.proofs.Common.{ℕ, ◌∙◌, subst, rules}
use Rattle.band_level.specs.Values.{cells}
use Rattle.band_level.specs.Columns.{LosesFar}
use Rattle.band_level.specs.Holding.{held_value}
use Rattle.band_level.proofs.Columns.{near_moments, near_small}
use Rattle.band_level.proofs.measure.measure_near.Goals as goal

pub returns : goal.returns
returns c =
    let s = c.args.space.now in
    let new = c.leave_out.new.moments in
    let value = held_value c.args.format c.args.held.now in
    let n = cells c.args.format in
    let long = c.requires.space.moments.first in
    let fits = c.leave_out.ensures.long in
    let less = subst (λ (m : ℕ). LosesFar m s.moments c.add_up_far.new.far new) long c.leave_out.ensures.less in
    let near = near_moments value n c.args.count s.bounds.lows.items s.bounds.highs.items s.moments.counts.items
    s.moments.totals.items s.moments.squares.items _ _ _ new.counts.items new.totals.items new.squares.items
    c.requires.moments c.add_up_far.ensures.sums less in
    record {
      space = search rules;
      moments = near;
      small = near_small value n c.args.count s.bounds.lows.items s.bounds.highs.items new.counts.items
          new.totals.items new.squares.items c.requires.most (fits.first ∙ long) (fits.second ∙ long)
          (fits.third ∙ long) c.requires.values near;
    }
