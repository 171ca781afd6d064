use Rattle.std.proofs.Common.{refl, ◌∙◌, ap, arith}
use Rattle.band_level.specs.Levelled.{marks_cell}
use Rattle.band_level.specs.Finished.{kept_before}
use Rattle.band_level.specs.Shares.{left_over}
use Rattle.band_level.proofs.Shares.{kept_next, level_most, spread_begins, spread_more}
use Rattle.band_level.proofs.finish.spread_over.Goals as goal

pub loop-i-init : goal.loop-i-init
loop-i-init c = record {
  below = c.requires.spread.start;
  left = spread_begins c.args.spread (marks_cell c.args.masked.now c.args.polarisations) c.requires.spread.start;
  levels = record { done = λ k lt. absurd (omega arith); rest = λ k le. refl };
}

pub spread_at-left-requires-clause-small : goal.spread_at-left-requires-clause-small
spread_at-left-requires-clause-small c =
    rw (c.loop-i.invariant.levels.rest c.loop-i.i (omega arith)) (c.requires.small c.loop-i.i (omega arith))

pub loop-i-preserved : goal.loop-i-preserved
loop-i-preserved c =
    let s = c.args.spread in
    let m = marks_cell c.args.masked.now c.args.polarisations in
    let i = c.loop-i.i in
    let so_far = c.loop-i.invariant in
    let next = c.spread_at-left.ensures in
    record {
      below = next.below;
      left = next.left (kept_before m i) so_far.left
          ∙ ap (left_over s) (kept_next m i c.is_masked-skips.result c.is_masked-skips.ensures);
      levels = spread_more s m c.args.levels.now c.loop-i.levels c.spread_at-left.new.levels i c.is_masked-skips.result
          c.is_masked-skips.ensures so_far.levels (next.here (kept_before m i) so_far.left) next.others;
    }

pub returns-clause-small : goal.returns-clause-small
returns-clause-small c i lt =
    let m = marks_cell c.args.masked.now c.args.polarisations in
    rw (c.loop-i.invariant.levels.done i (omega arith))
    (level_most c.args.spread m c.args.levels.now i (c.requires.small i lt))
