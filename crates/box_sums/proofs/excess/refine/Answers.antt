use Rattle.std.proofs.Common.{◌+◌, ◌-◌, ◌*◌, refl, arith}
use Rattle.std.proofs.lemmas.Nat.{pow_pos}
use Rattle.box_sums.proofs.Above.{doubled}
use Rattle.box_sums.proofs.Doubling.{next_width}
use Rattle.box_sums.proofs.excess.refine.Goals as goal

pub overflow_sub-total : goal.overflow_sub-total
overflow_sub-total c =
    let next = next_width c.loop-made.made.level c.args.wide c.width_of-width.result (omega arith)
    c.width_of-width.ensures.value in
    omega (arith, next)

pub double-requires-clause-inside : goal.double-requires-clause-inside
double-requires-clause-inside c =
    let width = c.width_of-width.ensures.value in
    let next = next_width c.loop-made.made.level c.args.wide c.width_of-width.result (omega arith) width in
    let some = pow_pos c.loop-made.made.level in
    omega (arith, next, some, width)

pub double-requires-clause-some : goal.double-requires-clause-some
double-requires-clause-some c =
    let next = next_width c.loop-made.made.level c.args.wide c.width_of-width.result (omega arith)
    c.width_of-width.ensures.value in
    omega (arith, next)

pub loop-made-preserved : goal.loop-made-preserved
loop-made-preserved c =
    let made = c.loop-made.made in
    let before = c.loop-made.invariant in
    let first = before.more in
    record {
      more = omega (arith, first);
      within = omega arith;
      excess = λ line are.
          doubled c.loop-made.rows c.double.new.rows line c.args.stride c.args.base c.args.total made.level
          c.width_of-width.result (c.args.total + 1 - 2 * c.width_of-width.result) made.greatest c.double.result
          c.width_of-width.ensures.value refl c.double.ensures.doubled c.double.ensures.bound (before.excess line are);
    }
