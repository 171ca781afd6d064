use Rattle.std.proofs.Common.{◌≡◌, ◌-◌, subst, arith}
use Rattle.std.proofs.lemmas.Nat.{pow_pos}
use Rattle.box_sums.specs.Tables.{AreMade}
use Rattle.box_sums.proofs.Doubling.{made_more, next_width}
use Rattle.box_sums.proofs.sums.double_up_to.Goals as goal

pub overflow_sub-total : goal.overflow_sub-total
overflow_sub-total c =
    let next = next_width c.loop-known.known c.args.level c.width_of-width.result (omega arith)
    c.width_of-width.ensures.value in
    omega (arith, next)

pub double-requires-clause-inside : goal.double-requires-clause-inside
double-requires-clause-inside c =
    let width = c.width_of-width.ensures.value in
    let next = next_width c.loop-known.known c.args.level c.width_of-width.result (omega arith) width in
    let some = pow_pos c.loop-known.known in
    omega (arith, next, some, width)

pub loop-known-preserved : goal.loop-known-preserved
loop-known-preserved c = record {
  made = λ line fits before.
      made_more c.loop-known.boxes c.double.new.boxes line c.loop-known.greatest c.args.stride c.loop-known.known
      (c.loop-known.known - 1) c.args.level c.width_of-width.result c.args.total c.double.result (omega arith)
      (omega arith) c.width_of-width.ensures.value c.requires.short
      (let long = c.loop-known.auto.greatest in omega (arith, long)) fits c.double.ensures.doubled
      c.double.ensures.below c.double.ensures.bound (c.loop-known.invariant.made line fits before);
}

pub returns-clause-made : goal.returns-clause-made
returns-clause-made c = λ line fits before.
    let end = c.loop-known.auto.known-end (omega arith) in
    let same : c.loop-known.known ≡ c.args.level = omega (arith, end) in
    subst (λ made. AreMade line c.args.total c.loop-known.boxes c.args.stride c.loop-known.greatest made) same
    (c.loop-known.invariant.made line fits before)
