use Rattle.std.proofs.Common.{ℕ, Option, subst}
use Rattle.std.specs.Option.{IfSome}
use Rattle.fdmt_carry.specs.declared.passing.Passing.{Passing}
use Rattle.fdmt_carry.specs.Passing.{IsPass}
use Rattle.fdmt_carry.proofs.passing.Passing.of.Goals as goal

pub returns-in-Some : goal.returns-in-Some
returns-in-Some c =
    let m : ℕ = c.args.limit in
    let made = c.in_ok-pass.ensures m c.in_ok-narrow.ensures.low in
    subst (λ (made : Option Passing). IfSome made (λ pass. IsPass c.args.plan.now c.args.rows.now c.args.chunk m pass))
    c.in-Some.is made

pub returns-in-None : goal.returns-in-None
returns-in-None c = c.plain.ensures c.args.limit
