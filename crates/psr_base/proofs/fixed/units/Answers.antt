use Rattle.psr_base.proofs.FixedValue.{pow_some}
use Rattle.psr_base.proofs.FixedText.{units_small}
use Rattle.psr_base.proofs.fixed.units.Goals as goal

pub returns-clause-bounds : goal.returns-clause-bounds
returns-clause-bounds c =
    let some = pow_some c.args.decimals in
    let small = units_small c.args.decimals c.requires in
    (rw c.pow.ensures some, rw c.pow.ensures small)
