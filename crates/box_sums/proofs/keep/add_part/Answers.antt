use Rattle.std.proofs.Common.{◌∙◌, arith}
use Rattle.box_sums.proofs.Above.{widened_is}
use Rattle.box_sums.proofs.keep.add_part.Goals as goal

pub returns : goal.returns
returns c =
    widened_is c.add_widened_rows.new.out c.args.upper.now c.args.lower.now c.requires.same
    (c.add_widened_rows.auto.out ∙ omega arith) c.add_widened_rows.ensures
    (λ k. let fits = c.type_inv.upper k in omega (arith, fits)) (λ k. let fits = c.type_inv.lower k in omega (arith, fits))
