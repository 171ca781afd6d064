use Rattle.std.proofs.Common.{◌*◌, length, ◌∙◌, ap, sym, subst, arith}
use Rattle.box_sums.specs.Tables.{AreUpTo}
use Rattle.box_sums.proofs.Above.{sums_long}
use Rattle.box_sums.proofs.Parts.{other_row, put_small}
use Rattle.box_sums.proofs.keep.write_sums.Goals as goal

pub returns-clause-others : goal.returns-clause-others
returns-clause-others c = λ e other.
    other_row c.args.table.now c.add_part.new.out c.args.stride _ c.args.at e other (omega arith) (omega arith)
    (ap length c.add_part.ensures ∙ sums_long c.args.upper.now c.args.lower.now c.requires.same ∙ omega arith)

pub returns-clause-small : goal.returns-clause-small
returns-clause-small c = λ bound table values.
    put_small bound (c.args.at * c.args.stride) _ c.args.table.now c.add_part.new.out (omega arith)
    (ap length c.add_part.ensures ∙ sums_long c.args.upper.now c.args.lower.now c.requires.same ∙ omega arith) table
    (subst (AreUpTo bound) (sym c.add_part.ensures) values)
