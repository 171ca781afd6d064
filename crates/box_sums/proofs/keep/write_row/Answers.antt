use Rattle.std.proofs.Common.{◌*◌, length, ◌∙◌, ap, sym, subst, arith}
use Rattle.box_sums.specs.Tables.{AreUpTo}
use Rattle.box_sums.proofs.Parts.{other_row, put_small}
use Rattle.box_sums.proofs.keep.write_row.Goals as goal

pub returns-clause-others : goal.returns-clause-others
returns-clause-others c = λ e other.
    other_row c.args.table.now c.copy_row.new.out c.args.stride _ c.args.at e other (omega arith) (omega arith)
    (ap length c.copy_row.ensures ∙ omega arith)

pub returns-clause-small : goal.returns-clause-small
returns-clause-small c = λ bound table values.
    put_small bound (c.args.at * c.args.stride) _ c.args.table.now c.copy_row.new.out (omega arith)
    (ap length c.copy_row.ensures ∙ omega arith) table
    (subst (AreUpTo bound) (sym c.copy_row.ensures) values)
