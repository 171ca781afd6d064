use Rattle.std.proofs.Common.{ℕ, ◌-◌, arith, subst, sym}
use Rattle.fdmt_carry.specs.Making.{ShowsRow}
use Rattle.fdmt_carry.proofs.Reading.{shows_row}
use Rattle.fdmt_carry.proofs.tables.Tables.shown.Goals as goal

pub overflow_sub-result : goal.overflow_sub-result
overflow_sub-result c =
    let shows = shows_row c.rows_are_numbered.ensures c.plans_are_laid.ensures c.args.self.now c.args.pass.now
    c.requires.pass.0 c.args.d c.hold.ensures c.requires.pass.1 c.requires.row in
    let some = shows.0 in
    let stop = c.stop.ensures in
    omega (arith, some, stop)

pub returns : goal.returns
returns c =
    let shows = shows_row c.rows_are_numbered.ensures c.plans_are_laid.ensures c.args.self.now c.args.pass.now
    c.requires.pass.0 c.args.d c.hold.ensures c.requires.pass.1 c.requires.row in
    subst (λ (n : ℕ). ShowsRow c.args.self.now c.args.pass.now c.args.d (n - 1)) (sym c.stop.ensures) shows.1
