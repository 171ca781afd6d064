use Rattle.std.proofs.Common.{ℕ, IfSome, sym, subst}
use Rattle.fdmt_carry.specs.Making.{AddUpToRow}
use Rattle.fdmt_carry.proofs.Leaving.{if_add_up}
use Rattle.fdmt_carry.proofs.tables.Tables.halves.Goals as goal

pub returns-clause-sums : goal.returns-clause-sums
returns-clause-sums c =
    let t = c.args.self.now in
    let pass = c.args.pass.now in
    let spectra : ℕ = c.args.spectra in
    let d : ℕ = c.args.d in
    subst (λ (done : ℕ). IfSome c.halves.result (AddUpToRow t pass d done spectra c.args.stores.now))
    (sym c.if-done-order.false)
    (if_add_up c.rows_add_up.ensures c.rows_are_bounded.ensures c.band_rows_are_path_sums.ensures t pass d
    c.shown-order.result spectra c.args.stores.now c.halves.result c.hold.ensures c.requires.row c.shown-order.ensures
    c.halves.ensures.sums)
