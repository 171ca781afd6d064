use Rattle.std.proofs.Common.{ℕ, subst}
use Rattle.fdmt_carry.specs.Tables.{Tables}
use Rattle.fdmt_carry.proofs.Reading.{ReadsRow, band_read}
use Rattle.fdmt_carry.proofs.tables.Tables.made.Goals as goal

pub returns-clause-sums : goal.returns-clause-sums
returns-clause-sums c =
    let order : ℕ = c.shown-order.result in
    let spectra : ℕ = c.args.spectra in
    let reads = subst (λ (x : Tables).
    ReadsRow x.rows.rows c.args.pass.now.schedule order spectra c.args.stores.now.wide c.row.result.now)
    c.self.view_is c.row.ensures.values in
    band_read c.rows_add_up.ensures c.rows_are_bounded.ensures c.band_rows_are_path_sums.ensures
    c.plans_are_laid.ensures c.splits_fit.ensures c.args.self.now c.args.pass.now c.args.d order spectra
    c.args.stores.now.wide c.row.result.now c.hold.ensures c.requires.row c.shown-order.ensures reads
