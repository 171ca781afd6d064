use Rattle.std.proofs.Common.{ℕ}
use Rattle.row_schedule.specs.Samples.{values_of}
use Rattle.fdmt_carry.proofs.Running.{goes_on}
use Rattle.fdmt_carry.proofs.tables.Tables.reach_row.Goals as goal

pub returns-clause-on : goal.returns-clause-on
returns-clause-on c =
    let spectra : ℕ = c.args.spectra in
    goes_on c.rows_add_up.ensures c.rows_are_bounded.ensures c.args.self.now c.args.pass.now spectra c.args.done
    c.shown-order.result (values_of c.args.samples) c.args.stores.now c.run.new.stores c.hold.ensures
    c.run.ensures.runs
