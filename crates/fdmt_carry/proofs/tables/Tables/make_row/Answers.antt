use Rattle.std.proofs.Common.{ℕ, ◌+◌, sym, subst, arith}
use Rattle.row_schedule.specs.Samples.{values_of}
use Rattle.fdmt_carry.specs.Passing.{IsBefore}
use Rattle.fdmt_carry.proofs.Reading.{before_at_stop, is_shown}
use Rattle.fdmt_carry.proofs.Running.{band_row_made, goes_on}
use Rattle.fdmt_carry.proofs.tables.Tables.make_row.Goals as goal

pub run-requires-clause-begins : goal.run-requires-clause-begins
run-requires-clause-begins c =
    let row = c.requires.row.most in
    let before = c.requires.before.to row in
    let to = c.stop-to.ensures in
    omega (arith, before, to)

pub run-requires-clause-ends : goal.run-requires-clause-ends
run-requires-clause-ends c =
    let shown = is_shown c.rows_are_numbered.ensures c.plans_are_laid.ensures c.args.self.now c.args.pass.now
    c.requires.pass.0 c.args.d c.hold.ensures c.requires.pass.1 c.requires.row in
    let within = shown.within in
    let to = c.stop-to.ensures in
    omega (arith, to, within)

pub returns-clause-before : goal.returns-clause-before
returns-clause-before c =
    let t = c.args.self.now in
    let pass = c.args.pass.now in
    let from = c.requires.row.least in
    let to = c.requires.row.most in
    subst (λ (done : ℕ). IsBefore t pass (c.args.d + 1) done) (sym c.stop-to.ensures)
    (before_at_stop c.rows_are_numbered.ensures c.plans_are_laid.ensures t pass c.requires.pass.0 (c.args.d + 1)
    c.hold.ensures c.requires.pass.1 (omega arith) (omega arith))

pub returns-clause-on : goal.returns-clause-on
returns-clause-on c =
    let spectra : ℕ = c.args.spectra in
    goes_on c.rows_add_up.ensures c.rows_are_bounded.ensures c.args.self.now c.args.pass.now spectra c.args.done
    c.stop-to.result (values_of c.args.samples) c.args.stores.now c.run.new.stores c.hold.ensures c.run.ensures.runs

pub returns-clause-made : goal.returns-clause-made
returns-clause-made c =
    let spectra : ℕ = c.args.spectra in
    let before = c.requires.before.to c.requires.row.most in
    let to = c.stop-to.ensures in
    band_row_made c.rows_add_up.ensures c.rows_are_bounded.ensures c.args.self.now c.args.pass.now c.args.d spectra
    c.args.done c.stop-to.result (values_of c.args.samples) c.args.stores.now c.run.new.stores c.hold.ensures
    c.stop-to.ensures (omega (arith, before, to)) c.run.ensures.stands
