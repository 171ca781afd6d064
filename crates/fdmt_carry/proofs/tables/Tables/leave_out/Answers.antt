use Rattle.std.proofs.Common.{ℕ, sym, subst}
use Rattle.fdmt_carry.specs.Passing.{HasDone}
use Rattle.fdmt_carry.proofs.Leaving.{left_out}
use Rattle.fdmt_carry.proofs.tables.Tables.leave_out.Goals as goal

pub returns-clause-left : goal.returns-clause-left
returns-clause-left c = λ f u spectra st before.
    let t = c.args.self.now in
    let pass = c.args.pass.now in
    subst (λ (done : ℕ). HasDone t pass f u spectra done st) (sym c.stop.ensures)
    (left_out c.last_rows_are_left_out.ensures t pass c.requires.pass.0 c.args.d c.args.done c.requires.pass.1
    c.requires.leave f u spectra st before)
