use Rattle.std.proofs.Common.{◌≡◌, ◌+◌, ◌-◌, slice_index, ap, arith}
use Rattle.fdmt_rows.proofs.Steps.{stored}
use Rattle.fdmt_rows.proofs.excess.store_and_raise.Goals as goal

pub returns-clause-stored : goal.returns-clause-stored
returns-clause-stored c =
    stored c.args.out.now c.args.lanes c.args.at 16 _ c.requires.lanes (omega arith)
    (λ j lt. ap (λ i. slice_index c.args.lanes i) (let e : j ≡ c.args.at + j - c.args.at = omega arith in e))
