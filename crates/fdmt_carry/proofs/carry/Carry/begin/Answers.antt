use Rattle.row_schedule.specs.Samples.{values_of}
use Rattle.fdmt_carry.proofs.Carried.{next_small, settled_begun}
use Rattle.fdmt_carry.proofs.carry.Carry.begin.Goals as goal

pub returns-clause-begun : goal.returns-clause-begun
returns-clause-begun c =
    settled_begun c.args.self.now c.settle.new.self c.start.new.self (values_of c.args.samples) c.args.spectra
    c.settle.ensures.settled c.start.ensures.begun

pub returns-clause-stands : goal.returns-clause-stands
returns-clause-stands c = λ f stands next.
    let settled = c.settle.ensures.stands f stands in
    c.start.ensures.stands f settled
    (next_small c.args.self.now c.settle.new.self (values_of c.args.samples) c.args.spectra f c.settle.ensures.settled
    settled next)
