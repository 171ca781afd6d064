use Rattle.row_schedule.specs.Samples.{values_of}
use Rattle.fdmt_carry.proofs.Carried.{next_small, settled_fed, settled_next}
use Rattle.fdmt_carry.proofs.carry.Carry.take.Goals as goal

pub returns-clause-fed : goal.returns-clause-fed
returns-clause-fed c =
    settled_fed c.args.self.now c.settle.new.self c.fill.new.self (values_of c.args.samples) c.args.spectra
    c.settle.ensures.settled c.fill.ensures.fed

pub returns-clause-stands : goal.returns-clause-stands
returns-clause-stands c = λ f stands next.
    let settled = c.settle.ensures.stands f stands in
    let samples = values_of c.args.samples in
    c.fill.ensures.stands f settled
    (settled_next c.args.self.now c.settle.new.self samples c.args.spectra f c.settle.ensures.settled next)
    (next_small c.args.self.now c.settle.new.self samples c.args.spectra f c.settle.ensures.settled settled next)
