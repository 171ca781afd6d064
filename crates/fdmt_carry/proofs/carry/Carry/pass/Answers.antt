use Rattle.row_schedule.specs.Samples.{values_of}
use Rattle.fdmt_carry.proofs.Carried.{begun_next, goes_more}
use Rattle.fdmt_carry.proofs.carry.Carry.pass.Goals as goal

pub loop-d-preserved : goal.loop-d-preserved
loop-d-preserved c =
    goes_more c.begin.new.self c.loop-d.self c.make_row.new.self (values_of c.args.samples) c.loop-d.d
    c.loop-d.invariant c.make_row.ensures.row_on c.make_row.ensures.stands

pub returns-clause-stands : goal.returns-clause-stands
returns-clause-stands c = λ f stands next.
    c.finish.ensures.stands f (c.loop-d.invariant.stands f (c.begin.ensures.stands f stands next)
    (begun_next c.args.self.now c.begin.new.self (values_of c.args.samples) c.args.spectra f c.begin.ensures.begun
    next))
