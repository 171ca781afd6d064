use Rattle.row_schedule.specs.Samples.{values_of}
use Rattle.fdmt_carry.proofs.Carried.{GoesOn}
use Rattle.fdmt_carry.proofs.carry.Carry.pass.Given as goal

abbrev pub invariant-loop-d : goal.invariant-loop-d
invariant-loop-d l = GoesOn l.initial.self l.self (values_of l.samples) l.d
