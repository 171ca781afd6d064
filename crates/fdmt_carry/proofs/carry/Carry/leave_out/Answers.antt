use Rattle.std.proofs.Common.{subst, sym}
use Rattle.fdmt_carry.specs.Carrying.{Carrying, StandsMidway, carrying}
use Rattle.fdmt_carry.proofs.Carried.{left_stands}
use Rattle.fdmt_carry.proofs.carry.Carry.leave_out.Goals as goal

pub returns-clause-stands : goal.returns-clause-stands
returns-clause-stands c = λ f stands.
    let s = c.self.inside in
    let inside : Carrying = carrying s.tables s.pass s.limit s.max_sample s.fed s.last s.has_tables s.is_passing s.next s.done
    s.stores in
    left_stands inside c.leave_out-self-inside.result f c.leave_out-self-inside.ensures.left
    (subst (λ (x : Carrying). StandsMidway x f) (sym c.self.view_is) stands)
