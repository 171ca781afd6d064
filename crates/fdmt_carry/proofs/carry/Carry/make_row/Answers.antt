use Rattle.std.proofs.Common.{subst, sym}
use Rattle.row_schedule.specs.Samples.{values_of}
use Rattle.fdmt_carry.specs.Carrying.{Carrying, AreNext, StandsMidway, carrying}
use Rattle.fdmt_carry.proofs.Carried.{made_stands, on_stands}
use Rattle.fdmt_carry.proofs.carry.Carry.make_row.Goals as goal

pub returns-clause-stands : goal.returns-clause-stands
returns-clause-stands c = λ f stands next.
    let s = c.self.inside in
    let samples = values_of c.args.samples in
    let inside : Carrying = carrying s.tables s.pass s.limit s.max_sample s.fed s.last s.has_tables s.is_passing s.next s.done
    s.stores in
    let before : StandsMidway inside f = subst (λ (x : Carrying). StandsMidway x f) (sym c.self.view_is) stands in
    let given : AreNext inside f samples s.last =
    subst (λ (x : Carrying). AreNext x f samples x.last) (sym c.self.view_is) next in
    let on = on_stands inside c.make_row-self-inside.new.stores c.make_row-self-inside.result samples f c.self.invariant.0.pass_is
    c.make_row-self-inside.ensures.on before given in
    record { stream = on.stream; small = on.small; running = on.running }

pub returns-clause-made : goal.returns-clause-made
returns-clause-made c = λ f stands next.
    let s = c.self.inside in
    let samples = values_of c.args.samples in
    let inside : Carrying = carrying s.tables s.pass s.limit s.max_sample s.fed s.last s.has_tables s.is_passing s.next s.done
    s.stores in
    let before : StandsMidway inside f = subst (λ (x : Carrying). StandsMidway x f) (sym c.self.view_is) stands in
    let given : AreNext inside f samples s.last =
    subst (λ (x : Carrying). AreNext x f samples x.last) (sym c.self.view_is) next in
    made_stands inside c.make_row-self-inside.new.stores c.make_row-self-inside.result samples f c.self.invariant.0.pass_is
    c.make_row-self-inside.ensures.made before given
