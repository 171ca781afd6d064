use Rattle.std.proofs.Common.{Option, subst, sym}
use Rattle.std.specs.Option.{IfSome}
use Rattle.fdmt_carry.specs.declared.opening.Spare.{Spare}
use Rattle.fdmt_carry.specs.Carrying.{Carrying, IsSpareOf, StandsForSamples, carrying}
use Rattle.fdmt_carry.proofs.Carried.{settled_stands}
use Rattle.fdmt_carry.proofs.carry.Carry.settle.Goals as goal

pub returns-clause-stands : goal.returns-clause-stands
returns-clause-stands c = λ f stands.
    let s = c.self.inside in
    let t = s.tables in
    let inside : Carrying = carrying t s.pass s.limit s.max_sample s.fed s.last s.has_tables s.is_passing s.next s.done
    s.stores in
    let before : StandsForSamples inside f =
    subst (λ (x : Carrying). StandsForSamples x f) (sym c.self.view_is) stands in
    let spare = subst (λ (x : Option Spare). IfSome x (IsSpareOf t s.max_sample)) (sym c.in-Some.ensures.value)
    c.self.invariant.1.is_spare in
    settled_stands inside c.in-Some.spare.pass c.go_over.new.stores f spare.pass_is c.go_over.ensures.keeps before
