use Rattle.std.proofs.Common.{ℕ, ◌+◌, true, subst, sym}
use Rattle.row_schedule.specs.Samples.{values_of}
use Rattle.subband_plan.specs.Values.{AreAtMost}
use Rattle.fdmt_carry.specs.Carrying.{Carrying, AreNext, StandsForSamples, carrying}
use Rattle.fdmt_carry.proofs.Carried.{taken_stands}
use Rattle.fdmt_carry.proofs.carry.Carry.fill.Goals as goal

pub returns-clause-stands : goal.returns-clause-stands
returns-clause-stands c = λ f stands next small.
    let s = c.self.inside in
    let t = s.tables in
    let spectra : ℕ = c.args.spectra in
    let samples = values_of c.args.samples in
    let new = c.fill.new.stores in
    let inside : Carrying = carrying t s.pass s.limit s.max_sample s.fed s.last s.has_tables s.is_passing s.next s.done
    s.stores in
    let before : StandsForSamples inside f =
    subst (λ (x : Carrying). StandsForSamples x f) (sym c.self.view_is) stands in
    let given : AreNext inside f samples spectra =
    subst (λ (x : Carrying). AreNext x f samples spectra) (sym c.self.view_is) next in
    let most : AreAtMost f (s.fed + spectra) s.limit =
    subst (λ (x : Carrying). AreAtMost f (x.fed + spectra) x.limit) (sym c.self.view_is) small in
    subst (λ (fed : ℕ). StandsForSamples (carrying t s.pass s.limit s.max_sample (s.fed + fed) spectra true
    s.is_passing s.next s.done new) f) (sym c.from.ensures)
    (taken_stands inside spectra new samples f c.self.invariant.0.pass_is c.fill.ensures.fills before given most)
