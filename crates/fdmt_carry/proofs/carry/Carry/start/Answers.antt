use Rattle.std.proofs.Common.{◌+◌, subst, sym}
use Rattle.subband_plan.specs.Values.{AreAtMost}
use Rattle.fdmt_carry.specs.Carrying.{Carrying, StandsForSamples, carrying}
use Rattle.fdmt_carry.proofs.Carried.{begun_stands}
use Rattle.fdmt_carry.proofs.carry.Carry.start.Goals as goal

pub returns-clause-stands : goal.returns-clause-stands
returns-clause-stands c = λ f stands small.
    let s = c.self.inside in
    let inside : Carrying = carrying s.tables s.pass s.limit s.max_sample s.fed s.last s.has_tables s.is_passing s.next s.done
    s.stores in
    let before : StandsForSamples inside f =
    subst (λ (x : Carrying). StandsForSamples x f) (sym c.self.view_is) stands in
    let most : AreAtMost f (s.fed + c.args.spectra) s.limit =
    subst (λ (x : Carrying). AreAtMost f (x.fed + c.args.spectra) x.limit) (sym c.self.view_is) small in
    begun_stands c.running_begins.ensures inside c.args.spectra c.delays-first.result.0 f before most
