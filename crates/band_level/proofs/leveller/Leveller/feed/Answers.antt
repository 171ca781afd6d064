use Rattle.std.proofs.Common.{false, ◌∙◌, sym, ap, arith}
use Rattle.band_level.specs.Levelling.{Levelling}
use Rattle.band_level.proofs.Standing.{takes_short, takes_whole}
use Rattle.band_level.proofs.leveller.Leveller.feed.Goals as goal

pub returns-then-is_full-clause-takes : goal.returns-then-is_full-clause-takes
returns-then-is_full-clause-takes c =
    let first = ap (λ (o : Levelling). o.first) c.self.view_is in
    let last = ap (λ (o : Levelling). o.last) c.self.view_is in
    takes_whole c.args.self.now c.hold-count.new.self _ c.bounds.ensures.format c.bounds.ensures.spectra
    (sym (ap (λ (o : Levelling). o.has_ended) c.self.view_is) ∙ c.if-self-2.false) (omega arith)
    c.hold-count.ensures.same c.hold-count.ensures.held c.schedule.new.self c.measure.new.self
    c.self-2.inside.task.plan.spectra (c.is_full.ensures.full c.if-is_full.true)
    (ap (λ (o : Levelling). o.task.plan.spectra) c.self-2.view_is) c.schedule.ensures c.measure.ensures

pub returns-else-is_full-clause-takes : goal.returns-else-is_full-clause-takes
returns-else-is_full-clause-takes c =
    let first = ap (λ (o : Levelling). o.first) c.self.view_is in
    let last = ap (λ (o : Levelling). o.last) c.self.view_is in
    takes_short c.args.self.now c.hold-count.new.self _ c.bounds.ensures.format c.bounds.ensures.spectra
    (sym (ap (λ (o : Levelling). o.has_ended) c.self.view_is) ∙ c.if-self-2.false) (omega arith)
    c.hold-count.ensures.same c.hold-count.ensures.held (c.is_full.ensures.short c.if-is_full.false)
