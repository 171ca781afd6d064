use Rattle.std.proofs.Common.{false, ◌∙◌, sym, ap, arith}
use Rattle.band_level.specs.Levelling.{Levelling}
use Rattle.band_level.proofs.Giving.{ends_scaled, ends_made}
use Rattle.band_level.proofs.leveller.Leveller.end.Goals as goal
use Rattle.band_level.proofs.leveller.Leveller.end.Goals.{then-count-eq0-via-then-count-eq0, then-count-eq0-via-else-count-eq0+then-self-2}

pub returns-then-count-eq0 : goal.returns-then-count-eq0
returns-then-count-eq0 c =
    let goes_on = sym (ap (λ (o : Levelling). o.has_ended) c.self.view_is) ∙ c.if-self.false in
    ends_scaled c.args.self.now c.whole_spectra-count.result c.bounds.ensures.format goes_on c.requires
    c.whole_spectra-count.ensures.count c.schedule.new.self c.schedule.ensures
    (λ there. elim c.then-count-eq0.branch [
      | then-count-eq0-via-then-count-eq0 w ↦ let none = w.if-count-eq0.true in absurd (omega arith)
      | then-count-eq0-via-else-count-eq0+then-self-2 w ↦
          sym (ap (λ (o : Levelling). o.is_scaled) (c.self-2.view_is ∙ c.schedule.ensures)) ∙ w.if-self-2.true
    ])

pub returns : goal.returns
returns c =
    let goes_on = sym (ap (λ (o : Levelling). o.has_ended) c.self.view_is) ∙ c.if-self.false in
    ends_made c.args.self.now c.whole_spectra-count.result c.bounds.ensures.format goes_on c.requires
    c.whole_spectra-count.ensures.count c.schedule.new.self c.measure.new.self c.schedule.ensures
    c.bounds.ensures.spectra c.whole_spectra-count.ensures.inside
    (sym (ap (λ (o : Levelling). o.is_scaled) (c.self-2.view_is ∙ c.schedule.ensures)) ∙ c.if-self-2.false)
    c.measure.ensures
