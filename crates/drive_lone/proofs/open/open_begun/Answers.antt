use Rattle.std.proofs.Common.{◌≡◌, Result, Err, None, lit<, refl, sym, subst, ◌∙◌}
use Rattle.search_words.specs.Settings.{settings_seen}
use Rattle.disk_feeder.specs.Feeder.{headers_of}
use Rattle.dada_model.specs.Observation.{Observation}
use Rattle.search_opening.specs.First.{AreFirsts}
use Rattle.search_opening.specs.Plans.{PlansFit}
use Rattle.drive_lone.specs.Openings.{OpensScope}
use Rattle.drive_lone.proofs.Opening.{only_observed, bank_stops, bank_readable, is_opened}
use Rattle.drive_lone.proofs.open.open_begun.Goals as goal

pub bank_for-requires-clause-one : goal.bank_for-requires-clause-one
bank_for-requires-clause-one g c =
    let begun = c.requires.begun in
    let only = only_observed (headers_of c.args.feeder.now) c.args.observations.items begun.observed
    (begun.plan.headers ∙ c.requires.one.transfer) in
    (only.0, c.as_slice.ensures.value ∙ only.1)

pub returns-in-Err-clause-stopped : goal.returns-in-Err-clause-stopped
returns-in-Err-clause-stopped g c =
    let begun = c.requires.begun in
    let only = only_observed (headers_of c.args.feeder.now) c.args.observations.items begun.observed
    (begun.plan.headers ∙ c.requires.one.transfer) in
    bank_stops g.I.Inputs.told g.I.Inputs.is_open _ _ (settings_seen c.args.settings.now) c.args.feeder.now
    c.args.observations.items only.0 c.in-Err.stop c.requires.one.transfer begun only.1
    (c.bank_for.ensures.range only.0 (c.as_slice.ensures.value ∙ only.1))
    (c.in-Err.ensures.stopped only.0 (c.as_slice.ensures.value ∙ only.1))

pub only_one-requires : goal.only_one-requires
only_one-requires g c =
    let begun = c.requires.begun in
    only_observed (headers_of c.args.feeder.now) c.args.observations.items begun.observed
    (begun.plan.headers ∙ c.requires.one.transfer)

pub returns-in-Err-clause-readable : goal.returns-in-Err-clause-readable
returns-in-Err-clause-readable g c = λ same.
    let begun = c.requires.begun in
    let only = only_observed (headers_of c.args.feeder.now) c.args.observations.items begun.observed
    (begun.plan.headers ∙ c.requires.one.transfer) in
    bank_readable (g.S.Scoping.accepts c.args.scoping.now) (g.S.Scoping.refuses c.args.scoping.now)
    c.args.settings.now.search only.0 c.in-Err.stop
    (c.in-Err.ensures.stopped only.0 (c.as_slice.ensures.value ∙ only.1)) (inside _ _ _ refl same)
  where
    inside : {T E : Type 0} (a b : E) (r : Result T E) → r ≡ Err a → r ≡ Err b → a ≡ b
    inside a b r one other = cc

pub returns-in-Ok-take_space-clause-opened : goal.returns-in-Ok-take_space-clause-opened
returns-in-Ok-take_space-clause-opened g c =
    let begun = c.requires.begun in
    let s = settings_seen c.args.settings.now in
    let only = only_observed (headers_of c.args.feeder.now) c.args.observations.items begun.observed
    (begun.plan.headers ∙ c.requires.one.transfer) in
    let o = only.0 in
    let bank = c.in-Ok.ensures.opened o (c.as_slice.ensures.value ∙ only.1) in
    let is = c.only_one.ensures o only.1 in
    let Opens : Observation → Type 0 = λ x. OpensScope (g.S.Scoping.scopes c.args.scoping.now) g.I.Inputs.told
    g.I.Inputs.is_open s c.accept_all.new.feeder x c.in-Ok-take_space.space in
    subst Opens (sym is) (
      bank.0,
      bank.1,
      is_opened g.I.Inputs.told g.I.Inputs.is_open s c.args.feeder.now c.accept_all.new.feeder c.args.observations.items
          o bank.0 c.in-Ok.bank c.header.result.now c.in-Ok-take_space.space c.accept_all.ensures.accepted
          begun only.1 c.requires.range c.requires.one c.header.ensures bank.2 c.in-Ok-take_space.ensures.space
          c.in-Ok-take_space.ensures.total
          (subst (λ os. PlansFit s.search os) (c.as_slice.ensures.value ∙ only.1) c.in-Ok.ensures.plan 0 None
          (lit< tt))
          (λ w firsts. c.in-Ok.ensures.fits w
          (subst (λ os. AreFirsts w os) (sym (c.as_slice.ensures.value ∙ only.1)) firsts)),
    )
