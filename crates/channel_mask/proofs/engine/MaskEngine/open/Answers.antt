use Rattle.std.proofs.Common.{◌∙◌, refl, sym, ap, subst}
use Rattle.std.proofs.lemmas.Result.{err_from_is_err_and}
use Rattle.search_model.specs.declared.search.Search.{Search}
use Rattle.search_model.specs.Search.{in_one_shard}
use Rattle.search_model.specs.Plan.{plan_refusal}
use Rattle.search_engine.specs.Engine.{IsOpenedEngine}
use Rattle.search_engine.specs.Scope.{FitsObservation}
use Rattle.channel_mask.specs.Masked.{IsScopeOf, SearchesKept}
use Rattle.channel_mask.proofs.Kept.{explained, one_shard_fits, tells_cells}
use Rattle.channel_mask.proofs.engine.MaskEngine.open.Goals as goal

pub open_for-requires-clause-scope : goal.open_for-requires-clause-scope
open_for-requires-clause-scope c =
    let o = c.args.observation.now in
    subst (λ (s : Search). FitsObservation o s c.in_ok-scope.scope) (sym c.in_one_shard.ensures)
    (c.in_ok-scope.ensures.fits (in_one_shard c.args.search.now) refl)

pub invariant_of-result : goal.invariant_of-result
invariant_of-result c =
    let e = c.in_ok-engine.engine in
    let mask = c.args.mask.now in
    let s = c.args.search.now in
    let o = c.args.observation.now in
    let searches : SearchesKept o s mask e = record {
      bounds = c.lies_in_range.ensures;
      range = c.requires.range;
      search_is = c.in_ok-engine.ensures.opened.search_is ∙ c.in_one_shard.ensures;
      shard_is = c.in_ok-engine.ensures.opened.shard_is;
      scope = subst (IsScopeOf o s.max_delay mask) (sym c.in_ok-engine.ensures.scope) c.in_ok-scope.ensures.kept;
    } in
    tells_cells o s mask e searches

pub returns-clause-stands : goal.returns-clause-stands
returns-clause-stands c = record {
  searches = record {
    bounds = c.lies_in_range.ensures;
    range = c.requires.range;
    search_is = c.in_ok-engine.ensures.opened.search_is ∙ c.in_one_shard.ensures;
    shard_is = c.in_ok-engine.ensures.opened.shard_is;
    scope = subst (IsScopeOf c.args.observation.now c.args.search.now.max_delay c.args.mask.now)
        (sym c.in_ok-engine.ensures.scope) c.in_ok-scope.ensures.kept;
  };
  part = c.in_ok-engine.ensures.stands;
}

pub returns-clause-opened : goal.returns-clause-opened
returns-clause-opened c =
    subst (λ (s : Search). IsOpenedEngine c.in_ok-engine.engine s 0) c.in_one_shard.ensures
    c.in_ok-engine.ensures.opened

pub returns-in_err-engine-clause-refused : goal.returns-in_err-engine-clause-refused
returns-in_err-engine-clause-refused c =
    let o = c.args.observation.now in
    let fits = c.in_ok-check_plan.ensures.fits in
    let p = err_from_is_err_and c.from_residual-in_err-engine.result c.from_residual-in_err-engine.ensures.1 in
    let same = ap (plan_refusal o) c.in_one_shard.ensures
    ∙ one_shard_fits o c.args.search.now c.requires.range fits ∙ sym fits in
    rw (p.1, p.2) (explained _ _ same c.in_err-engine.ensures.refused)
