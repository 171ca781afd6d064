use Rattle.std.proofs.Common.{sym, subst}
use Rattle.search_engine.specs.Engine.{EngineState}
use Rattle.channel_mask.specs.Masked.{StandsForKept}
use Rattle.channel_mask.proofs.Kept.{kept_found, same_searches, tells_still}
use Rattle.channel_mask.proofs.engine.MaskEngine.end.Goals as goal

pub invariant_of-self : goal.invariant_of-self
invariant_of-self c = tells_still c.self.inside.engine c.end.new.self c.end.ensures.same c.end.ensures.scope c.self.invariant

pub returns-clause-found : goal.returns-clause-found
returns-clause-found c = λ o s mask bytes stands.
    let old : EngineState = c.self.inside.engine in
    let new : EngineState = c.end.new.self in
    let stood = subst (λ (e : EngineState). StandsForKept o s mask bytes e) (sym c.self.view_is) stands in
    kept_found c.candidates_are_listed.ensures c.one_shard_is_all.ensures c.cells_agree.ensures o s mask bytes new
    (same_searches o s mask old new c.end.ensures.same c.end.ensures.scope stood.searches)
    (c.end.ensures.found o bytes stood.part)
