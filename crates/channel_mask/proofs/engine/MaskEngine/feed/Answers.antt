use Rattle.std.proofs.Common.{sym, subst}
use Rattle.search_engine.specs.Engine.{EngineState}
use Rattle.channel_mask.specs.Masked.{StandsForKept}
use Rattle.channel_mask.proofs.Kept.{same_searches, tells_still}
use Rattle.channel_mask.proofs.engine.MaskEngine.feed.Goals as goal

pub invariant_of-self : goal.invariant_of-self
invariant_of-self c = tells_still c.self.inside.engine c.feed.new.self c.feed.ensures.same c.feed.ensures.scope c.self.invariant

pub returns-clause-stands : goal.returns-clause-stands
returns-clause-stands c = λ o s mask before stands.
    let old : EngineState = c.self.inside.engine in
    let stood = subst (λ (e : EngineState). StandsForKept o s mask before e) (sym c.self.view_is) stands in
    record {
      searches = same_searches o s mask old c.feed.new.self c.feed.ensures.same c.feed.ensures.scope stood.searches;
      part = c.feed.ensures.part o before stood.part;
    }
