use Rattle.std.proofs.Common.{◌≡◌, length, Some, subst, arith}
use Rattle.search_opening.proofs.Built.{AreBuilt, none_built, one_built}
use Rattle.search_opening.proofs.Banks.{HasEngineFor, engine_there, engines_for}
use Rattle.search_opening.proofs.engines.open_engines.Goals as goal

pub loop-k-init : goal.loop-k-init
loop-k-init c = record {
  built = none_built (HasEngineFor c.args.search.now c.args.shard c.args.observations.now) c.new-engines.result.items
      c.new-engines.ensures;
}

pub loop-k-preserved : goal.loop-k-preserved
loop-k-preserved c = record {
  built = one_built (HasEngineFor c.args.search.now c.args.shard c.args.observations.now) c.loop-k.k
      c.loop-k.engines.items c.push.new.self.items (Some c.in_ok-engine.engine) c.loop-k.invariant.built
      (engine_there c.args.search.now c.args.shard c.args.observations.now c.loop-k.k c.index-observations-k.result
      c.in_ok-engine.engine c.index-observations-k.is c.in_ok-engine.ensures) c.push.ensures.items;
}

pub returns : goal.returns
returns c =
    let all : c.loop-k.k ≡ length c.args.observations.now = omega (arith, c.loop-k-test.false, c.loop-k.auto.k-end) in
    let P = HasEngineFor c.args.search.now c.args.shard c.args.observations.now in
    engines_for c.args.search.now c.args.shard c.args.observations.now c.loop-k.engines.items
    (subst (λ n. AreBuilt P n c.loop-k.engines.items) all c.loop-k.invariant.built)
