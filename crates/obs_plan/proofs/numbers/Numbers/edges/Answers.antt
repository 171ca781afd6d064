use Rattle.std.proofs.Common.{◌≡◌, ◌+◌, sym, ap, arith}
use Rattle.std.proofs.lemmas.List.FromFn.{map-range_with_len_more}
use Rattle.dada_model.specs.Observation.{Observation, edge, edges}
use Rattle.obs_plan.proofs.numbers.Numbers.edges.Goals as goal

pub loop-k-preserved : goal.loop-k-preserved
loop-k-preserved c =
    let o = c.args.self.now in
    rw (c.in_ok-push.ensures.items, c.loop-k.invariant, c.edge.ensures)
    (sym (map-range_with_len_more (edge o) 0 c.loop-k.k c.loop-k.k (omega arith)))

pub returns : goal.returns
unfolding edges
returns c =
    let channels : c.self.inside.channels ≡ c.args.self.now.channels =
    ap (λ (o : Observation). o.channels) c.self.view_is in
    let last : c.loop-k.k ≡ c.args.self.now.channels + 1 = omega (arith, channels) in
    rw last at c.loop-k.invariant
