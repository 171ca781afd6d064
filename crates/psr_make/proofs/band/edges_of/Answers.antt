use Rattle.std.proofs.Common.{◌≡◌, ◌+◌, sym, arith, subst, ℕ, List}
use Rattle.std.proofs.lemmas.List.FromFn.{map-range_with_len_more}
use Rattle.dada_model.specs.Observation.{edge, edges}
use Rattle.dada_model.specs.Edges.{AreEdges}
use Rattle.psr_make.specs.Made.{made_observation}
use Rattle.psr_make.proofs.Bands.{are_edges}
use Rattle.psr_make.proofs.band.edges_of.Goals as goal

pub loop-k-preserved : goal.loop-k-preserved
loop-k-preserved c =
    rw (c.in_ok-push.ensures.items, c.loop-k.invariant, c.edge_of.ensures)
    (sym (map-range_with_len_more (edge (made_observation c.args.spec.now)) 0 c.loop-k.k c.loop-k.k (omega arith)))

pub returns-clause-edges : goal.returns-clause-edges
unfolding edges
returns-clause-edges c =
    let last : c.loop-k.k ≡ c.args.spec.now.channels + 1 = omega arith in
    rw last at c.loop-k.invariant

pub returns-clause-falls : goal.returns-clause-falls
unfolding edges
returns-clause-falls c =
    let last : c.loop-k.k ≡ c.args.spec.now.channels + 1 = omega arith in
    let P : List ℕ → Type 0 = λ e. AreEdges c.args.spec.now.channels e in
    subst P (sym (rw last at c.loop-k.invariant)) (are_edges c.edges_fall.ensures c.args.spec.now c.requires)
