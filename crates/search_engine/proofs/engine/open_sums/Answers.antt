use Rattle.search_model.specs.declared.search.Search.{Search}
use Rattle.std.proofs.Common.{Result, Ok, Err, ◌-◌}
use Rattle.std.proofs.Common.{◌≡◌, ◌∙◌, ℕ, ◌+◌, ◌*◌, ◌≤◌, List, sym, ap, subst, arith}
use Rattle.band_paths.specs.Edges.{channels_of}
use Rattle.dada_model.specs.Edges.{AreEdges}
use Rattle.search_model.specs.Search.{shard_start}
use Rattle.std.specs.Prelude.{IfOk}
use Rattle.dada_model.specs.Observation.{Observation, edges, max_sample}
use Rattle.fdmt_carry.specs.Carrying.{IsStream}
use Rattle.subband_plan.specs.Nodes.{BandPlan}
use Rattle.subband_plan.specs.Plans.{band_plan}
use Rattle.search_engine.specs.Engine.{IsOpenedSums}
use Rattle.fold_search.specs.FoldSearch.{IsDelayRange}
use Rattle.shard_search.specs.Opening.{SumsFit, IsOpenedShard}
use Rattle.shard_search.specs.Sought.{Sought, CanBeSought}
use Rattle.shard_search.specs.Sums.{ShardState}
use Rattle.search_engine.proofs.PlanFits.{shard_delays, sums_fit}
use Rattle.search_engine.proofs.engine.open_sums.Goals as goal

pub open-requires-clause-delays : goal.open-requires-clause-delays
open-requires-clause-delays c =
    let o = c.args.observation.now in
    let s = c.args.search.now in
    let are = shard_delays o s c.args.shard c.requires.range c.requires.accepted c.requires.shard in
    let P : ℕ → Type 0 = λ first. IsDelayRange s first c.shard_start-end.result in
    let Q : ℕ → Type 0 = λ end. IsDelayRange s (shard_start s c.args.shard) end in
    subst P (sym c.shard_start-first.ensures) (subst Q (sym c.shard_start-end.ensures) are)

-- the greatest path sum, by what the observation's methods answer
bound_is : (greatest greatest' n most : ℕ) (edges : List ℕ) → greatest ≡ greatest' → AreEdges n edges →
    greatest * (channels_of edges + most) ≡ greatest' * (n + most)
bound_is greatest greatest' n most edges same are =
    let count = are.count in
    let channels : channels_of edges ≡ n = omega arith in
    ap (λ m. m * (channels_of edges + most)) same ∙ ap (λ k. greatest' * (k + most)) channels

pub open-requires-clause-fits : goal.open-requires-clause-fits
open-requires-clause-fits c =
    let s = c.args.search.now in
    let P : ℕ → Type 0 = λ bound. SumsFit s bound in
    subst P (sym (bound_is _ _ _ s.max_delay c.edges.result.now c.max_sample.ensures c.edges.ensures.falls))
    (sums_fit c.args.observation.now s c.requires.accepted)

-- the same can be sought in the delays of a shard
shard_can : (c : Sought) (n most end end' : ℕ) (edges : List ℕ) → CanBeSought c n most → end ≡ end' → end' ≤ most →
    AreEdges n edges → CanBeSought c (channels_of edges) end
shard_can c n most end end' edges can same within are = record {
  cells = λ d below.
      let count = are.count in
      let cells = can.cells d (omega (arith, below, same, within)) in
      omega (arith, count, cells);
  early = can.early;
}

pub open-requires-clause-sought : goal.open-requires-clause-sought
open-requires-clause-sought c =
    let o = c.args.observation.now in
    let s = c.args.search.now in
    let are = shard_delays o s c.args.shard c.requires.range c.requires.accepted c.requires.shard in
    shard_can c.args.sought o.channels (s.max_delay + 1) _ _ c.edges.result.now c.requires.sought
    c.shard_start-end.ensures are.to c.edges.ensures.falls

-- what was opened, in the words of the observation
opened_sums : (o : Observation) (s : Search) (x : Sought) (k chunk : ℕ) (es : List ℕ) (first end greatest : ℕ)
    (t : ShardState) → es ≡ edges o → first ≡ shard_start s k → end ≡ shard_start s (k + 1) →
    greatest ≡ max_sample o → IsOpenedShard es s x first end chunk greatest t →
    IsOpenedSums o s k chunk x t
opened_sums o s x k chunk es first end greatest t ee ef en eg opened =
    let same : band_plan es first (end - 1) ≡ band_plan (edges o) (shard_start s k) (shard_start s (k + 1) - 1) =
    ap (λ e. band_plan e first (end - 1)) ee ∙ ap (λ a. band_plan (edges o) a (end - 1)) ef
    ∙ ap (λ b. band_plan (edges o) (shard_start s k) (b - 1)) en in
    record {
      plan = opened.plan ∙ same;
      rows = opened.rows;
      most = opened.most;
      greatest = opened.greatest ∙ eg;
      search_is = opened.search_is;
      sought_is = opened.sought_is;
      nothing_fed = opened.nothing_fed;
      stands = λ f stream.
          let P : BandPlan → Type 0 = λ p. IsStream p greatest f in
          let G : ℕ → Type 0 =
          λ n. IsStream (band_plan (edges o) (shard_start s k) (shard_start s (k + 1) - 1)) n f in
          opened.stands f (subst P (sym same) (subst G (sym eg) stream));
    }

if_opened : {E : Type 0} (r : Result ShardState E) (P Q : ShardState → Type 0) → ((t : ShardState) → P t → Q t) →
    IfOk r P → IfOk r Q
if_opened (Ok t) P Q each is = each t is
if_opened (Err e) P Q each is = is

pub returns : goal.returns
returns c =
    let o = c.args.observation.now in
    let s = c.args.search.now in
    if_opened c.open.result _ (IsOpenedSums o s c.args.shard c.args.chunk c.args.sought)
    (λ t opened. opened_sums o s c.args.sought c.args.shard c.args.chunk c.edges.result.now c.shard_start-first.result
    c.shard_start-end.result c.max_sample.result t c.edges.ensures.value c.shard_start-first.ensures
    c.shard_start-end.ensures c.max_sample.ensures opened)
    c.open.ensures
