-- No path sum of a stream passes the bound.
use Rattle.std.proofs.Common.{◌≡◌, ℕ, ◌+◌, ◌*◌, ◌<◌, ◌≤◌, All, List, length, get_or, sym, ◌∙◌, ap, subst, arith}
use Rattle.std.proofs.lemmas.List.Elements.{All-from_get_or}
use Rattle.std.proofs.Math.Nat.{mul-le-mul_left}
use Rattle.band_paths.specs.Edges.{channels_of}
use Rattle.dada_model.specs.Edges.{AreEdges}
use Rattle.fdmt_carry.specs.Carrying.{Carrying, IsStream}
use Rattle.search_model.specs.declared.search.Search.{Search}
use Rattle.search_model.specs.Samples.{Filterbank}
use Rattle.search_model.specs.SubbandLaws.{SumsAreBounded}
use Rattle.search_model.specs.Sums.{path_sum}
use Rattle.shard_search.specs.Pulses.{IsRowOf}
use Rattle.shard_search.specs.Sums.{sum_bound, sums_of}

pub sum_is_small : SumsAreBounded → (c : Carrying) (s : Search) (f : Filterbank) (u d : ℕ) →
    AreEdges (channels_of c.tables.plan.edges) c.tables.plan.edges → IsStream c.tables.plan c.max_sample f →
    d ≤ s.max_delay → path_sum f c.tables.plan.edges u d ≤ sum_bound c s
sum_is_small law c s f u d band stream few =
    let channels = stream.channels in
    let edges = c.tables.plan.edges in
    let own = subst (λ n. AreEdges n edges) (sym channels) band in
    let below = law.path f edges d u 0 c.max_sample own stream.small in
    let more : c.max_sample * (f.channels + d) ≤ c.max_sample * (channels_of edges + s.max_delay) =
    mul-le-mul_left c.max_sample (let l : f.channels + d ≤ channels_of edges + s.max_delay =
    omega (arith, channels) in l) in
    omega (arith, below, more)

-- a row of path sums that end at spectrum u and after it
pub row_is_small : SumsAreBounded → (c : Carrying) (s : Search) (f : Filterbank) (d bound u n : ℕ) (row : List ℕ) →
    AreEdges (channels_of c.tables.plan.edges) c.tables.plan.edges → IsStream c.tables.plan c.max_sample f →
    d ≤ s.max_delay → bound ≡ sum_bound c s → length row ≡ n →
    ((k : ℕ) → k < n → get_or row k 0 ≡ path_sum f c.tables.plan.edges (u + k) d) →
    All (λ x. x ≤ bound) row
row_is_small law c s f d bound u n row band stream few same long is =
    All-from_get_or (λ x. x ≤ bound) row 0
    (λ i inside.
    let small = sum_is_small law c s f (u + i) d band stream few in
    let value = is i (omega arith) in
    subst (λ b. get_or row i 0 ≤ b) (sym same) (subst (λ x. x ≤ sum_bound c s) (sym value) small))

-- is one of the stream
pub row_of_stream : (f : Filterbank) (edges : List ℕ) (d u start n : ℕ) (row : List ℕ) → u ≡ start → length row ≡ n →
    ((k : ℕ) → k < n → get_or row k 0 ≡ path_sum f edges (u + k) d) → IsRowOf (sums_of f edges) d start row
unfolding sums_of
row_of_stream f edges d u start n row from long is = λ k inside.
    is k (omega arith) ∙ ap (λ v. path_sum f edges (v + k) d) from
