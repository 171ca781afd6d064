-- The edges of a band, and how the delays between two edges are filled in.
use Rattle.std.proofs.Common.{◌≡◌, ◌≢◌, ℕ, ◌+◌, ◌-◌, ◌<◌, ◌≤◌, List, length, slice_index, slice_set, arith, zero, suc, ◌∙◌, get_or-set_same, get_or-set_other}
use Rattle.search_model.specs.Paths.{middle, split_at, IsHalved, IsPath}
use Rattle.search_model.specs.Laws.{HalvesJoin, PathsRise}
use Rattle.dada_model.specs.Edges.{AreEdges}
use Rattle.band_paths.specs.Edges.{channels_of, KeepsOutside, AreDelays}

-- no edge is above the top
pub edge_le : (edges : List ℕ) → AreEdges (channels_of edges) edges → (k : ℕ) → k < length edges →
    slice_index edges k ≤ 16777216
edge_le edges is zero h = is.top
edge_le edges is (suc k) h =
    let below = is.falls 0 (suc k) (omega arith) (omega arith) in
    let top = is.top in
    omega arith

-- the delays d0, with the middle set, then halved above it, then below it
pub halved_twice : HalvesJoin → (edges : List ℕ) (lo hi v : ℕ) (d0 d2 d3 : List ℕ) → lo + 2 ≤ hi → hi < length d0 →
    v ≡ slice_index d0 lo + split_at edges lo hi (slice_index d0 hi - slice_index d0 lo) →
    KeepsOutside lo (middle lo hi) (slice_set d0 (middle lo hi) v) d2 →
    IsHalved edges lo (middle lo hi) (λ k. slice_index d2 k) →
    KeepsOutside (middle lo hi) hi d2 d3 → IsHalved edges (middle lo hi) hi (λ k. slice_index d3 k) →
    IsHalved edges lo hi (λ k. slice_index d3 k) × (KeepsOutside lo hi d0 d3)
halved_twice halves edges lo hi v d0 d2 d3 two within is keeps2 halved2 keeps3 halved3 =
    let m_above : lo < middle lo hi = omega arith in
    let m_below : middle lo hi < hi = omega arith in
    let set : slice_index (slice_set d0 (middle lo hi) v) (middle lo hi) ≡ v =
    get_or-set_same d0 (middle lo hi) v 0 (omega arith) in
    let at_mid : slice_index d3 (middle lo hi) ≡ v = keeps3.below (middle lo hi) (omega arith)
    ∙ keeps2.above (middle lo hi) (omega arith) ∙ set in
    let below : (k : ℕ) → k ≤ lo → slice_index d3 k ≡ slice_index d0 k =
    λ k h. let other : k ≢ middle lo hi = omega arith in
    keeps3.below k (omega arith) ∙ keeps2.below k h ∙ get_or-set_other d0 (middle lo hi) k v 0 other in
    let above : (k : ℕ) → hi ≤ k → slice_index d3 k ≡ slice_index d0 k =
    λ k h. let other : k ≢ middle lo hi = omega arith in
    keeps3.above k h ∙ keeps2.above k (omega arith) ∙ get_or-set_other d0 (middle lo hi) k v 0 other in
    let at_lo = below lo (omega arith) in
    let at_hi = above hi (omega arith) in
    let law : slice_index d3 (middle lo hi)
    ≡ slice_index d3 lo + split_at edges lo hi (slice_index d3 hi - slice_index d3 lo) =
    rw at_lo (rw at_hi (at_mid ∙ is)) in (
      halves.join edges lo hi (λ k. slice_index d3 k) two law
          (halves.same edges lo (middle lo hi) (λ k. slice_index d2 k) (λ k. slice_index d3 k) (omega arith)
          (λ k from to. keeps3.below k to) halved2)
          halved3,
      record { below = below; above = above },
    )

-- no delay is above the last
pub delay_le : (n : ℕ) (delays : List ℕ) → AreDelays n delays → (c k : ℕ) → c + k ≡ n →
    slice_index delays c ≤ slice_index delays n
delay_le n delays is c zero h = let e : c ≡ n = omega arith in rw e (omega arith)
delay_le n delays is c (suc k) h =
    let next = delay_le n delays is (c + 1) k (omega arith) in
    let here = is.rise c (omega arith) in
    omega arith

-- the delays of a path are such
pub delays_are : PathsRise → (edges : List ℕ) (d : ℕ) (e : List ℕ) → AreEdges (channels_of edges) edges → d ≤ 8192 →
    IsPath edges (channels_of edges) d e → AreDelays (channels_of edges) e
delays_are rises edges d e is h path =
    record {
      entries = path.entries;
      first = path.first;
      rise = rises edges (channels_of edges) d e is path;
      last = rw path.last h;
    }
