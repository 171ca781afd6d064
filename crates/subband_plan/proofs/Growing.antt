-- How the sums over one and two channels grow with their delay.
use Rattle.std.proofs.Common.{◌≡◌, ℕ, zero, suc, ◌+◌, ◌-◌, ◌/◌, ◌≤◌, List, arith, ap, ◌∙◌}
use Rattle.dada_model.specs.Edges.{AreEdges}
use Rattle.band_paths.specs.Edges.{channels_of}
use Rattle.search_model.specs.Samples.{Filterbank}
use Rattle.search_model.specs.Laws.{SplitsFit}
use Rattle.search_model.specs.Subbands.{node_sum}
use Rattle.search_model.specs.SubbandLaws.{HalvesAdd, OneChannelAdds}
use Rattle.subband_plan.specs.declared.nodes.Node.{Node}
use Rattle.subband_plan.specs.Nodes.{IsBranch, split_of, upper_half, lower_half}
use Rattle.subband_plan.proofs.Splits.{node_fits}

-- Sums over a channel, by their delay and by how much earlier they end: each is the one before and
-- the sample that stands as many spectra earlier as the delay.
abbrev pub Grow : (ℕ → ℕ → ℕ) → Type 0
Grow g = (d late : ℕ) → g (d + 1) late ≡ g 0 (late + (d + 1)) + g d late

-- each is also the last sample, and the one before as it stood a spectrum earlier
last_sample : (g : ℕ → ℕ → ℕ) → Grow g → (k late : ℕ) → g (k + 1) late ≡ g 0 late + g k (late + 1)
last_sample g grow zero late = let first = grow 0 late in omega arith
last_sample g grow (suc k) late =
    let here = grow (k + 1) late in
    let before = last_sample g grow k late in
    let earlier = grow k (late + 1) in
    let same : g 0 (late + (k + 1 + 1)) ≡ g 0 (late + 1 + (k + 1)) =
    ap (λ l. g 0 l) (let e : late + (k + 1 + 1) ≡ late + 1 + (k + 1) = omega arith in e) in
    let next : suc k ≡ k + 1 = omega arith in
    rw next (omega arith)

-- sums p over two channels, of sums over the upper one and over the lower one, which gets what is
-- left of a delay d by its split
pub record ArePairs (p upper lower : ℕ → ℕ → ℕ) (split : ℕ → ℕ) : Type 0 where
  pub halves : (d late : ℕ) → p d late ≡ upper (split d) (late + (d - split d)) + lower (d - split d) late
  pub part : (d : ℕ) → split d ≤ d
  pub upper_grows : Grow upper
  pub lower_grows : Grow lower

pub pair_first : (p a b : ℕ → ℕ → ℕ) (s : ℕ → ℕ) → ArePairs p a b s → (late : ℕ) → p 0 late ≡ a 0 (late + 0) + b 0 late
pair_first p a b s are late =
    let part = are.part 0 in
    let none : s 0 ≡ 0 = omega arith in
    are.halves 0 late ∙ ap (λ x. a x (late + (0 - x)) + b (0 - x) late) none

-- where the upper channel gets one spectrum more
pub pair_grows : (p a b : ℕ → ℕ → ℕ) (s : ℕ → ℕ) → ArePairs p a b s → (e late : ℕ) → s (e + 1) ≡ s e + 1 →
    p (e + 1) late ≡ a 0 (late + (e + 1)) + p e late
pair_grows p a b s are e late grows =
    let part = are.part e in
    let left : e + 1 - s (e + 1) ≡ e - s e = omega arith in
    let here : p (e + 1) late ≡ a (s e + 1) (late + (e - s e)) + b (e - s e) late =
    are.halves (e + 1) late
    ∙ ap (λ x. a x (late + (e + 1 - s (e + 1))) + b (e + 1 - s (e + 1)) late) grows
    ∙ ap (λ x. a (s e + 1) (late + x) + b x late) left in
    let upper = are.upper_grows (s e) (late + (e - s e)) in
    let same : a 0 (late + (e - s e) + (s e + 1)) ≡ a 0 (late + (e + 1)) =
    ap (λ l. a 0 l) (let e : late + (e - s e) + (s e + 1) ≡ late + (e + 1) = omega arith in e) in
    let before = are.halves e late in
    omega arith

-- where the lower one does
pub pair_stays : (p a b : ℕ → ℕ → ℕ) (s : ℕ → ℕ) → ArePairs p a b s → (e late : ℕ) → s (e + 1) ≡ s e →
    p (e + 1) late ≡ p e (late + 1) + b 0 late
pair_stays p a b s are e late stays =
    let part = are.part e in
    let left : e + 1 - s (e + 1) ≡ e - s e + 1 = omega arith in
    let here : p (e + 1) late ≡ a (s e) (late + (e - s e + 1)) + b (e - s e + 1) late =
    are.halves (e + 1) late
    ∙ ap (λ x. a x (late + (e + 1 - s (e + 1))) + b (e + 1 - s (e + 1)) late) stays
    ∙ ap (λ x. a (s e) (late + x) + b x late) left in
    let lower = last_sample b are.lower_grows (e - s e) late in
    let same : a (s e) (late + (e - s e + 1)) ≡ a (s e) (late + 1 + (e - s e)) =
    ap (λ l. a (s e) l) (let e : late + (e - s e + 1) ≡ late + 1 + (e - s e) = omega arith in e) in
    let before = are.halves e (late + 1) in
    omega arith

-- the sums over a channel
pub channel_grows : OneChannelAdds → (f : Filterbank) (edges : List ℕ) (c hi u : ℕ) →
    AreEdges (channels_of edges) edges → hi ≡ c + 1 → hi ≤ channels_of edges →
    Grow (λ d late. node_sum f edges c hi d u late)
channel_grows adds f edges c hi u band one within d late =
    rw one (adds f edges (channels_of edges) c d u late band (omega arith))

-- the sum over a node by its halves
pub halves_sum : HalvesAdd → (f : Filterbank) (edges : List ℕ) (n : Node) (d u late : ℕ) →
    AreEdges (channels_of edges) edges → IsBranch edges n → n.lo + 2 ≤ n.hi →
    node_sum f edges n.lo n.hi d u late
    ≡ node_sum f edges (upper_half edges n).lo (upper_half edges n).hi (split_of edges n d) u
    (late + (d - split_of edges n d))
    + node_sum f edges (lower_half edges n).lo (lower_half edges n).hi (d - split_of edges n d) u late
unfolding split_of
halves_sum adds f edges n d u late band branch two =
    let within = branch.within in
    adds f edges (channels_of edges) n.lo n.hi d u late band two (omega arith)

-- the sums over two channels
pub pair_sums : HalvesAdd → OneChannelAdds → SplitsFit → (f : Filterbank) (edges : List ℕ) (n upper lower : Node)
    (u : ℕ) → AreEdges (channels_of edges) edges → IsBranch edges n → n.hi ≡ n.lo + 2 → upper ≡ upper_half edges n →
    lower ≡ lower_half edges n → ArePairs (λ d late. node_sum f edges n.lo n.hi d u late)
    (λ d late. node_sum f edges upper.lo upper.hi d u late) (λ d late. node_sum f edges lower.lo lower.hi d u late)
    (split_of edges n)
pair_sums halves adds fits f edges n upper lower u band branch two is_upper is_lower =
    let within = branch.within in
    let upper_lo : upper.lo ≡ n.lo = ap (λ (m : Node). m.lo) is_upper in
    let upper_hi : upper.hi ≡ n.lo + (n.hi - n.lo) / 2 = ap (λ (m : Node). m.hi) is_upper in
    let lower_lo : lower.lo ≡ n.lo + (n.hi - n.lo) / 2 = ap (λ (m : Node). m.lo) is_lower in
    let lower_hi : lower.hi ≡ n.hi = ap (λ (m : Node). m.hi) is_lower in
    record {
      halves = λ d late. rw (is_upper, is_lower) (halves_sum halves f edges n d u late band branch (omega arith));
      part = node_fits fits edges n band branch (omega arith);
      upper_grows = channel_grows adds f edges upper.lo upper.hi u band (omega arith) (omega arith);
      lower_grows = channel_grows adds f edges lower.lo lower.hi u band (omega arith) (omega arith);
    }
