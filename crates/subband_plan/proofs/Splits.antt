-- How a node's delays are split between its halves.
use Rattle.std.proofs.Common.{◌≡◌, ℕ, ◌+◌, ◌-◌, ◌≤◌, List, arith, zero, suc}
use Rattle.std.specs.Prelude.{nat_lt}
use Rattle.std.proofs.lemmas.Bool.{ltb-true, ltb-false}
use Rattle.dada_model.specs.Edges.{AreEdges}
use Rattle.band_paths.specs.Edges.{channels_of}
use Rattle.search_model.specs.Paths.{middle}
use Rattle.search_model.specs.Laws.{SplitsFit}
use Rattle.search_model.specs.SubbandLaws.{StepsByOne, SplitsStep}
use Rattle.subband_plan.specs.declared.nodes.Node.{Node}
use Rattle.subband_plan.specs.Nodes.{IsBranch, HasRow, split_of, upper_half, lower_half}
use Rattle.subband_plan.specs.NodeLaws.{Grows, HalvesHave, AreBranches}

-- what rises by 1 or not at all from one number to the next, over k numbers
rises_by : (f : ℕ → ℕ) → ((d : ℕ) → StepsByOne (f d) (f (d + 1))) → (d k : ℕ) →
    (f d ≤ f (d + k)) × (f (d + k) ≤ f d + k)
rises_by f step d zero = let e : d + zero ≡ d = omega arith in rw e (omega arith, omega arith)
rises_by f step d (suc k) =
    let prior = rises_by f step d k in
    let next = step (d + k) in
    let e : d + suc k ≡ d + k + 1 = omega arith in
    rw e (omega (arith, prior.0, next.rises), omega (arith, prior.1, next.by_one))

-- from d to e
rises_to : (f : ℕ → ℕ) → ((d : ℕ) → StepsByOne (f d) (f (d + 1))) → (d e : ℕ) → d ≤ e →
    (f d ≤ f e) × (f e + d ≤ f d + e)
rises_to f step d e h =
    let k : ℕ = e - d in
    let is : d + k ≡ e = omega arith in
    let r = rw is at (rises_by f step d k) in
    (r.0, omega (arith, r.1))

pub node_steps : SplitsStep → (edges : List ℕ) (n : Node) → AreEdges (channels_of edges) edges → IsBranch edges n →
    n.lo + 2 ≤ n.hi → (d : ℕ) → StepsByOne (split_of edges n d) (split_of edges n (d + 1))
unfolding split_of
node_steps steps edges n band branch two d =
    let within = branch.within in
    steps _ _ _ d (band.falls (middle n.lo n.hi) n.hi (omega arith) (omega arith))
    (band.falls n.lo (middle n.lo n.hi) (omega arith) (omega arith))

pub node_fits : SplitsFit → (edges : List ℕ) (n : Node) → AreEdges (channels_of edges) edges → IsBranch edges n →
    n.lo + 2 ≤ n.hi → (d : ℕ) → split_of edges n d ≤ d
unfolding split_of
node_fits fits edges n band branch two d =
    let within = branch.within in
    fits.fits _ _ _ d (band.falls (middle n.lo n.hi) n.hi (omega arith) (omega arith))
    (band.falls n.lo (middle n.lo n.hi) (omega arith) (omega arith))

-- the test of whether a split grows
pub grown : (edges : List ℕ) (n : Node) (d before now : ℕ) → 1 ≤ d →
    StepsByOne (split_of edges n (d - 1)) (split_of edges n (d - 1 + 1)) → before ≡ split_of edges n (d - 1) →
    now ≡ split_of edges n d → Grows edges n d (nat_lt before now)
grown edges n d before now some step before_is now_is =
    let next : d - 1 + 1 ≡ d = omega arith in
    let by_one = (rw next at step).by_one in
    let rises = (rw next at step).rises in
    record {
      grows = λ more. let less = ltb-true before now more in omega arith;
      stays = λ same. let less = ltb-false before now same in omega arith;
    }

pub halves_have : SplitsFit → SplitsStep → (edges : List ℕ) (n : Node) (d : ℕ) → AreEdges (channels_of edges) edges →
    IsBranch edges n → n.lo + 2 ≤ n.hi → HasRow n d → HalvesHave edges n d
halves_have fits steps edges n d band branch two has =
    let step = node_steps steps edges n band branch two in
    let from_first = rises_to (split_of edges n) step n.first_row d has.least in
    let to_last = rises_to (split_of edges n) step d n.last_row has.most in
    let first = node_fits fits edges n band branch two n.first_row in
    let here = node_fits fits edges n band branch two d in
    let last = node_fits fits edges n band branch two n.last_row in
    record {
      part = here;
      upper = record { least = from_first.0; most = to_last.0 };
      lower = record { least = omega (arith, from_first.1); most = omega (arith, to_last.1) };
    }

-- the law of one node, as a call gives it
abbrev pub HasHalves : List ℕ → Node → Type 0
HasHalves edges n = (d : ℕ) → HasRow n d → HalvesHave edges n d

-- the halves of a node are branches
pub halves_branch : (edges : List ℕ) (n : Node) → HasHalves edges n → IsBranch edges n → n.lo + 2 ≤ n.hi →
    AreBranches edges (upper_half edges n) (lower_half edges n)
halves_branch edges n has branch two =
    let rows = branch.rows in
    let few = branch.few in
    let within = branch.within in
    let last = has n.last_row (record { least = rows; most = omega arith }) in
    let above = last.upper.least in
    let below = last.lower.least in
    let part = last.part in
    record {
      upper_half = record { some = omega arith; within = omega arith; rows = above; few = omega arith };
      lower_half = record { some = omega arith; within = within; rows = below; few = omega arith };
    }
