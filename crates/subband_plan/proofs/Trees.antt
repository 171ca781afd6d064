-- The nodes below a node: how many they are, and where the halves of each stand.
use Rattle.std.proofs.Common.{◌≡◌, ℕ, ◌+◌, ◌-◌, ◌*◌, ◌^◌, ◌≤◌, ◌<◌, List, [], ◌∷◌, ◌++◌, length, arith, zero, suc, refl, ap, ◌∙◌, inl, inr, length-append, append_assoc, pow-suc}
use Rattle.std.proofs.Math.ListN.{get_or-append}
use Rattle.std.proofs.lemmas.Bool.{le-leb, lt-leb, cases_lt}
use Rattle.std.proofs.lemmas.List.{get_or-append-add}
use Rattle.dada_model.specs.Edges.{AreEdges}
use Rattle.band_paths.specs.Edges.{channels_of}
use Rattle.search_model.specs.Paths.{middle}
use Rattle.subband_plan.specs.declared.nodes.Node.{Node}
use Rattle.subband_plan.specs.Nodes.{IsBranch, IsGrown, upper_half, lower_half, tree, node_at}
use Rattle.subband_plan.specs.NodeLaws.{IsLaid, AskedRowsAreThere, lower_number}
use Rattle.subband_plan.proofs.Splits.{halves_branch}

pub tree_two : (depth : ℕ) (edges : List ℕ) (n : Node) → n.lo + 2 ≤ n.hi →
    tree (suc depth) edges n
    ≡ n ∷ (tree depth edges (upper_half edges n) ++ tree depth edges (lower_half edges n))
unfolding tree
tree_two depth edges n two = rw (le-leb (n.lo + 2) n.hi two, tree) refl

pub tree_one : (depth : ℕ) (edges : List ℕ) (n : Node) → n.hi ≤ n.lo + 1 → tree depth edges n ≡ n ∷ []
unfolding tree
tree_one zero edges n one = refl
tree_one (suc depth) edges n one = rw (lt-leb (n.lo + 2) n.hi (omega arith), tree) refl

-- 2^(depth + 1) channels are halved into 2^depth and less
pub half_depth : (depth lo hi : ℕ) → lo + 2 ≤ hi → hi ≤ lo + 2 ^ suc depth →
    (middle lo hi ≤ lo + 2 ^ depth) × (hi ≤ middle lo hi + 2 ^ depth)
half_depth depth lo hi two deep =
    let e : 2 ^ suc depth ≡ 2 ^ depth * 2 = pow-suc 2 depth in
    (omega arith, omega arith)

-- what the nodes below a node are, itself the first
pub record IsTree (edges : List ℕ) (n : Node) (nodes : List Node) : Type 0 where
  pub count : length nodes + 1 ≡ 2 * (n.hi - n.lo)
  pub head : node_at nodes 0 ≡ n
  pub each : (k : ℕ) → k < length nodes → IsLaid edges nodes k (node_at nodes k)

-- part of a list, from place q on
record IsPart (whole part : List Node) (q : ℕ) : Type 0 where
  fits : q + length part ≤ length whole
  same : (i : ℕ) → i < length part → node_at whole (q + i) ≡ node_at part i

moved : (edges : List ℕ) (whole part : List Node) (q j : ℕ) (n : Node) → IsPart whole part q →
    IsLaid edges part j n → IsLaid edges whole (q + j) n
moved edges whole part q j n is laid =
    let below = laid.below in
    let fits = is.fits in
    let some = laid.branch.some in
    record {
      branch = laid.branch;
      below = omega arith;
      upper = λ two.
          ap (λ i. node_at whole i) (let e : q + j + 1 ≡ q + (j + 1) = omega arith in e)
          ∙ is.same (j + 1) (omega arith) ∙ laid.upper two;
      lower = λ two.
          ap (λ i. node_at whole i)
          (let e : lower_number n (q + j) ≡ q + lower_number n j = omega arith in e)
          ∙ is.same (lower_number n j) (omega arith) ∙ laid.lower two;
    }

-- the nodes of a single channel
single : (edges : List ℕ) (n : Node) → IsBranch edges n → n.hi ≤ n.lo + 1 → IsTree edges n (n ∷ [])
single edges n branch one =
    let some = branch.some in
    record { count = omega arith; head = refl; each = here edges n branch one }
  where
    here : (edges : List ℕ) (n : Node) → IsBranch edges n → n.hi ≤ n.lo + 1 → (k : ℕ) → k < length (n ∷ []) →
        IsLaid edges (n ∷ []) k (node_at (n ∷ []) k)
    here edges n branch one zero h =
        record {
          branch = branch;
          below = omega arith;
          upper = λ two. absurd (omega arith);
          lower = λ two. absurd (omega arith);
        }
    here edges n branch one (suc k) h = absurd (omega arith)

upper_part : (n : Node) (us ls : List Node) → IsPart (n ∷ (us ++ ls)) us 1
upper_part n us ls =
    let size = length-append us ls in
    record {
      fits = omega arith;
      same = λ i h.
          ap (λ k. node_at (n ∷ (us ++ ls)) k) (let e : 1 + i ≡ suc i = omega arith in e)
          ∙ get_or-append us ls _ i h;
    }

lower_part : (n : Node) (us ls : List Node) → IsPart (n ∷ (us ++ ls)) ls (1 + length us)
lower_part n us ls =
    let size = length-append us ls in
    record {
      fits = omega arith;
      same = λ i h.
          ap (λ k. node_at (n ∷ (us ++ ls)) k)
          (let e : 1 + length us + i ≡ suc (length us + i) = omega arith in e)
          ∙ get_or-append-add us ls i _;
    }

-- the whole first
first_laid : (edges : List ℕ) (n : Node) (us ls : List Node) → IsBranch edges n → n.lo + 2 ≤ n.hi →
    IsTree edges (upper_half edges n) us → IsTree edges (lower_half edges n) ls →
    IsLaid edges (n ∷ (us ++ ls)) 0 n
first_laid edges n us ls branch two upper lower =
    let size = length-append us ls in
    let above = upper.count in
    let below = lower.count in
    record {
      branch = branch;
      below = omega arith;
      upper = λ _.
          (upper_part n us ls).same 0 (omega arith) ∙ upper.head;
      lower = λ _.
          ap (λ k. node_at (n ∷ (us ++ ls)) k)
          (let e : lower_number n 0 ≡ 1 + length us + 0 = omega arith in e)
          ∙ (lower_part n us ls).same 0 (omega arith) ∙ lower.head;
    }

joined : (edges : List ℕ) (n : Node) (us ls : List Node) → IsBranch edges n → n.lo + 2 ≤ n.hi →
    IsTree edges (upper_half edges n) us → IsTree edges (lower_half edges n) ls →
    IsTree edges n (n ∷ (us ++ ls))
joined edges n us ls branch two upper lower =
    let size = length-append us ls in
    let above = upper.count in
    let below = lower.count in
    record { count = omega arith; head = refl; each = here edges n us ls branch two upper lower }
  where
    later : (edges : List ℕ) (whole part : List Node) (q j : ℕ) → IsPart whole part q → j < length part →
        IsLaid edges part j (node_at part j) → IsLaid edges whole (q + j) (node_at whole (q + j))
    later edges whole part q j is h laid =
        rw (is.same j h) (moved edges whole part q j (node_at part j) is laid)

    here : (edges : List ℕ) (n : Node) (us ls : List Node) → IsBranch edges n → n.lo + 2 ≤ n.hi →
        IsTree edges (upper_half edges n) us → IsTree edges (lower_half edges n) ls →
        (k : ℕ) → k < length (n ∷ (us ++ ls)) → IsLaid edges (n ∷ (us ++ ls)) k (node_at (n ∷ (us ++ ls)) k)
    here edges n us ls branch two upper lower zero h = first_laid edges n us ls branch two upper lower
    here edges n us ls branch two upper lower (suc j) h =
        let size = length-append us ls in
        elim (cases_lt j (length us)) [
          | inl in_upper ↦
              let e : 1 + j ≡ suc j = omega arith in
              rw e at (later edges (n ∷ (us ++ ls)) us 1 j (upper_part n us ls) in_upper (upper.each j in_upper))
          | inr in_lower ↦
              let i : ℕ = j - length us in
              let e : 1 + length us + i ≡ suc j = omega arith in
              rw e at (later edges (n ∷ (us ++ ls)) ls (1 + length us) i (lower_part n us ls) (omega arith)
              (lower.each i (omega arith)))
        ]

pub is_tree : AskedRowsAreThere → (depth : ℕ) (edges : List ℕ) (n : Node) → AreEdges (channels_of edges) edges →
    IsBranch edges n → n.hi ≤ n.lo + 2 ^ depth → IsTree edges n (tree depth edges n)
is_tree asked zero edges n band branch deep =
    rw (tree_one zero edges n (omega arith)) (single edges n branch (omega arith))
is_tree asked (suc depth) edges n band branch deep =
    elim (cases_lt n.hi (n.lo + 2)) [
      | inl one ↦ rw (tree_one (suc depth) edges n (omega arith)) (single edges n branch (omega arith))
      | inr two ↦
          let halves = halves_branch edges n (λ d has. asked edges n d band branch two has) branch two in
          let deep = half_depth depth n.lo n.hi two deep in
          rw (tree_two depth edges n two) (joined edges n _ _ branch two
          (is_tree asked depth edges (upper_half edges n) band halves.upper_half deep.0)
          (is_tree asked depth edges (lower_half edges n) band halves.lower_half deep.1))
    ]

-- a node and both halves were appended
pub grown_two : (edges : List ℕ) (n u l : Node) (before pushed above after : List Node) → n.lo + 2 ≤ n.hi →
    u ≡ upper_half edges n → l ≡ lower_half edges n → pushed ≡ before ++ n ∷ [] →
    IsGrown edges pushed u above → IsGrown edges above l after → IsGrown edges before n after
grown_two edges n u l before pushed above after two is_u is_l is_pushed upper lower zero deep = absurd (omega arith)
grown_two edges n u l before pushed above after two is_u is_l is_pushed upper lower (suc depth) deep =
    let halves = half_depth depth n.lo n.hi two deep in
    let first : above ≡ pushed ++ tree depth edges (upper_half edges n) =
    (rw is_u at upper) depth halves.0 in
    let second : after ≡ above ++ tree depth edges (lower_half edges n) =
    (rw is_l at lower) depth halves.1 in
    rw (tree_two depth edges n two, second, first, is_pushed) (simp append_assoc)

-- a single channel was appended
pub grown_one : (edges : List ℕ) (n : Node) (before pushed : List Node) → n.hi ≤ n.lo + 1 →
    pushed ≡ before ++ n ∷ [] → IsGrown edges before n pushed
grown_one edges n before pushed one is_pushed depth deep = rw (tree_one depth edges n one) is_pushed
