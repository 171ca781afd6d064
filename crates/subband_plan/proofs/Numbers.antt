-- The numbers of rows.
use Rattle.std.proofs.Common.{◌≡◌, ℕ, ◌+◌, ◌-◌, ◌^◌, ◌≤◌, ◌<◌, List, length, slice_index, ap, arith, refl, inl, inr}
use Rattle.std.proofs.lemmas.Bool.{le-leb, lt-leb, cases_lt}
use Rattle.search_model.specs.Paths.{middle}
use Rattle.subband_plan.specs.declared.nodes.Node.{Node}
use Rattle.subband_plan.specs.Nodes.{HasKept, HasRow, IsBranch, least_row, kept_count, node_at}
use Rattle.subband_plan.specs.NodeLaws.{AreLaid, AskedRowsAreThere, HalvesHave, lower_number}
use Rattle.subband_plan.specs.Rows.{row_at}
use Rattle.subband_plan.specs.RowLaws.{AreNumbered, RowsAreNumbered}
use Rattle.subband_plan.proofs.Places.{places_few, places_rise}

pub least_more : (n : Node) → n.lo + 3 ≤ n.hi → least_row n ≡ n.first_row
unfolding least_row
least_more n more = rw (le-leb 3 (n.hi - n.lo) (omega arith)) refl

pub least_small : (n : Node) → n.hi ≤ n.lo + 2 → least_row n ≡ 0
unfolding least_row
least_small n small = rw (lt-leb 3 (n.hi - n.lo) (omega arith)) refl

least_le : (n : Node) → least_row n ≤ n.first_row
least_le n = elim (cases_lt n.hi (n.lo + 3)) [
  | inl small ↦ let e = least_small n (omega arith) in omega arith
  | inr more ↦ let e = least_more n more in omega arith
]

-- a row is kept
pub kept : (n : Node) (d : ℕ) → HasRow n d → HasKept n d
kept n d has =
    let below = least_le n in
    let least = has.least in
    record { least = omega arith; most = has.most }

-- of three channels or more, no other row is kept
pub has_row : (n : Node) (d : ℕ) → n.lo + 3 ≤ n.hi → HasKept n d → HasRow n d
has_row n d more has =
    let e = least_more n more in
    let least = has.least in
    record { least = omega arith; most = has.most }

-- of one or two channels, each row of a lesser delay is kept too
pub small_kept : (n : Node) (d e : ℕ) → n.hi ≤ n.lo + 2 → e ≤ d → HasKept n d → HasKept n e
small_kept n d e small less has =
    let zero = least_small n small in
    let most = has.most in
    record { least = omega arith; most = omega arith }

-- and of each such node that of delay 0
pub zero_kept : (edges : List ℕ) (n : Node) → IsBranch edges n → n.hi ≤ n.lo + 2 → HasKept n 0
zero_kept edges n branch small =
    let zero = least_small n small in
    record { least = omega arith; most = omega arith }

-- both halves are nodes
pub halves_there : (edges : List ℕ) (nodes : List Node) (k : ℕ) → AreLaid edges nodes → k < length nodes →
    (node_at nodes k).lo + 2 ≤ (node_at nodes k).hi →
    (k + 1 < length nodes) × (lower_number (node_at nodes k) k < length nodes)
halves_there edges nodes k laid h two = let room = (laid.each k h).below in (omega arith, omega arith)

-- of two channels, both halves keep their rows of delay 0
pub halves_kept : (edges : List ℕ) (nodes : List Node) (k : ℕ) → AreLaid edges nodes → k < length nodes →
    (node_at nodes k).hi ≡ (node_at nodes k).lo + 2 →
    HasKept (node_at nodes (k + 1)) 0 × HasKept (node_at nodes (lower_number (node_at nodes k) k)) 0
halves_kept edges nodes k laid h two =
    let n = node_at nodes k in
    let low : ℕ = lower_number n k in
    let lays = laid.each k h in
    let room = lays.below in
    let up = lays.upper (omega arith) in
    let down = lays.lower (omega arith) in
    let upper_lo : (node_at nodes (k + 1)).lo ≡ n.lo = ap (λ (m : Node). m.lo) up in
    let upper_hi : (node_at nodes (k + 1)).hi ≡ middle n.lo n.hi = ap (λ (m : Node). m.hi) up in
    let lower_lo : (node_at nodes low).lo ≡ middle n.lo n.hi = ap (λ (m : Node). m.lo) down in
    let lower_hi : (node_at nodes low).hi ≡ n.hi = ap (λ (m : Node). m.hi) down in (
      zero_kept edges (node_at nodes (k + 1)) (laid.each (k + 1) (omega arith)).branch (omega arith),
      zero_kept edges (node_at nodes low) (laid.each low (omega arith)).branch (omega arith),
    )

pub numbered : AskedRowsAreThere → RowsAreNumbered
numbered asked edges nodes starts laid are =
    let size : ℕ → ℕ = λ k. kept_count (node_at nodes k) in
    let halves : (k d : ℕ) → k < length nodes → (node_at nodes k).lo + 3 ≤ (node_at nodes k).hi →
    HasKept (node_at nodes k) d → HalvesHave edges (node_at nodes k) d =
    λ k d h more has. asked edges (node_at nodes k) d laid.band (laid.each k h).branch (omega arith)
    (has_row (node_at nodes k) d more has) in
    record {
      rise = places_rise size (length nodes) starts are;
      few = places_few size (length nodes) 8193 starts are
          (λ k h. let few = (laid.each k h).branch.few in omega arith);
      above = λ k d h has.
          let next = are.next k h in
          let least = has.least in
          let most = has.most in
          omega arith;
      kept = λ k. kept (node_at nodes k);
      upper = λ k d h more has. rw ((laid.each k h).upper (omega arith)) (kept _ _ (halves k d h more has).upper);
      lower = λ k d h more has. rw ((laid.each k h).lower (omega arith)) (kept _ _ (halves k d h more has).lower);
      of_more = λ k more. least_more (node_at nodes k) more;
      of_two = λ k small. least_small (node_at nodes k) small;
    }

-- a number belongs to one row
pub one_row : (edges : List ℕ) (nodes : List Node) (starts : List ℕ) → AreNumbered edges nodes starts →
    (j d k e : ℕ) → j < length nodes → k < length nodes → HasKept (node_at nodes j) d →
    HasKept (node_at nodes k) e →
    row_at nodes starts j d ≡ row_at nodes starts k e → (j ≡ k) × (d ≡ e)
one_row edges nodes starts are j d k e hj hk has_j has_k same =
    elim (cases_lt j k) [
      | inl before ↦
          let above = are.above j d hj has_j in
          let rise = are.rise (j + 1) k (omega arith) (omega arith) in
          absurd (omega arith)
      | inr not_before ↦ elim (cases_lt k j) [
        | inl after ↦
            let above = are.above k e hk has_k in
            let rise = are.rise (k + 1) j (omega arith) (omega arith) in
            absurd (omega arith)
        | inr not_after ↦
            let node : j ≡ k = omega arith in
            let same_here = rw node at same in
            let least_d = (rw node at has_j).least in
            let least_e = has_k.least in
            (node, omega arith)
      ]
    ]

-- a node keeps a row at least, and 8193 at most
pub kept_some : (edges : List ℕ) (n : Node) → IsBranch edges n →
    (least_row n ≤ n.last_row) × (kept_count n ≤ 8193)
kept_some edges n branch =
    let below = least_le n in
    let rows = branch.rows in
    let few = branch.few in
    (omega arith, omega arith)

-- how many rows there are at most
pub rows_fit : (edges : List ℕ) (nodes : List Node) (starts : List ℕ) → AreLaid edges nodes →
    AreNumbered edges nodes starts → slice_index starts (length nodes) ≤ 2 ^ 26
rows_fit edges nodes starts laid are =
    let few = are.few (length nodes) (omega arith) in
    let count = laid.count in
    let many = laid.band.many in
    omega arith

-- the numbers of rows are small
pub numbers_fit : (edges : List ℕ) (nodes : List Node) (starts : List ℕ) → AreLaid edges nodes →
    AreNumbered edges nodes starts → (k d : ℕ) → k < length nodes → HasKept (node_at nodes k) d →
    (row_at nodes starts k d < slice_index starts (length nodes))
    × (slice_index starts (length nodes) ≤ 2 ^ 26)
numbers_fit edges nodes starts laid are k d h has =
    let above = are.above k d h has in
    let rise = are.rise (k + 1) (length nodes) (omega arith) (omega arith) in
    (omega arith, rows_fit edges nodes starts laid are)
