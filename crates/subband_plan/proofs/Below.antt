-- The rows that a row is made of come after it, or before it in its own node.
use Rattle.std.proofs.Common.{◌≡◌, ℕ, ◌+◌, ◌-◌, ◌≤◌, ◌<◌, List, length, arith, sym}
use Rattle.row_model.specs.declared.Merge.{Merge}
use Rattle.row_model.specs.declared.Source.TheVariants.{Sum}
use Rattle.subband_plan.specs.declared.nodes.Node.{Node}
use Rattle.subband_plan.specs.declared.rows.PlanRows.{PlanRows}
use Rattle.subband_plan.specs.Nodes.{HasKept, split_of, node_at}
use Rattle.subband_plan.specs.NodeLaws.{AreLaid, lower_number}
use Rattle.subband_plan.specs.Rows.{IsRow, node_of, row_at, sum_of}
use Rattle.subband_plan.specs.RowLaws.{AreNumbered, IsBelow, AreBelow}
use Rattle.subband_plan.proofs.Numbers.{halves_kept, halves_there, least_small, small_kept}
use Rattle.subband_plan.proofs.Ways.{Way, sample, sample_more, two_samples, upper_more, lower_more, both_halves, same_sum, apart}

-- a row of a later node
later_node : (rows : PlanRows) (r q k j d : ℕ) → node_of rows r ≡ k → k < j → IsRow rows j d q → IsBelow rows r q
later_node rows r q k j d is after row =
    let node = row.node in
    record { node = omega arith; before = λ same. absurd (omega arith) }

-- a row of a lesser delay
row_before : (rows : PlanRows) (nodes : List Node) (starts : List ℕ) (r k d e : ℕ) → node_of rows r ≡ k →
    row_at nodes starts k d ≡ r → (node_at nodes k).hi ≤ (node_at nodes k).lo + 2 → e < d →
    IsRow rows k e (row_at nodes starts k e) → IsBelow rows r (row_at nodes starts k e)
row_before rows nodes starts r k d e is number small less row =
    let node = row.node in
    let least = least_small (node_at nodes k) small in
    record { node = omega arith; before = λ same. omega arith }

both_below : (rows : PlanRows) (r upper lower late : ℕ) (m : Merge) → Sum m ≡ sum_of upper lower late →
    IsBelow rows r upper → IsBelow rows r lower → AreBelow rows r m
both_below rows r upper lower late m is first second =
    rw (same_sum m upper lower late is) (record { upper = first; lower = second })

pub way_below : (edges : List ℕ) (nodes : List Node) (starts : List ℕ) (rows : PlanRows) → AreLaid edges nodes →
    AreNumbered edges nodes starts →
    ((k d : ℕ) → k < length nodes → HasKept (node_at nodes k) d → IsRow rows k d (row_at nodes starts k d)) →
    (r k d : ℕ) → node_of rows r ≡ k → k < length nodes → HasKept (node_at nodes k) d →
    row_at nodes starts k d ≡ r → (m : Merge) → Way edges nodes starts k d (Sum m) → AreBelow rows r m
way_below edges nodes starts rows laid numbered known r k d at node has number m (sample one none is) =
    absurd (apart (node_at nodes k).lo m (sym is))
way_below edges nodes starts rows laid numbered known r k d at node has number m (sample_more e one next is) =
    let n = node_at nodes k in
    let own : (e : ℕ) → e < d → IsBelow rows r (row_at nodes starts k e) = λ e less.
    row_before rows nodes starts r k d e at number (omega arith) less
    (known k e node (small_kept n d e (omega arith) (omega arith) has)) in
    both_below rows r _ _ d m is (own 0 (omega arith)) (own e (omega arith))
way_below edges nodes starts rows laid numbered known r k d at node has number m (two_samples two none is) =
    let low : ℕ = lower_number (node_at nodes k) k in
    let there = halves_there edges nodes k laid node (omega arith) in
    let kept = halves_kept edges nodes k laid node two in
    both_below rows r _ _ 0 m is
    (later_node rows r _ k (k + 1) 0 at (omega arith) (known (k + 1) 0 there.0 kept.0))
    (later_node rows r _ k low 0 at (omega arith) (known low 0 there.1 kept.1))
way_below edges nodes starts rows laid numbered known r k d at node has number m (upper_more e two next grows is) =
    let n = node_at nodes k in
    let there = halves_there edges nodes k laid node (omega arith) in
    let kept = halves_kept edges nodes k laid node two in
    both_below rows r _ _ d m is
    (later_node rows r _ k (k + 1) 0 at (omega arith) (known (k + 1) 0 there.0 kept.0))
    (row_before rows nodes starts r k d e at number (omega arith) (omega arith)
    (known k e node (small_kept n d e (omega arith) (omega arith) has)))
way_below edges nodes starts rows laid numbered known r k d at node has number m (lower_more e two next stays is) =
    let n = node_at nodes k in
    let low : ℕ = lower_number n k in
    let there = halves_there edges nodes k laid node (omega arith) in
    let kept = halves_kept edges nodes k laid node two in
    both_below rows r _ _ 1 m is
    (row_before rows nodes starts r k d e at number (omega arith) (omega arith)
    (known k e node (small_kept n d e (omega arith) (omega arith) has)))
    (later_node rows r _ k low 0 at (omega arith) (known low 0 there.1 kept.1))
way_below edges nodes starts rows laid numbered known r k d at node has number m (both_halves more is) =
    let n = node_at nodes k in
    let s : ℕ = split_of edges n d in
    let low : ℕ = lower_number n k in
    let there = halves_there edges nodes k laid node (omega arith) in
    both_below rows r _ _ (d - s) m is
    (later_node rows r _ k (k + 1) s at (omega arith) (known (k + 1) s there.0 (numbered.upper k d node more has)))
    (later_node rows r _ k low (d - s) at (omega arith)
    (known low (d - s) there.1 (numbered.lower k d node more has)))
