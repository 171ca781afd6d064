use Rattle.std.proofs.Common.{ℕ, ◌+◌, ◌-◌, ◌*◌, ◌≤◌, List, [], replicate, vec_capacity, sym, subst, arith}
use Rattle.std.proofs.Math.Nat.{mul-le-mul_right}
use Rattle.box_sums.specs.Tails.{row_at}
use Rattle.box_sums.specs.Rows.{Keeps}
use Rattle.box_sums.specs.Tables.{TablesAreSound}
use Rattle.box_sums.proofs.Zeros.{opened, zeros_keep, zeros_sound}
use Rattle.box_sums.proofs.boxes.Boxes.open.Goals as goal

pub invariant_of-result : goal.invariant_of-result
invariant_of-result c =
    let a = c.args in
    let reach : ℕ = c.in_whole_lanes-reach.result in
    let stride : ℕ = reach + a.chunk in
    let rows : ℕ = a.last - a.first + 1 in
    let O = opened a.first a.last a.chunk a.widest a.bound reach in
    let kept = c.in_ok-with_capacity.field-0 in
    let memory : ℕ = vec_capacity kept in
    let level : ℕ = c.level_of.result in
    let room : ℕ = c.in_ok-open.field-0 in
    let U : ℕ → Type 0 = λ room. TablesAreSound (O (replicate (rows * reach) 0) (replicate stride 0)
    []) (replicate (5 * stride) 0) (replicate 6 0) level memory room in
    let P : List ℕ → Type 0 = λ tails. TablesAreSound (O tails c.in_ok-zeros-2.field-0.items
    kept.items) c.in_ok-zeros-3.field-0.items c.in_ok-zeros-4.field-0.items level memory room in
    let Q : List ℕ → Type 0 = λ line. TablesAreSound (O (replicate (rows * reach) 0) line
    kept.items) c.in_ok-zeros-3.field-0.items c.in_ok-zeros-4.field-0.items level memory room in
    let R : List ℕ → Type 0 = λ kept. TablesAreSound (O (replicate (rows * reach) 0) (replicate stride 0) kept)
    c.in_ok-zeros-3.field-0.items c.in_ok-zeros-4.field-0.items level memory room in
    let S : List ℕ → Type 0 = λ boxes. TablesAreSound (O (replicate (rows * reach) 0) (replicate stride 0)
    []) boxes c.in_ok-zeros-4.field-0.items level memory room in
    let T : List ℕ → Type 0 = λ greatest. TablesAreSound (O (replicate (rows * reach) 0) (replicate stride 0)
    []) (replicate (5 * stride) 0) greatest level memory room in
    let enough = c.in_whole_lanes-reach.ensures.enough in
    subst P (sym c.in_ok-zeros.ensures) (subst Q (sym c.in_ok-zeros-2.ensures) (subst R
    (sym c.in_ok-with_capacity.ensures.items)
    (subst S (sym c.in_ok-zeros-3.ensures) (subst T (sym c.in_ok-zeros-4.ensures) (subst U (sym c.in_ok-open.ensures)
    (zeros_sound a.first a.last a.chunk a.widest a.bound reach level memory c.in_ok-with_capacity.ensures.capacity
    c.requires.order c.requires.rows c.requires.some c.requires.most c.requires.width c.requires.fits
    (omega (arith, enough)) c.in_whole_lanes-reach.ensures.near
    (λ one. c.in_whole_lanes-reach.ensures.none (omega arith))
    (λ wide. c.in_whole_lanes-reach.ensures.some (omega arith)) c.level_of.ensures.power))))))

pub returns-clause-none : goal.returns-clause-none
returns-clause-none c = λ d has.
    let reach : ℕ = c.in_whole_lanes-reach.result in
    let rows : ℕ = c.args.last - c.args.first + 1 in
    let at : ℕ = d - c.args.first in
    let above = has.above in
    let below = has.below in
    let room : (at + 1) * reach ≤ rows * reach = mul-le-mul_right reach (omega arith) in
    subst (λ (tails : List ℕ). Keeps (row_at tails reach at) reach 0 []) (sym c.in_ok-zeros.ensures)
    (zeros_keep (rows * reach) reach at room)
