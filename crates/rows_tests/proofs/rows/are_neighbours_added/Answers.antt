use Rattle.std.proofs.Common.{ℕ, ◌+◌, ◌-◌, ◌≤◌, List, length, take, drop, length-take, sym, subst, arith}
use Rattle.std.specs.List.{All}
use Rattle.std.proofs.lemmas.List.Elements.{All-take, All-drop}
use Rattle.std.proofs.lemmas.List.Sums.{sum_by-le}
use Rattle.fdmt_rows.specs.Rows.{sum_from}
use Rattle.rows_tests.proofs.rows.are_neighbours_added.Goals as goal

-- a few small values have a small sum
small_sum : (xs : List ℕ) (k n : ℕ) → All (λ x. x ≤ 100) xs → n ≤ 1000 → sum_from xs k n ≤ 100000
small_sum xs k n all few =
    let total = sum_by-le (λ x. x) 100 (take n (drop k xs)) (All-take (λ x. x ≤ 100) n (drop k xs) (All-drop
    (λ x. x ≤ 100) k xs all)) in
    let short : length (take n (drop k xs)) ≤ n = simp length-take (omega arith) in
    omega (arith, total, short)

pub running-requires-clause-fits : goal.running-requires-clause-fits
running-requires-clause-fits c = λ k lt.
    let x = c.as_slice.result.now in
    let small : All (λ x. x ≤ 100) x =
    subst (λ (xs : List ℕ). All (λ x. x ≤ 100) xs) (sym c.as_slice.ensures.value) c.in_ok-x.ensures.small in
    let count : length x - length c.as_mut_slice.result.now + 1 ≤ 1000 =
    (let mine = c.in_ok-x.ensures.long in let sums = c.in_ok-sums.ensures.long in omega (arith, mine, sums)) in
    let total = small_sum x k (length x - length c.as_mut_slice.result.now + 1) small count in
    omega (arith, total)
