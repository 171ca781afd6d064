use Rattle.std.proofs.Common.{rules, ℕ, ◌≤◌, All, List, [], ◌∷◌, zero, suc, length, slice_index_or, sym, subst, arith}
use Rattle.rows_tests.proofs.boxes.are_fed.Goals as goal

pub feed_row-requires-in-loop-count-clause-short : goal.feed_row-requires-in-loop-count-clause-short
feed_row-requires-in-loop-count-clause-short c =
    let chunk = c.feed_row.ensures.alike.chunk in
    let sixteen = c.loop-count.invariant.chunk in
    let few : length c.as_slice-in-loop-count.result.now ≤ 16 = search rules in
    omega (arith, few, chunk, sixteen)

pub feed_row-requires-in-loop-count-clause-small : goal.feed_row-requires-in-loop-count-clause-small
feed_row-requires-in-loop-count-clause-small c = λ k d lt.
    let same = c.feed_row.ensures.alike.bound in
    let bound = c.loop-count.invariant.bound in
    let Small : List ℕ → Type 0 = All (λ x. x ≤ 1000) in
    let small = subst Small (sym c.as_slice-in-loop-count.ensures.value) c.in_ok-piece.ensures.small k d lt in
    omega (arith, same, bound, small)

-- no piece is longer than a chunk
pieces_short : (i : ℕ) → slice_index_or (5 ∷ 16 ∷ 0 ∷ 1 ∷ 16 ∷ 3 ∷ []) i 0 ≤ 16
pieces_short zero = omega arith
pieces_short (suc zero) = omega arith
pieces_short (suc (suc zero)) = omega arith
pieces_short (suc (suc (suc zero))) = omega arith
pieces_short (suc (suc (suc (suc zero)))) = omega arith
pieces_short (suc (suc (suc (suc (suc zero))))) = omega arith
pieces_short (suc (suc (suc (suc (suc (suc i)))))) = omega arith

pub are_all_right-requires-clause-few : goal.are_all_right-requires-clause-few
are_all_right-requires-clause-few c = pieces_short c.loop-count.count-index
