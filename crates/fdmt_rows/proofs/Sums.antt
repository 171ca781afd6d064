-- Sums of neighbours, one value more at a time.
use Rattle.std.proofs.Common.{◌≡◌, ℕ, ◌+◌, ◌^◌, ◌<◌, ◌≤◌, List, length, slice_index, sum_by, take, drop, ◌∙◌, sym, ap, arith, length-drop}
use Rattle.std.proofs.lemmas.List.{get_or-drop, get_or-take, take-take}
use Rattle.std.proofs.lemmas.List.Sums.{sum_by_more, sum_by-take-le}
use Rattle.fdmt_rows.specs.Rows.{sum_from, AddsPlainly}

pub sum_of_more : (row : List ℕ) (k n : ℕ) → k + n < length row
    → sum_from row k (n + 1) ≡ sum_from row k n + slice_index row (k + n)
sum_of_more row k n h =
    let long : n < length (drop k row) = rw length-drop (omega arith) in
    sum_by_more (λ x. x) (drop k row) n 0 long ∙ ap (λ x. sum_from row k n + x) (get_or-drop k row n 0)

-- fewer values sum up to no more
pub sum_of_grows : (row : List ℕ) (k n m : ℕ) → n ≤ m → sum_from row k n ≤ sum_from row k m
sum_of_grows row k n m le =
    let h = sum_by-take-le (λ x. x) (take m (drop k row)) n in
    let e : sum_from row k n ≡ sum_by (λ x. x) (take n (take m (drop k row))) =
    ap (λ xs. sum_by (λ x. x) xs) (sym (take-take n m (drop k row) le)) in
    omega (arith, h, e)

-- a row of sums of n neighbours, to which the values n places later were added
pub one_later : (row before after later : List ℕ) (n count : ℕ) → n + count ≤ length row
    → length before ≡ count
    → later ≡ take count (drop n row)
    → ((k : ℕ) → k < count → slice_index before k ≡ sum_from row k n)
    → ((k : ℕ) → k < count → sum_from row k (n + 1) < 2 ^ 32)
    → AddsPlainly after before later
    → (k : ℕ) → k < count → slice_index after k ≡ sum_from row k (n + 1)
one_later row before after later n count room long is sums fits adds k lt =
    let value : slice_index later k ≡ slice_index row (n + k) =
    ap (λ xs. slice_index xs k) is ∙ get_or-take count (drop n row) k 0 lt ∙ get_or-drop n row k 0 in
    let turned : slice_index row (k + n) ≡ slice_index row (n + k) = ap (λ i. slice_index row i) (omega arith) in
    let step = sum_of_more row k n (omega arith) in
    let old = sums k lt in
    let bound = fits k lt in
    let total : slice_index before k + slice_index later k ≡ sum_from row k (n + 1) = omega arith in
    adds k (omega arith) ∙ total
