-- A box in what is kept is a sum that ends at a place of the list fed.
use Rattle.std.proofs.Common.{◌≡◌, ℕ, zero, suc, ◌+◌, ◌-◌, ◌<◌, ◌≤◌, List, length, sum, take, drop, replicate, ◌∷◌, ◌++◌, ◌∙◌, sym, ap, arith}
use Rattle.std.proofs.lemmas.List.{take-take, drop-drop, drop-take}
use Rattle.std.proofs.lemmas.List.Sums.{sum_by-cons}
use Rattle.fdmt_rows.specs.Rows.{sum_from}
use Rattle.box_sums.specs.Rows.{sum_ending, Keeps}

-- zeros before a list add nothing
zeros : (r e : ℕ) (ys : List ℕ) → sum (drop e (replicate r 0 ++ ys)) ≡ sum (drop (e - r) ys)
zeros zero e ys = ap (λ n. sum (drop n ys)) (let k : e ≡ e - zero = omega arith in k)
zeros (suc r) zero ys =
    sum_by-cons (λ x. x) 0 (replicate r 0 ++ ys)
    ∙ (let whole = zeros r zero ys in
    let first : sum (drop (zero - r) ys) ≡ sum (drop (zero - suc r) ys) =
    ap (λ n. sum (drop n ys)) (let k : zero - r ≡ zero - suc r = omega arith in k) in
    omega (arith, whole, first))
zeros (suc r) (suc e) ys =
    zeros r e ys ∙ ap (λ n. sum (drop n ys)) (let k : e - r ≡ suc e - suc r = omega arith in k)

-- the front of a list with zeros before it
front : (r n : ℕ) (xs : List ℕ) → take (r + n) (replicate r 0 ++ xs) ≡ replicate r 0 ++ take n xs
front zero n xs = ap (λ k. take k xs) (let e : zero + n ≡ n = omega arith in e)
front (suc r) n xs =
    ap (λ k. take k (0 ∷ (replicate r 0 ++ xs))) (let e : suc r + n ≡ suc (r + n) = omega arith in e)
    ∙ ap (λ ys. 0 ∷ ys) (front r n xs)

pub box_is_ending : (row xs : List ℕ) (reach n k w : ℕ) → Keeps row reach n xs → k < n → w ≤ reach + 1
    → sum_from row (reach + 1 - w + k) w ≡ sum_ending xs (length xs - n + k) w
box_is_ending row xs reach n k w keeps lt narrow =
    let start : ℕ = reach + 1 - w + k in
    let end : ℕ = length xs - n + k in
    let all = replicate reach 0 ++ xs in
    let some : n ≤ length xs = keeps.some in
    let early : ℕ = length xs - n + start in
    let total : early + w ≡ reach + (end + 1) = omega arith in
    let back : early - reach ≡ end + 1 - w = omega arith in
    ap (λ ys. sum ys)
    (sym (drop-take start w row)
    ∙ ap (λ ys. drop start ys) (sym (take-take (start + w) (reach + n) row (omega arith)))
    ∙ drop-take start w (take (reach + n) row)
    ∙ ap (λ ys. take w (drop start ys)) keeps.last
    ∙ ap (λ ys. take w ys) (drop-drop start (length xs - n) all)
    ∙ sym (drop-take early w all)
    ∙ ap (λ m. drop early (take m all)) total
    ∙ ap (λ ys. drop early ys) (front reach (end + 1) xs))
    ∙ zeros reach early (take (end + 1) xs)
    ∙ ap (λ m. sum (drop m (take (end + 1) xs))) back
