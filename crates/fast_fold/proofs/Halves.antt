-- A fold sum of twice as many rows is one of the first half and one of the second.
use Rattle.std.proofs.Common.{◌≡◌, ℕ, ◌+◌, ◌-◌, ◌*◌, ◌/◌, ◌%◌, ◌^◌, ◌<◌, ◌≤◌, List, take, drop, sum_by, slice_index, sym, ap, ◌∙◌, arith}
use Rattle.std.specs.List.{range_with_len}
use Rattle.std.proofs.lemmas.List.{get_or-drop, get_or-take, drop-drop}
use Rattle.std.proofs.lemmas.Nat.{pow-add, pow_pos, mul-add-lt}
use Rattle.std.proofs.Math.Nat.{mod-add-mod, mod-lt, mul-le-mul_right, le_of_mul-le-mul_left}
use Rattle.std.proofs.Math.Pow.{pow_mono}
use Rattle.search_model.specs.Folds.{shift, fold_sum}
use Rattle.fast_fold.specs.Folding.{block_of}
use Rattle.fast_fold.proofs.Ranges.{same_terms, split_terms, bounded_terms}
use Rattle.fast_fold.proofs.Bits.{shift_low, shift_high}

pub twice : (r : ℕ) → 2 ^ (r + 1) ≡ 2 ^ r + 2 ^ r
twice r = pow-add 2 r 1 ∙ omega arith

-- what row i gives to a phase of a trial
value : List ℕ → ℕ → ℕ → ℕ → ℕ → ℕ → ℕ
value ys p r j q i = slice_index ys (i * p + (q + shift r j i) % p)

second_row : (ys : List ℕ) (p r j q i : ℕ) → i < 2 ^ r
    → value ys p (r + 1) j q (2 ^ r + i) ≡ value (drop (2 ^ r * p) ys) p r (j / 2) ((q + (j + 1) / 2) % p) i
unfolding value
second_row ys p r j q i lt =
    let s : ℕ = shift r (j / 2) i in
    let t : ℕ = (j + 1) / 2 in
    let phase : (q + shift (r + 1) j (2 ^ r + i)) % p ≡ ((q + t) % p + s) % p =
    ap (λ x. (q + x) % p) (shift_high r j i lt)
    ∙ ap (λ x. x % p) (let e : q + (t + s) ≡ (q + t) + s = omega arith in e)
    ∙ sym (mod-add-mod (q + t) p s) in
    ap (λ x. slice_index ys ((2 ^ r + i) * p + x)) phase
    ∙ ap (λ k. slice_index ys k)
    (let e : (2 ^ r + i) * p + ((q + t) % p + s) % p ≡ 2 ^ r * p + (i * p + ((q + t) % p + s) % p) = omega arith in e)
    ∙ sym (get_or-drop (2 ^ r * p) ys (i * p + ((q + t) % p + s) % p) 0)

pub fold_halves : (ys : List ℕ) (p r j q : ℕ)
    → fold_sum ys p (r + 1) j q
    ≡ fold_sum ys p r (j / 2) q + fold_sum (drop (2 ^ r * p) ys) p r (j / 2) ((q + (j + 1) / 2) % p)
unfolding value
fold_halves ys p r j q =
    let f : ℕ → ℕ = λ i. value ys p (r + 1) j q i in
    ap (λ n. sum_by f (range_with_len 0 n)) (twice r)
    ∙ split_terms f (2 ^ r) (2 ^ r)
    ∙ ap (λ s. s + sum_by (λ i. f (2 ^ r + i)) (range_with_len 0 (2 ^ r)))
    (same_terms f (λ i. value ys p r (j / 2) q i) (2 ^ r)
    (λ i h. ap (λ x. slice_index ys (i * p + (q + x) % p)) (shift_low r j i h)))
    ∙ ap (λ s. fold_sum ys p r (j / 2) q + s)
    (same_terms (λ i. f (2 ^ r + i)) (λ i. value (drop (2 ^ r * p) ys) p r (j / 2) ((q + (j + 1) / 2) % p) i) (2 ^ r)
    (λ i h. second_row ys p r j q i h))

-- a fold sum sees the rows alone
pub of_rows : (ys : List ℕ) (p r j q : ℕ) → 0 < p → fold_sum (take (2 ^ r * p) ys) p r j q ≡ fold_sum ys p r j q
unfolding value
of_rows ys p r j q phases =
    same_terms (λ i. value (take (2 ^ r * p) ys) p r j q i) (λ i. value ys p r j q i) (2 ^ r)
    (λ i h.
    let phase : (q + shift r j i) % p < p = mod-lt (q + shift r j i) phases in
    let inside : i * p + (q + shift r j i) % p < 2 ^ r * p =
    omega (arith, mul-add-lt i p ((q + shift r j i) % p) (2 ^ r) h phase) in
    get_or-take (2 ^ r * p) ys (i * p + (q + shift r j i) % p) 0 inside)

-- the fold sum of a block, of the fold sums of its halves
pub block_halves : (ys : List ℕ) (p r b j q : ℕ) → 0 < p
    → fold_sum (block_of ys p (r + 1) b) p (r + 1) j q
    ≡ fold_sum (block_of ys p r (2 * b)) p r (j / 2) q
    + fold_sum (block_of ys p r (2 * b + 1)) p r (j / 2) ((q + (j + 1) / 2) % p)
block_halves ys p r b j q phases =
    let turned : ℕ = (q + (j + 1) / 2) % p in
    let start : b * (2 ^ (r + 1) * p) ≡ 2 * b * (2 ^ r * p) = ap (λ x. b * (x * p)) (twice r) ∙ omega arith in
    let second : 2 * b * (2 ^ r * p) + 2 ^ r * p ≡ (2 * b + 1) * (2 ^ r * p) = omega arith in
    let rows = drop (2 * b * (2 ^ r * p)) ys in
    of_rows (drop (b * (2 ^ (r + 1) * p)) ys) p (r + 1) j q phases
    ∙ ap (λ n. fold_sum (drop n ys) p (r + 1) j q) start
    ∙ fold_halves rows p r j q
    ∙ ap (λ s. s + fold_sum (drop (2 ^ r * p) rows) p r (j / 2) turned) (sym (of_rows rows p r (j / 2) q phases))
    ∙ ap (λ xs. fold_sum (block_of ys p r (2 * b)) p r (j / 2) q + fold_sum xs p r (j / 2) turned)
    (drop-drop (2 ^ r * p) (2 * b * (2 ^ r * p)) ys ∙ ap (λ n. drop n ys) second)
    ∙ ap (λ s. fold_sum (block_of ys p r (2 * b)) p r (j / 2) q + s)
    (sym (of_rows (drop ((2 * b + 1) * (2 ^ r * p)) ys) p r (j / 2) turned phases))

-- where 2^m times each value of 2^m rows fits, a fold sum of a block fits
pub block_fits : (ys : List ℕ) (p m r b j q : ℕ) → 0 < p → r ≤ m → b < 2 ^ (m - r)
    → ((k : ℕ) → k < 2 ^ m * p → slice_index ys k * 2 ^ m < 2 ^ 32)
    → fold_sum (block_of ys p r b) p r j q < 2 ^ 32
unfolding value
block_fits ys p m r b j q phases le lt fits =
    let rows = drop (b * (2 ^ r * p)) ys in
    let s : ℕ = fold_sum rows p r j q in
    let most : ℕ = 2 ^ 32 - 1 in
    let whole : 2 ^ m ≡ 2 ^ (m - r) * 2 ^ r =
    ap (λ n. 2 ^ n) (let e : m ≡ (m - r) + r = omega arith in e) ∙ pow-add 2 (m - r) r in
    let bound = bounded_terms (λ i. value rows p r j q i) (2 ^ r) (2 ^ m) most
    (λ i h.
    let phase : (q + shift r j i) % p < p = mod-lt (q + shift r j i) phases in
    let row : b * 2 ^ r + i < 2 ^ m = omega (arith, whole, mul-add-lt b (2 ^ r) i (2 ^ (m - r)) lt h) in
    let inside = mul-add-lt (b * 2 ^ r + i) p ((q + shift r j i) % p) (2 ^ m) row phase in
    let at = get_or-drop (b * (2 ^ r * p)) ys (i * p + (q + shift r j i) % p) 0 in
    let place : b * (2 ^ r * p) + (i * p + (q + shift r j i) % p) < 2 ^ m * p = omega (arith, inside) in
    let fit = fits (b * (2 ^ r * p) + (i * p + (q + shift r j i) % p)) place in
    let scaled = ap (λ x. x * 2 ^ m) at in
    omega (arith, fit, scaled)) in
    let fewer : 2 ^ r ≤ 2 ^ m = pow_mono le in
    let less : 2 ^ r * most ≤ 2 ^ m * most = mul-le-mul_right most fewer in
    let all : 2 ^ m * s ≤ 2 ^ m * most = omega (arith, bound, less) in
    let small : s ≤ most = le_of_mul-le-mul_left all (pow_pos m) in
    let same = of_rows rows p r j q phases in
    omega (arith, small, same)
