-- Sums over the numbers below n.
use Rattle.std.proofs.Common.{◌≡◌, ℕ, zero, suc, ◌+◌, ◌*◌, ◌<◌, ◌≤◌, sum_by, refl, sym, ap, ◌∙◌, arith, add-one}
use Rattle.std.specs.List.{range_with_len}
use Rattle.std.proofs.lemmas.List.Sums.{sum-map}
use Rattle.std.proofs.lemmas.List.FromFn.{sum_by-map-range_with_len_more}

-- one number more
pub one_more : (f : ℕ → ℕ) (n : ℕ) → sum_by f (range_with_len 0 (n + 1)) ≡ sum_by f (range_with_len 0 n) + f n
one_more f n =
    sym (sum-map f (range_with_len 0 (n + 1)))
    ∙ sum_by-map-range_with_len_more (λ x. x) f 0 n n (omega arith)
    ∙ ap (λ s. s + f n) (sum-map f (range_with_len 0 n))

next : (f : ℕ → ℕ) (n : ℕ) → sum_by f (range_with_len 0 (suc n)) ≡ sum_by f (range_with_len 0 n) + f n
next f n = ap (λ k. sum_by f (range_with_len 0 k)) (sym (add-one n)) ∙ one_more f n

pub one_term : (f : ℕ → ℕ) → sum_by f (range_with_len 0 1) ≡ f 0
one_term f = omega arith

-- equal terms
pub same_terms : (f g : ℕ → ℕ) (n : ℕ) → ((i : ℕ) → i < n → f i ≡ g i)
    → sum_by f (range_with_len 0 n) ≡ sum_by g (range_with_len 0 n)
same_terms f g zero same = refl
same_terms f g (suc n) same =
    let front = same_terms f g n (λ i h. same i (omega arith)) in
    let last = same n (omega arith) in
    next f n ∙ ap (λ s. s + f n) front ∙ ap (λ x. sum_by g (range_with_len 0 n) + x) last ∙ sym (next g n)

-- the first n terms and the k after them
pub split_terms : (f : ℕ → ℕ) (n k : ℕ)
    → sum_by f (range_with_len 0 (n + k))
    ≡ sum_by f (range_with_len 0 n) + sum_by (λ i. f (n + i)) (range_with_len 0 k)
split_terms f n zero =
    let whole : sum_by f (range_with_len 0 (n + zero)) ≡ sum_by f (range_with_len 0 n) =
    ap (λ i. sum_by f (range_with_len 0 i)) (let e : n + zero ≡ n = omega arith in e) in
    omega (arith, whole)
split_terms f n (suc k) =
    let whole : sum_by f (range_with_len 0 (n + suc k)) ≡ sum_by f (range_with_len 0 (n + k)) + f (n + k) =
    ap (λ i. sum_by f (range_with_len 0 i)) (let e : n + suc k ≡ suc (n + k) = omega arith in e) ∙ next f (n + k) in
    let front = split_terms f n k in
    let back = next (λ i. f (n + i)) k in
    omega (arith, whole, front, back)

-- terms whose c-fold is bounded
pub bounded_terms : (f : ℕ → ℕ) (n c most : ℕ) → ((i : ℕ) → i < n → f i * c ≤ most)
    → sum_by f (range_with_len 0 n) * c ≤ n * most
bounded_terms f zero c most each = omega arith
bounded_terms f (suc n) c most each =
    let front = bounded_terms f n c most (λ i h. each i (omega arith)) in
    let last = each n (omega arith) in
    let both : (sum_by f (range_with_len 0 n) + f n) * c ≤ suc n * most = omega (arith, front, last) in
    rw (next f n) both
