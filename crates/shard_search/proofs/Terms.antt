-- Sums over a range of numbers.
use Rattle.std.proofs.Common.{◌≡◌, ℕ, zero, suc, ◌+◌, ◌<◌, sum_by, sym, ◌∙◌, ap, arith, add-one, refl}
use Rattle.std.specs.List.{range_with_len}
use Rattle.std.proofs.lemmas.List.Sums.{sum-map}
use Rattle.std.proofs.lemmas.List.FromFn.{sum_by-map-range_with_len_more}

next_term : (f : ℕ → ℕ) (n : ℕ) → sum_by f (range_with_len 0 (suc n)) ≡ sum_by f (range_with_len 0 n) + f n
next_term f n =
    ap (λ k. sum_by f (range_with_len 0 k)) (sym (add-one n))
    ∙ sym (sum-map f (range_with_len 0 (n + 1)))
    ∙ sum_by-map-range_with_len_more (λ x. x) f 0 n n (omega arith)
    ∙ ap (λ s. s + f n) (sum-map f (range_with_len 0 n))

pub one_term : (f : ℕ → ℕ) → sum_by f (range_with_len 0 1) ≡ f 0
one_term f = omega arith

-- terms that are equal at each number
pub same_terms : (f g : ℕ → ℕ) (n : ℕ) → ((i : ℕ) → i < n → f i ≡ g i) →
    sum_by f (range_with_len 0 n) ≡ sum_by g (range_with_len 0 n)
same_terms f g zero same = refl
same_terms f g (suc n) same =
    next_term f n ∙ ap (λ s. s + f n) (same_terms f g n (λ i below. same i (omega arith)))
    ∙ ap (λ s. sum_by g (range_with_len 0 n) + s) (same n (omega arith)) ∙ sym (next_term g n)
