-- A sum over the numbers below n, one number more.
use Rattle.std.proofs.Common.{◌≡◌, ℕ, ◌+◌, sum_by, sym, ap, ◌∙◌, arith}
use Rattle.std.specs.List.{range_with_len}
use Rattle.std.proofs.lemmas.List.Sums.{sum-map}
use Rattle.std.proofs.lemmas.List.FromFn.{sum_by-map-range_with_len_more}

pub one_more : (f : ℕ → ℕ) (n : ℕ) → sum_by f (range_with_len 0 (n + 1)) ≡ sum_by f (range_with_len 0 n) + f n
one_more f n =
    sym (sum-map f (range_with_len 0 (n + 1)))
    ∙ sum_by-map-range_with_len_more (λ x. x) f 0 n n (omega arith)
    ∙ ap (λ s. s + f n) (sum-map f (range_with_len 0 n))
