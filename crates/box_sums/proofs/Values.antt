-- The values that a sum of the last ones adds, one by one.
use Rattle.std.proofs.Common.{◌≡◌, ℕ, zero, suc, ◌+◌, ◌-◌, ◌<◌, inl, inr, List, length, slice_index, sum, sum_by, take, drop, ◌∙◌, sym, ap, arith, length-take-le, add-one, nat_le, cond, true, false}
use Rattle.std.specs.List.{range_with_len}
use Rattle.std.proofs.lemmas.Bool.{cases_lt}
use Rattle.std.proofs.lemmas.Bool.Decides.{nat_tests}
use Rattle.std.proofs.lemmas.List.{get_or-take, drop_all}
use Rattle.std.proofs.lemmas.List.Sums.{sum-map, sum_by-drop_more}
use Rattle.std.proofs.lemmas.List.FromFn.{sum_by-map-range_with_len_more}
use Rattle.box_sums.specs.Rows.{sum_ending, value_before}

next : (f : ℕ → ℕ) (n : ℕ) → sum_by f (range_with_len 0 (suc n)) ≡ sum_by f (range_with_len 0 n) + f n
next f n =
    ap (λ k. sum_by f (range_with_len 0 k)) (sym (add-one n))
    ∙ sym (sum-map f (range_with_len 0 (n + 1)))
    ∙ sum_by-map-range_with_len_more (λ x. x) f 0 n n (omega arith)
    ∙ ap (λ s. s + f n) (sum-map f (range_with_len 0 n))

-- one value more, before the others
one_before : (xs : List ℕ) (k w : ℕ) → k < length xs → sum_ending xs k (suc w) ≡ sum_ending xs k w + value_before xs k w
one_before xs k w lt = elim (cases_lt k w) [
  | inl past ↦
      let none : nat_le w k ≡ false = grind (arith, nat_tests) in
      let start : k + 1 - suc w ≡ k + 1 - w = omega arith in
      ap (λ n. sum (drop n (take (k + 1) xs))) start
      ∙ (let nothing : value_before xs k w ≡ 0 = ap (λ b. cond b (slice_index xs (k - w)) 0) none in
      omega (arith, nothing))
  | inr inside ↦
      let some : nat_le w k ≡ true = grind (arith, nat_tests) in
      let front = take (k + 1) xs in
      let long : length front ≡ k + 1 = length-take-le (k + 1) xs (omega arith) in
      let start : k + 1 - suc w ≡ k - w = omega arith in
      let rest : k - w + 1 ≡ k + 1 - w = omega arith in
      let more = sum_by-drop_more (λ x. x) front (k - w) 0 (omega arith) in
      let value = get_or-take (k + 1) xs (k - w) 0 (let l : k - w < k + 1 = omega arith in l) in
      let same : value_before xs k w ≡ slice_index xs (k - w) = ap (λ b. cond b (slice_index xs (k - w)) 0) some in
      let first = ap (λ n. sum (drop n front)) start in
      let others = ap (λ n. sum (drop n front)) rest in
      omega (arith, more, value, same, first, others)
]

pub adds_values : (xs : List ℕ) (k w : ℕ) → k < length xs
    → sum_ending xs k w ≡ sum_by (λ i. value_before xs k i) (range_with_len 0 w)
adds_values xs k zero lt =
    let long : length (take (k + 1) xs) ≡ k + 1 = length-take-le (k + 1) xs (omega arith) in
    let none = drop_all (k + 1 - zero) (take (k + 1) xs) (omega arith) in
    ap (λ ys. sum ys) none
adds_values xs k (suc w) lt =
    one_before xs k w lt
    ∙ ap (λ s. s + value_before xs k w) (adds_values xs k w lt)
    ∙ sym (next (λ i. value_before xs k i) w)
