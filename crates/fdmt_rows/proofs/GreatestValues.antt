-- Lane by lane, and then of the lanes, the greatest value of a row.
use Rattle.std.proofs.Common.{◌≡◌, ℕ, ◌+◌, ◌-◌, ◌%◌, ◌<◌, ◌≤◌, inl, inr, List, length, slice_index, get_or, max, zero, suc, ◌⊎◌, ◌∙◌, sym, ap, subst, arith, below_more}
use Rattle.std.proofs.lemmas.Bool.{cases_lt}
use Rattle.std.proofs.lemmas.List.{get_or_past, get_or_default}
use Rattle.fdmt_rows.specs.Lanes.{AreLaneGreatest, IsZeroOrIn}
use Rattle.fdmt_rows.specs.Rows.{IsGreatest}

-- a value of a row is one
pub at_is_in : (row : List ℕ) (k : ℕ) → IsZeroOrIn row (slice_index row k)
at_is_in row k = elim (cases_lt k (length row)) [
  | inl h ↦ inr (k, h, get_or_default row k (get_or row k 0) 0 h)
  | inr h ↦ inl (get_or_past row k 0 h)
]

-- the greater of two is one of them
pub greater_is_in : (row : List ℕ) (x y z : ℕ) → z ≡ max x y
    → IsZeroOrIn row x → IsZeroOrIn row y → IsZeroOrIn row z
greater_is_in row x y z e in_x in_y = elim (cases_lt x y) [
  | inl h ↦ let is : y ≡ z = grind arith in subst (IsZeroOrIn row) is in_y
  | inr h ↦ let is : x ≡ z = grind arith in subst (IsZeroOrIn row) is in_x
]

pub lanes_more : (row lanes new : List ℕ) (done : ℕ) → AreLaneGreatest row lanes done
    → length new ≡ 16
    → ((j : ℕ) → j < 16 → slice_index new j ≡ max (slice_index lanes j) (slice_index row (done + j)))
    → AreLaneGreatest row new (done + 16)
lanes_more row lanes new done so_far long is = record {
  long = long;
  whole = let w : done % 16 ≡ 0 = so_far.whole in omega arith;
  bound = λ k h. elim (cases_lt k done) [
    | inl below ↦
        let b = so_far.bound k below in
        let e = is (k % 16) (omega arith) in
        grind (arith, b, e)
    | inr above ↦
        let w : done % 16 ≡ 0 = so_far.whole in
        let j : ℕ = k - done in
        let at : done + j ≡ k = omega arith in
        let lane : k % 16 ≡ j = omega arith in
        let e = is j (omega arith) in
        let P : ℕ → Type 0 = λ i. slice_index row k ≤ slice_index new i in
        let same : slice_index row (done + j) ≡ slice_index row k = ap (λ i. slice_index row i) at in
        subst P (sym lane) (grind (arith, e, same))
  ];
  found = λ j. elim (cases_lt j 16) [
    | inl below ↦ greater_is_in row _ _ _ (is j below) (so_far.found j) (at_is_in row (done + j))
    | inr above ↦ inl (get_or_past new j 0 (omega arith))
  ];
}

-- one value more
pub one_more : (row : List ℕ) (i x y : ℕ) → y ≡ max x (slice_index row i)
    → ((k : ℕ) → k < i → slice_index row k ≤ x) → (k : ℕ) → k < i + 1 → slice_index row k ≤ y
one_more row i x y e bound = below_more _ _
    (λ k h. let b = bound k h in grind (arith, b, e))
    (grind (arith, e))

-- a bound of all values that is one of them
pub is_greatest : (row : List ℕ) (x : ℕ) → ((k : ℕ) → k < length row → slice_index row k ≤ x) → IsZeroOrIn row x
    → IsGreatest row x
is_greatest row x bound found = record {
  bound = λ k. elim (cases_lt k (length row)) [
    | inl lt ↦ bound k lt
    | inr ge ↦ subst (λ (y : ℕ). y ≤ x) (sym (get_or_past row k 0 ge)) (omega arith)
  ];
  empty = λ none. elim found [
    | inl nothing ↦ nothing
    | inr (k, lt, is) ↦ absurd (omega arith)
  ];
  attained = λ some. elim found [
    | inl nothing ↦
        let b = bound 0 some in
        let first : slice_index row 0 ≡ x = omega arith in
        (0, some, get_or_default row 0 x 0 some ∙ first)
    | inr there ↦ there
  ];
}

-- a bound of a row is one of its values or 0, or above each of its first values
is_in_or_above : (row : List ℕ) (x n : ℕ) → n ≤ length row → ((k : ℕ) → k < length row → slice_index row k ≤ x)
    → IsZeroOrIn row x ⊎ ((k : ℕ) → k < n → slice_index row k < x)
is_in_or_above row x zero within bound = inr (λ k lt. absurd (omega arith))
is_in_or_above row x (suc n) within bound = elim (is_in_or_above row x n (omega arith) bound) [
  | inl found ↦ inl found
  | inr above ↦ elim (cases_lt (slice_index row n) x) [
    | inl lt ↦ inr (λ k first. below_more _ _ above lt k (omega arith))
    | inr ge ↦
        let is : slice_index row n ≡ x = let b = bound n (omega arith) in omega arith in
        inl (subst (IsZeroOrIn row) is (at_is_in row n))
  ]
]

-- the least bound of a row is its greatest value
pub least_bound_is_greatest : (row : List ℕ) (x : ℕ) → ((k : ℕ) → k < length row → slice_index row k ≤ x)
    → ((bound : ℕ) → ((k : ℕ) → slice_index row k ≤ bound) → x ≤ bound) → IsGreatest row x
least_bound_is_greatest row x bound least = is_greatest row x bound (elim
    (is_in_or_above row x (length row) (omega arith) bound) [
      | inl found ↦ found
      | inr above ↦
          let less : x ≤ x - 1 = least (x - 1) (λ k. elim (cases_lt k (length row)) [
            | inl lt ↦ let b = above k lt in omega arith
            | inr past ↦ let none = get_or_past row k 0 past in omega arith
          ]) in
          inl (omega (arith, less))
    ])
