-- The sums of one spectrum more; and the scale of a cell, from sums of all its values and then of those near their mean.
use Rattle.std.proofs.Common.{◌≡◌, ℕ, zero, suc, ◌+◌, ◌*◌, ◌<◌, ◌≤◌, inl, inr, ◌⊎◌, Bool, true, false, cond, List, length, slice_index, sym, ◌∙◌, ap, refl, arith, ◌-◌, eqb, map, subst}
use Rattle.std.proofs.Math.Nat.{mul-le-mul}
use Rattle.std.proofs.lemmas.Bool.{cases_lt}
use Rattle.std.proofs.lemmas.List.{get_or_past}
use Rattle.band_level.specs.Columns.{AddsFar, AreBelow, AreFarSums, AreSmall, AreTotals, far_part, is_far, AreNear, LeavesOut, column, near_column, is_between, moments_held, MomentsWithin}
use Rattle.band_level.proofs.Ranges.{filtered_sum_more, filtered_length_more, mapped_sum_more, all_of, few_left, filters_agree}
use Rattle.std.specs.List.{All, range_with_len, sum_by, filter}
use Rattle.std.proofs.lemmas.Bool.Decides.{nat_tests}
use Rattle.std.proofs.lemmas.List.Elements.{All-filter}
use Rattle.std.proofs.lemmas.List.Filters.{length-filter_both, sum_by-filter_both}
use Rattle.std.proofs.lemmas.List.Sums.{sum_by-le}
use Rattle.std.proofs.lemmas.List.FromFn.{length-map-range_with_len}
use Rattle.band_level.specs.declared.plan.Plan.{Plan}
use Rattle.band_level.specs.Moments.{Moments, moments, near_values, fair_moments, is_near}
use Rattle.band_level.specs.Rows.{SetsScales}
use Rattle.band_level.specs.Scales.{Scale, scale_of}

pub sums_more : (value : ℕ → ℕ → ℕ) (cells n : ℕ)
    (lows highs row counts totals squares counts' totals' squares' : List ℕ)
    → AreFarSums value cells n lows highs counts totals squares
    → AddsFar lows highs row counts totals squares counts' totals' squares'
    → length row ≡ cells → ((i : ℕ) → i < cells → slice_index row i ≡ value n i)
    → AreFarSums value cells (n + 1) lows highs counts' totals' squares'
sums_more value cells n lows highs row counts totals squares counts' totals' squares' sums adds long is = record {
  count = λ i lt. rw (adds.count i (omega arith), is i lt, sums.count i lt)
      (sym (filtered_length_more (λ t. value t i) (is_far (slice_index lows i) (slice_index highs i)) n));
  total = λ i lt. rw (adds.total i (omega arith), is i lt, sums.total i lt)
      (sym (filtered_sum_more (λ x. x) (λ t. value t i) (is_far (slice_index lows i) (slice_index highs i)) n));
  square = λ i lt. rw (adds.square i (omega arith), is i lt, sums.square i lt)
      (sym (filtered_sum_more (λ x. x * x) (λ t. value t i) (is_far (slice_index lows i) (slice_index highs i)) n));
}

-- a value that is added, at most so many times as one is counted
part_most : (low high x y most : ℕ) → y ≤ most → far_part low high x y ≤ far_part low high x 1 * most
part_most low high x y most small = elim (is_far low high x) as (λ b. cond b y 0 ≤ cond b 1 0 * most) [
  | true ↦ omega arith
  | false ↦ omega arith
]

-- the square of what is counted of a value
part_square : (low high x : ℕ) → far_part low high x x * far_part low high x x ≡ far_part low high x (x * x)
part_square low high x = elim (is_far low high x)
    as (λ b. cond b x 0 * cond b x 0 ≡ cond b (x * x) 0) [
      | true ↦ refl
      | false ↦ refl
    ]

-- a row whose values beyond the bounds were kept
pub adds_kept : (lows highs row kept counts totals squares counts' totals' squares' : List ℕ) → length kept ≡ length row
    → ((i : ℕ) → i < length row → slice_index kept i
    ≡ far_part (slice_index lows i) (slice_index highs i) (slice_index row i) (slice_index row i))
    → ((i : ℕ) → i < length row → slice_index counts' i ≡ slice_index counts i
    + far_part (slice_index lows i) (slice_index highs i) (slice_index row i) 1)
    → ((i : ℕ) → i < length kept → slice_index totals' i ≡ slice_index totals i + slice_index kept i)
    → ((i : ℕ) → i < length kept → slice_index squares' i
    ≡ slice_index squares i + slice_index kept i * slice_index kept i)
    → AddsFar lows highs row counts totals squares counts' totals' squares'
adds_kept lows highs row kept counts totals squares counts' totals' squares' long keeps count total square = record {
  count = count;
  total = λ i lt. rw (total i (omega arith), keeps i lt) refl;
  square = λ i lt. rw (square i (omega arith), keeps i lt)
      (ap (λ v. slice_index squares i + v) (part_square (slice_index lows i) (slice_index highs i) (slice_index row i)));
}

part_one : (low high x : ℕ) → far_part low high x 1 ≤ 1
part_one low high x = elim (is_far low high x) as (λ b. cond b 1 0 ≤ 1) [
  | true ↦ omega arith
  | false ↦ omega arith
]

-- no moments lie beyond all cells
none_past : (n cells i : ℕ) (counts totals squares : List ℕ) → length counts ≡ cells → length totals ≡ cells
    → length squares ≡ cells → cells ≤ i → MomentsWithin n (moments_held counts totals squares i)
none_past n cells i counts totals squares lc lt ls past = record {
  count = omega (arith, get_or_past counts i 0 (omega arith));
  total = omega (arith, get_or_past totals i 0 (omega arith));
  squares = omega (arith, get_or_past squares i 0 (omega arith));
}

pub small_more : (n : ℕ) (lows highs row counts totals squares counts' totals' squares' : List ℕ)
    → AreSmall n counts totals squares
    → AddsFar lows highs row counts totals squares counts' totals' squares'
    → ((i : ℕ) → slice_index row i ≤ 4194303)
    → length counts' ≡ length row → length totals' ≡ length row → length squares' ≡ length row
    → AreSmall (n + 1) counts' totals' squares'
small_more n lows highs row counts totals squares counts' totals' squares' small adds values lc lt ls i =
    elim (cases_lt i (length row)) [
      | inl h ↦
          let low = slice_index lows i in
          let high = slice_index highs i in
          let x = slice_index row i in
          let before = small i in
          let e : x * x ≤ 4194303 * 4194303 = mul-le-mul (values i) (values i) in
          record {
            count = omega (arith, adds.count i h, before.count, part_one low high x);
            total = omega (arith, adds.count i h, adds.total i h, before.total, part_most low high x x 4194303 (values i));
            squares = omega (
              arith,
              adds.count i h,
              adds.square i h,
              before.squares,
              part_most low high x (x * x) 17592177655809 (omega (arith, e)),
            );
          }
      | inr h ↦ none_past (n + 1) (length row) i counts' totals' squares' lc lt ls h
    ]

-- a row of which none lies beyond the bounds
part_none : (low high x y : ℕ) → far_part low high x 1 ≡ 0 → far_part low high x y ≡ 0
part_none low high x y none = of_test (is_far low high x) y none
  where
    of_test : (b : Bool) (y : ℕ) → cond b (suc zero) zero ≡ zero → cond b y zero ≡ zero
    of_test true y h = absurd (omega arith)
    of_test false y h = refl

more_none : (a b : ℕ) → b ≡ 0 → a ≡ a + b
more_none a b none = omega arith

pub adds_none : (lows highs row counts totals squares : List ℕ)
    → ((i : ℕ) → i < length row
    → far_part (slice_index lows i) (slice_index highs i) (slice_index row i) 1 ≡ 0)
    → AddsFar lows highs row counts totals squares counts totals squares
adds_none lows highs row counts totals squares none = record {
  count = λ i lt. more_none _ _ (none i lt);
  total = λ i lt. more_none _ _ (part_none (slice_index lows i) (slice_index highs i) (slice_index row i) _ (none i lt));
  square = λ i lt. more_none _ _ (part_none (slice_index lows i) (slice_index highs i) (slice_index row i) _ (none i lt));
}

pub small_on : (n : ℕ) (counts totals squares : List ℕ) → AreSmall n counts totals squares
    → AreSmall (n + 1) counts totals squares
small_on n counts totals squares small i =
    let s = small i in record { count = omega arith; total = s.total; squares = s.squares }

-- ---- the sums of all values

pub totals_more : (value : ℕ → ℕ → ℕ) (cells n : ℕ) (row totals squares totals' squares' : List ℕ)
    → AreTotals value cells n totals squares
    → ((i : ℕ) → i < length row → slice_index totals' i ≡ slice_index totals i + slice_index row i)
    → ((i : ℕ) → i < length row → slice_index squares' i
    ≡ slice_index squares i + slice_index row i * slice_index row i)
    → length row ≡ cells → ((i : ℕ) → i < cells → slice_index row i ≡ value n i)
    → AreTotals value cells (n + 1) totals' squares'
totals_more value cells n row totals squares totals' squares' sums total square long is = record {
  total = λ i lt. rw (total i (omega arith), is i lt, sums.total i lt) (sym (mapped_sum_more (λ x. x) (λ t. value t i) n));
  square = λ i lt. rw (square i (omega arith), is i lt, sums.square i lt)
      (sym (mapped_sum_more (λ x. x * x) (λ t. value t i) n));
}

pub below_more : (n : ℕ) (row totals squares totals' squares' : List ℕ) → AreBelow n totals squares
    → ((i : ℕ) → slice_index row i ≤ 4194303)
    → length totals' ≡ length row → length squares' ≡ length row
    → ((i : ℕ) → i < length row → slice_index totals' i ≡ slice_index totals i + slice_index row i)
    → ((i : ℕ) → i < length row → slice_index squares' i
    ≡ slice_index squares i + slice_index row i * slice_index row i)
    → AreBelow (n + 1) totals' squares'
below_more n row totals squares totals' squares' below values lt ls total square = record {
  total = λ i. elim (cases_lt i (length row)) [
    | inl h ↦ omega (arith, total i h, below.total i, values i)
    | inr h ↦ omega (arith, get_or_past totals' i 0 (omega arith))
  ];
  square = λ i. elim (cases_lt i (length row)) [
    | inl h ↦
        let e : slice_index row i * slice_index row i ≤ 4194303 * 4194303 = mul-le-mul (values i) (values i) in
        omega (arith, square i h, below.square i, e)
    | inr h ↦ omega (arith, get_or_past squares' i 0 (omega arith))
  ];
}

-- ---- all values

-- values were counted of each cell
pub some_counted : (value : ℕ → ℕ → ℕ) (cells n : ℕ) (counts totals squares : List ℕ) → 0 < n
    → ((i : ℕ) → i < cells → moments_held counts totals squares i ≡ moments (column value n i))
    → (i : ℕ) → i < cells → 0 < slice_index counts i
some_counted value cells n counts totals squares some all i here =
    let count = ap (λ (m : Moments). m.count) (all i here) in
    omega (arith, count, length-map-range_with_len (λ t. value t i) 0 n)

pub all_moments : (value : ℕ → ℕ → ℕ) (cells n : ℕ) (counts totals squares : List ℕ)
    → ((i : ℕ) → i < cells → slice_index counts i ≡ n) → AreTotals value cells n totals squares
    → (i : ℕ) → i < cells → moments_held counts totals squares i ≡ moments (column value n i)
all_moments value cells n counts totals squares counted sums i here =
    rw (counted i here, sums.total i here, sums.square i here, length-map-range_with_len (λ t. value t i) 0 n) refl

pub all_small : (cells n : ℕ) (counts totals squares : List ℕ) → n ≤ 1048576
    → length counts ≡ cells → length totals ≡ cells → length squares ≡ cells
    → ((i : ℕ) → i < cells → slice_index counts i ≡ n) → AreBelow n totals squares
    → AreSmall 1048576 counts totals squares
all_small cells n counts totals squares few lc lt ls counted below i = elim (cases_lt i cells) [
  | inl h ↦ record {
    count = omega (arith, counted i h);
    total = omega (arith, counted i h, below.total i);
    squares = omega (arith, counted i h, below.square i);
  }
  | inr h ↦ none_past 1048576 cells i counts totals squares lc lt ls h
]

-- ---- values between the bounds

pub near_moments : (value : ℕ → ℕ → ℕ) (cells n : ℕ) (lows highs counts totals squares far_counts far_totals far_squares
    counts' totals' squares' : List ℕ)
    → ((i : ℕ) → i < cells → moments_held counts totals squares i ≡ moments (column value n i))
    → AreFarSums value cells n lows highs far_counts far_totals far_squares
    → LeavesOut cells counts totals squares far_counts far_totals far_squares counts' totals' squares'
    → (i : ℕ) → i < cells
    → moments_held counts' totals' squares' i ≡ moments (near_column value lows highs n i)
near_moments value cells n lows highs counts totals squares far_counts far_totals far_squares counts' totals' squares'
    all far leaves i here =
    let xs = column value n i in
    let p = is_between (slice_index lows i) (slice_index highs i) in
    let q = is_far (slice_index lows i) (slice_index highs i) in
    let is = all i here in
    let counted : slice_index counts i ≡ length xs = ap (λ (m : Moments). m.count) is in
    let summed : slice_index totals i ≡ sum_by (λ x. x) xs = ap (λ (m : Moments). m.total) is in
    let squared : slice_index squares i ≡ sum_by (λ x. x * x) xs = ap (λ (m : Moments). m.squares) is in
    let count : slice_index counts' i ≡ length (filter p xs) =
    omega (arith, counted, leaves.count i here, far.count i here, length-filter_both p q (λ x. refl) xs) in
    let total : slice_index totals' i ≡ sum_by (λ x. x) (filter p xs) =
    omega (arith, summed, leaves.total i here, far.total i here, sum_by-filter_both p q (λ x. refl) (λ x. x) xs) in
    let square : slice_index squares' i ≡ sum_by (λ x. x * x) (filter p xs) =
    omega (arith, squared, leaves.square i here, far.square i here, sum_by-filter_both p q (λ x. refl) (λ x. x * x) xs) in
    rw (count, total, square) refl

pub near_small : (value : ℕ → ℕ → ℕ) (cells n : ℕ) (lows highs counts totals squares : List ℕ) → n ≤ 1048576
    → length counts ≡ cells → length totals ≡ cells → length squares ≡ cells
    → ((t i : ℕ) → t < n → i < cells → value t i ≤ 4194303)
    → ((i : ℕ) → i < cells → moments_held counts totals squares i ≡ moments (near_column value lows highs n i))
    → AreSmall 1048576 counts totals squares
near_small value cells n lows highs counts totals squares few lc lt ls small near i = elim (cases_lt i cells) [
  | inl h ↦
      let xs = column value n i in
      let p = is_between (slice_index lows i) (slice_index highs i) in
      let within = all_of (λ x. x ≤ 4194303) (λ t. value t i) n (λ t from. small t i from h) in
      let squares_within = all_of (λ x. x * x ≤ 17592177655809) (λ t. value t i) n
      (λ t from. let e = mul-le-mul (small t i from h) (small t i from h) in omega (arith, e)) in
      subst (MomentsWithin 1048576) (sym (near i h))
      record {
        count = omega (arith, few_left p xs, length-map-range_with_len (λ t. value t i) 0 n);
        total = sum_by-le (λ x. x) 4194303 (filter p xs) (All-filter p (λ x. x ≤ 4194303) xs within);
        squares = sum_by-le (λ x. x * x) 17592177655809 (filter p xs)
            (All-filter p (λ x. x * x ≤ 17592177655809) xs squares_within);
      }
  | inr h ↦ none_past 1048576 cells i counts totals squares lc lt ls h
]

-- the fair moments are those of the values near the mean, where some are there, or else of all
pub fair_where : (xs : List ℕ) → ((0 < length (near_values xs)) × (fair_moments xs ≡ moments (near_values xs)))
    ⊎ ((length (near_values xs) ≡ 0) × (fair_moments xs ≡ moments xs))
fair_where xs = elim (cases_lt 0 (length (near_values xs))) [
  | inl there ↦
      let test : eqb (length (near_values xs)) 0 ≡ false = grind (arith, nat_tests) in inl (there, rw test refl)
  | inr nowhere ↦
      let test : eqb (length (near_values xs)) 0 ≡ true = grind (arith, nat_tests) in inr (omega arith, rw test refl)
]

pub fair_scales : (p : Plan) (mark : ℕ → Bool) (value : ℕ → ℕ → ℕ) (cells n : ℕ)
    (counts totals squares lows highs counts' totals' squares' : List ℕ)
    (scale scale' scale'' : ℕ → Scale)
    → ((t i : ℕ) → t < n → i < cells → value t i ≤ 4194303)
    → ((i : ℕ) → i < cells → moments_held counts totals squares i ≡ moments (column value n i))
    → ((i : ℕ) → i < cells → 0 < slice_index counts i)
    → AreNear cells counts totals squares lows highs
    → SetsScales cells p mark (moments_held counts totals squares) scale scale'
    → ((i : ℕ) → i < cells → moments_held counts' totals' squares' i ≡ moments (near_column value lows highs n i))
    → SetsScales cells p mark (moments_held counts' totals' squares') scale' scale''
    → (i : ℕ) → i < cells
    → scale'' i ≡ scale_of p (mark i) (fair_moments (column value n i))
fair_scales p mark value cells n counts totals squares lows highs counts' totals' squares'
    scale scale' scale'' small all some near set all' set' i here =
    let xs = column value n i in
    let between = is_between (slice_index lows i) (slice_index highs i) in
    let near_mean = is_near (moments xs) in
    let near_ones : near_column value lows highs n i ≡ near_values xs =
    filters_agree between near_mean xs (all_of (λ x. between x ≡ near_mean x) (λ t. value t i) n
    (λ t lt. near.near i (value t i) here (omega (arith, small t i lt here)) ∙ ap (λ m. is_near m (value t i)) (all i here))) in
    let is : moments_held counts' totals' squares' i ≡ moments (near_values xs) = all' i here ∙ ap moments near_ones in
    let count = ap (λ (m : Moments). m.count) is in
    elim (fair_where xs) [
      | inl t ↦ let there = t.0 in set'.set i here (omega arith) ∙ ap (scale_of p (mark i)) (is ∙ sym t.1)
      | inr t ↦
          let none = t.0 in
          set'.kept i (omega arith) ∙ set.set i here (some i here) ∙ ap (scale_of p (mark i)) (all i here ∙ sym t.1)
    ]
