-- A pair of trials, and a block, more is merged.
use Rattle.std.proofs.Common.{◌≡◌, ℕ, ◌+◌, ◌*◌, ◌/◌, ◌%◌, ◌<◌, ◌≤◌, inl, inr, List, length, slice_index, take, drop, ◌∙◌, refl, sym, ap, subst, arith}
use Rattle.std.proofs.lemmas.Bool.{cases_lt}
use Rattle.std.proofs.lemmas.List.{get_or-take, get_or-drop}
use Rattle.std.proofs.lemmas.Nat.{mul-add-lt}
use Rattle.std.proofs.Math.Nat.{mod-lt, mul-le-mul_right}
use borrow.Rule.Slice.PartMut.{put_mid}
use Rattle.fdmt_rows.specs.Rows.{wrapping_sum}
use Rattle.fast_fold.specs.Merging.{AddsTurned, IsMerged, AreMerged, at, merged_at}
use Rattle.fast_fold.proofs.Parts.{put_before, put_within}

-- a value of the row of a half that a trial is made of
pub first_half : (halves : List ℕ) (p rows i n q : ℕ) → i < rows → q < p → p ≤ n
    → slice_index (take n (drop (i * p) (take (rows * p) halves))) q ≡ at halves p (0 + i) q
first_half halves p rows i n q lt phase le =
    let inside : i * p + q < rows * p = omega (arith, mul-add-lt i p q rows lt phase) in
    get_or-take n (drop (i * p) (take (rows * p) halves)) q 0 (omega arith)
    ∙ get_or-drop (i * p) (take (rows * p) halves) q 0
    ∙ get_or-take (rows * p) halves (i * p + q) 0 inside
    ∙ ap (λ k. slice_index halves (k * p + q)) (omega arith)

pub second_half : (halves : List ℕ) (p rows i n q : ℕ) → q < p → p ≤ n
    → slice_index (take n (drop (i * p) (drop (rows * p) halves))) q ≡ at halves p (rows + i) q
second_half halves p rows i n q phase le =
    get_or-take n (drop (i * p) (drop (rows * p) halves)) q 0 (omega arith)
    ∙ get_or-drop (i * p) (drop (rows * p) halves) q 0
    ∙ get_or-drop (rows * p) halves (i * p + q) 0
    ∙ ap (λ k. slice_index halves k) (omega arith)

-- a value of a trial that was added of the rows of both halves
trial_of : (row first second halves : List ℕ) (p rows i n turn m q : ℕ)
    → 0 < p → i < rows → q < p → p ≤ n → m ≡ p
    → first ≡ take (rows * p) halves → second ≡ drop (rows * p) halves
    → AddsTurned row (take n (drop (i * p) first)) (take n (drop (i * p) second)) m turn
    → slice_index row q ≡ wrapping_sum (at halves p (0 + i) q) (at halves p (rows + i) ((q + turn) % p))
trial_of row first second halves p rows i n turn m q phases lt phase le is_period is_first is_second adds =
    let inside : (q + turn) % p < p = mod-lt (q + turn) phases in
    adds q (omega arith)
    ∙ ap (λ m. wrapping_sum (slice_index (take n (drop (i * p) first)) q)
    (slice_index (take n (drop (i * p) second)) ((q + turn) % m))) is_period
    ∙ ap (λ xs. wrapping_sum (slice_index (take n (drop (i * p) xs)) q)
    (slice_index (take n (drop (i * p) second)) ((q + turn) % p))) is_first
    ∙ ap (λ x. wrapping_sum x (slice_index (take n (drop (i * p) second)) ((q + turn) % p)))
    (first_half halves p rows i n q lt phase le)
    ∙ ap (λ xs. wrapping_sum (at halves p (0 + i) q)
    (slice_index (take n (drop (i * p) xs)) ((q + turn) % p))) is_second
    ∙ ap (λ y. wrapping_sum (at halves p (0 + i) q) y)
    (second_half halves p rows i n ((q + turn) % p) inside le)

-- the row and the turn of a trial
of_trial : (halves : List ℕ) (p rows i j turn q : ℕ) → i / 2 ≡ j → (i + 1) / 2 ≡ turn
    → wrapping_sum (at halves p (0 + j) q) (at halves p (rows + j) ((q + turn) % p))
    ≡ merged_at halves p 0 rows i q
of_trial halves p rows i j turn q is_row is_turn = rw (is_row, is_turn) refl

pub pair_more : (old new first second halves : List ℕ) (p rows j n n' m : ℕ)
    → 0 < p → j < rows → 2 * rows * p ≡ length old → length new ≡ n → n ≡ 2 * p
    → p ≤ n' → m ≡ p
    → first ≡ take (rows * p) halves → second ≡ drop (rows * p) halves
    → AddsTurned new (take n' (drop (j * p) first)) (take n' (drop (j * p) second)) m j
    → AddsTurned (drop m new) (take n' (drop (j * p) first)) (take n' (drop (j * p) second)) m (j + 1)
    → IsMerged old halves p rows (2 * j)
    → IsMerged (put_mid (2 * (j * p)) n old new) halves p rows (2 * (j + 1))
pair_more old new first second halves p rows j n n' m phases lt long long_new whole le is_period is_first is_second
    adds_even adds_odd so_far i q below phase =
    let room : (j + 1) * p ≤ rows * p = mul-le-mul_right p (let l : j + 1 ≤ rows = omega arith in l) in
    let merged = put_mid (2 * (j * p)) n old new in
    let P : ℕ → Type 0 = λ i. at merged p i q ≡ merged_at halves p 0 rows i q in
    elim (cases_lt i (2 * j)) [
      | inl h ↦
          let fits : (i + 1) * p ≤ 2 * j * p = mul-le-mul_right p (let l : i + 1 ≤ 2 * j = omega arith in l) in
          put_before (2 * (j * p)) n old new (i * p + q) (omega arith) (omega arith)
          ∙ so_far i q h phase
      | inr h ↦ elim (cases_lt i (2 * j + 1)) [
        | inl h' ↦
            let is : 2 * j ≡ i = omega arith in
            subst P is
            (put_within (2 * (j * p)) n old new (2 * j * p + q) q (omega arith) (omega arith) (omega arith) long_new
            ∙ trial_of new first second halves p rows j n' j m q phases lt phase le is_period is_first is_second
            adds_even
            ∙ of_trial halves p rows (2 * j) j j q (omega arith) (omega arith))
        | inr h' ↦
            let is : 2 * j + 1 ≡ i = omega arith in
            subst P is
            (put_within (2 * (j * p)) n old new ((2 * j + 1) * p + q) (p + q) (omega arith) (omega arith)
            (omega arith) long_new
            ∙ ap (λ k. slice_index new (k + q)) (sym is_period)
            ∙ sym (get_or-drop m new q 0)
            ∙ trial_of (drop m new) first second halves p rows j n' (j + 1) m q phases lt phase le is_period is_first
            is_second adds_odd
            ∙ of_trial halves p rows (2 * j + 1) j (j + 1) q (omega arith) (omega arith))
      ]
    ]

-- a value of a block, in the whole
of_block : (sums : List ℕ) (p rows b n i q : ℕ) → i < 2 * rows → q < p → 2 * rows * p ≤ n
    → at (take n (drop (b * (2 * rows * p)) sums)) p i q ≡ at sums p (b * (2 * rows) + i) q
of_block sums p rows b n i q lt phase le =
    let inside : i * p + q < 2 * rows * p = omega (arith, mul-add-lt i p q (2 * rows) lt phase) in
    get_or-take n (drop (b * (2 * rows * p)) sums) (i * p + q) 0 (omega arith)
    ∙ get_or-drop (b * (2 * rows * p)) sums (i * p + q) 0
    ∙ ap (λ k. slice_index sums k) (omega arith)

pub block_more : (old new sums : List ℕ) (p rows b n n' : ℕ)
    → 0 < p → (b + 1) * (2 * rows * p) ≤ length old → length new ≡ n → n ≡ 2 * rows * p → 2 * rows * p ≤ n'
    → IsMerged new (take n' (drop (b * (2 * rows * p)) sums)) p rows (2 * rows)
    → AreMerged old sums p rows b
    → AreMerged (put_mid (b * (2 * rows * p)) n old new) sums p rows (b + 1)
block_more old new sums p rows b n n' phases room long_new whole le block so_far i j q below trial phase =
    elim (cases_lt i b) [
      | inl h ↦
          let row : i * (2 * rows) + j + 1 ≤ b * (2 * rows) = omega (arith, mul-add-lt i (2 * rows) j b h trial) in
          let fits : (i * (2 * rows) + j + 1) * p ≤ b * (2 * rows) * p = mul-le-mul_right p row in
          put_before (b * (2 * rows * p)) n old new ((i * (2 * rows) + j) * p + q) (omega arith) (omega arith)
          ∙ so_far i j q h trial phase
      | inr h ↦
          let is : b ≡ i = omega arith in
          let merged = put_mid (b * (2 * rows * p)) n old new in
          let P : ℕ → Type 0 = λ i. at merged p (i * (2 * rows) + j) q
          ≡ merged_at sums p (i * (2 * rows)) (i * (2 * rows) + rows) j q in
          let inside : j * p + q < 2 * rows * p = omega (arith, mul-add-lt j p q (2 * rows) trial phase) in
          let halves = take n' (drop (b * (2 * rows * p)) sums) in
          let turned : ℕ = (q + (j + 1) / 2) % p in
          subst P is
          (put_within (b * (2 * rows * p)) n old new ((b * (2 * rows) + j) * p + q) (j * p + q)
          (omega arith) (omega arith) (omega arith) long_new
          ∙ block j q trial phase
          ∙ ap (λ x. wrapping_sum x (at halves p (rows + j / 2) turned))
          (of_block sums p rows b n' (0 + j / 2) q (omega arith) phase le
          ∙ ap (λ k. at sums p k q) (omega arith))
          ∙ ap (λ y. wrapping_sum (at sums p (b * (2 * rows) + j / 2) q) y)
          (of_block sums p rows b n' (rows + j / 2) turned (omega arith) (mod-lt (q + (j + 1) / 2) phases) le
          ∙ ap (λ k. at sums p k turned) (omega arith)))
    ]
