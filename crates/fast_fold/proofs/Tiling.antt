-- Tiles: their rows, the trials that are merged of them, and the greatest of all.
use Rattle.std.proofs.Common.{◌≡◌, ℕ, ◌+◌, ◌-◌, ◌*◌, ◌/◌, ◌%◌, ◌^◌, ◌<◌, ◌≤◌, inl, inr, List, length, slice_index, take, drop, ◌++◌, ◌∙◌, refl, sym, ap, subst, zero-add, arith}
use Rattle.std.proofs.lemmas.Bool.{cases_lt}
use Rattle.std.proofs.lemmas.List.{get_or-take, get_or-drop, get_or_append_left, get_or-append_right}
use Rattle.std.proofs.lemmas.Nat.{mul-add-lt}
use Rattle.std.proofs.Math.Nat.{mod-lt, mod-eq_of_lt, mod-add-mod, mod-eq-sub-mod, mul-le-mul_right}
use borrow.Rule.Slice.PartMut.{put_mid}
use Rattle.fdmt_rows.specs.Capped.{capped, capped_sum, AreRaised, LanesUpTo, SumsUpTo}
use Rattle.fdmt_rows.specs.Excess.{excess}
use Rattle.fast_fold.specs.Excess.{excesses, excess_sum, ExcessUpTo, IsGreatestExcess}
use Rattle.fast_fold.specs.Merging.{at}
use Rattle.fast_fold.specs.Tiles.{merged_sum, AreMergedTrials, MergedUpTo, AreTrials, AreTrialsOfHalves, TrialsUpTo}
use Rattle.fast_fold.proofs.Blocks.{first_half, second_half}
use Rattle.fast_fold.proofs.Excess.{phase_within, excess_halves, excess_of_rows, excess_of_row}
use Rattle.fast_fold.proofs.Halves.{twice}
use Rattle.fast_fold.proofs.Raising.{raised_twice, raised_same}
use Rattle.fast_fold.proofs.Parts.{put_before, put_within}

-- ---- a row of values

-- filled a part further
pub row_further : (old new values : List ℕ) (base start p from done count n n' : ℕ)
    → length values ≡ p → done + count ≤ length old → from + count ≤ p → length new ≡ n → n ≡ count → count ≤ n'
    → (start + done) % p ≡ from
    → ((k : ℕ) → k < count → slice_index new k ≡ excess base (slice_index (take n' (drop from values)) k))
    → ((x : ℕ) → x < done → slice_index old x ≡ excess base (slice_index values ((start + x) % length values)))
    → (x : ℕ) → x < done + count
    → slice_index (put_mid done n old new) x ≡ excess base (slice_index values ((start + x) % length values))
row_further old new values base start p from done count n n' is_period room inside long is_count le is_from part so_far
    x lt = elim (cases_lt x done) [
      | inl h ↦ put_before done n old new x h (omega arith) ∙ so_far x h
      | inr h ↦
          let k : ℕ = x - done in
          let small : from + k < p = omega arith in
          let place : (start + x) % length values ≡ from + k =
          ap (λ m. (start + x) % m) is_period
          ∙ ap (λ y. y % p) (let e : start + x ≡ start + done + k = omega arith in e)
          ∙ sym (mod-add-mod (start + done) p k)
          ∙ ap (λ y. (y + k) % p) is_from
          ∙ mod-eq_of_lt small in
          put_within done n old new x k (omega arith) (omega arith) (omega arith) long
          ∙ part k (omega arith)
          ∙ ap (λ y. excess base y)
          (get_or-take n' (drop from values) k 0 (omega arith)
          ∙ get_or-drop from values k 0
          ∙ ap (λ i. slice_index values i) (sym place))
    ]

-- round to the first phase
pub round_again : (start p from done count : ℕ) → 0 < p → (start + done) % p ≡ from → from + count ≡ p
    → (start + (done + count)) % p ≡ 0
round_again start p from done count phases is_from whole =
    let all : p ≤ p = omega arith in
    let none : p - p ≡ 0 = omega arith in
    ap (λ y. y % p) (let e : start + (done + count) ≡ start + done + count = omega arith in e)
    ∙ sym (mod-add-mod (start + done) p count)
    ∙ ap (λ y. (y + count) % p) is_from
    ∙ ap (λ y. y % p) whole
    ∙ mod-eq-sub-mod all
    ∙ ap (λ y. y % p) none
    ∙ mod-eq_of_lt phases

-- a row is all trials of itself
pub trials_of_row : (row values : List ℕ) (base p start width stride r rows n : ℕ) → r ≡ 0 → rows ≡ 2 ^ r
    → rows * p ≡ length values → rows * stride ≡ n → 0 < p → width ≤ stride
    → ((x : ℕ) → x < n → slice_index row x ≡ excess base (slice_index values ((start + x) % length values)))
    → AreTrials row base values p start width stride r
trials_of_row row values base p start width stride r rows n level are whole size phases le filled =
    let one : rows ≡ 1 = are ∙ ap (λ n. 2 ^ n) level in
    let long : length values ≡ p = sym whole ∙ ap (λ n. n * p) one ∙ omega arith in
    let all : stride ≡ n = (let e : stride ≡ 1 * stride = omega arith in e) ∙ ap (λ n. n * stride) (sym one) ∙ size in
    let P : ℕ → Type 0 = λ r. AreTrials row base values p start width stride r in
    subst P (sym level)
    (λ j x lt phase.
    let first : j * stride + x ≡ x = ap (λ n. n * stride + x) (let e : j ≡ 0 = omega arith in e) ∙ omega arith in
    ap (λ k. slice_index row k) first
    ∙ filled x (omega arith)
    ∙ ap (λ m. excess base (slice_index values ((start + x) % m))) long
    ∙ sym (excess_of_row base values p j (start + x) long phases))

-- ---- trials that are merged of both halves

of_pair : (halves : List ℕ) (stride half i j turn x : ℕ) → i / 2 ≡ j → (i + 1) / 2 ≡ turn
    → capped_sum (at halves stride j x) (at halves stride (half + j) (x + turn)) ≡ merged_sum halves stride half i x
of_pair halves stride half i j turn x is_row is_turn = rw (is_row, is_turn) refl

-- a sum of the rows of a pair
pub pair_sum : (first second halves : List ℕ) (stride width half i j turn n x : ℕ)
    → j < half → stride ≤ n → half + width ≤ stride → turn ≤ half → x < width
    → first ≡ take (half * stride) halves → second ≡ drop (half * stride) halves
    → i / 2 ≡ j → (i + 1) / 2 ≡ turn
    → capped_sum (slice_index (take n (drop (j * stride) first)) x)
    (slice_index (take n (drop (j * stride) second)) (x + turn))
    ≡ merged_sum halves stride half i x
pair_sum first second halves stride width half i j turn n x lt le room few phase is_first is_second is_row is_turn =
    ap (λ xs. capped_sum (slice_index (take n (drop (j * stride) xs)) x)
    (slice_index (take n (drop (j * stride) second)) (x + turn))) is_first
    ∙ ap (λ y. capped_sum y (slice_index (take n (drop (j * stride) second)) (x + turn)))
    (first_half halves stride half j n x lt (omega arith) le ∙ ap (λ k. at halves stride k x) (zero-add j))
    ∙ ap (λ xs. capped_sum (at halves stride j x) (slice_index (take n (drop (j * stride) xs)) (x + turn))) is_second
    ∙ ap (λ y. capped_sum (at halves stride j x) y)
    (second_half halves stride half j n (x + turn) (omega arith) le)
    ∙ of_pair halves stride half i j turn x is_row is_turn

-- a pair more
pub merged_further : (old new first second halves : List ℕ) (stride width half j n n' m : ℕ)
    → j < half → 2 * half * stride ≡ length old → length new ≡ n → n ≡ 2 * stride → stride ≤ n' → m ≡ stride
    → half + width ≤ stride → first ≡ take (half * stride) halves → second ≡ drop (half * stride) halves
    → ((x : ℕ) → x < width → slice_index new x
    ≡ capped_sum (slice_index (take n' (drop (j * stride) first)) x)
    (slice_index (take n' (drop (j * stride) second)) (x + j)))
    → ((x : ℕ) → x < width → slice_index new (m + x)
    ≡ capped_sum (slice_index (take n' (drop (j * stride) first)) x)
    (slice_index (take n' (drop (j * stride) second)) (x + (j + 1))))
    → AreMergedTrials old halves stride width half (2 * j)
    → AreMergedTrials (put_mid (2 * (j * stride)) n old new) halves stride width half (2 * (j + 1))
merged_further old new first second halves stride width half j n n' m lt long long_new whole le is_row room is_first
    is_second even odd so_far i x below phase =
    let fits : (j + 1) * stride ≤ half * stride =
    mul-le-mul_right stride (let l : j + 1 ≤ half = omega arith in l) in
    let merged = put_mid (2 * (j * stride)) n old new in
    let P : ℕ → Type 0 = λ i. at merged stride i x ≡ merged_sum halves stride half i x in
    elim (cases_lt i (2 * j)) [
      | inl h ↦
          let before : (i + 1) * stride ≤ 2 * j * stride =
          mul-le-mul_right stride (let l : i + 1 ≤ 2 * j = omega arith in l) in
          put_before (2 * (j * stride)) n old new (i * stride + x) (omega arith) (omega arith)
          ∙ so_far i x h phase
      | inr h ↦ elim (cases_lt i (2 * j + 1)) [
        | inl h' ↦
            let is : 2 * j ≡ i = omega arith in
            subst P is
            (put_within (2 * (j * stride)) n old new (2 * j * stride + x) x (omega arith) (omega arith) (omega arith)
            long_new
            ∙ even x phase
            ∙ pair_sum first second halves stride width half (2 * j) j j n' x lt le room (omega arith) phase is_first
            is_second (omega arith) (omega arith))
        | inr h' ↦
            let is : 2 * j + 1 ≡ i = omega arith in
            subst P is
            (put_within (2 * (j * stride)) n old new ((2 * j + 1) * stride + x) (stride + x) (omega arith) (omega arith)
            (omega arith) long_new
            ∙ ap (λ k. slice_index new (k + x)) (sym is_row)
            ∙ odd x phase
            ∙ pair_sum first second halves stride width half (2 * j + 1) j (j + 1) n' x lt le room (omega arith) phase
            is_first is_second (omega arith) (omega arith))
      ]
    ]

-- a trial of all rows of values
pub merged_trial : (halves values : List ℕ) (base p start width stride half r j x : ℕ) → half ≡ 2 ^ r
    → AreTrialsOfHalves halves base values p start width stride r → j < 2 ^ (r + 1) → x + 2 ^ (r + 1) ≤ width
    → merged_sum halves stride half j x ≡ excess_sum base values p (r + 1) j (start + x)
merged_trial halves values base p start width stride half r j x is are lt phase =
    let more : 2 ^ (r + 1) ≡ 2 ^ r + 2 ^ r = twice r in
    let turn : ℕ = (j + 1) / 2 in
    ap (λ n. capped_sum (at halves stride (j / 2) x) (at halves stride (n + j / 2) (x + turn))) is
    ∙ ap (λ y. capped_sum y (at halves stride (2 ^ r + j / 2) (x + turn)))
    (are.first (j / 2) x (omega arith) (omega arith))
    ∙ ap (λ y. capped_sum (excess_sum base values p r (j / 2) (start + x)) y)
    (are.second (j / 2) (x + turn) (omega arith) (omega arith)
    ∙ ap (λ q. excess_sum base (drop (2 ^ r * p) values) p r (j / 2) q)
    (let e : start + (x + turn) ≡ start + x + turn = omega arith in e))
    ∙ sym (excess_halves base values p r j (start + x))

pub trials_merged : (merged halves values : List ℕ) (base p start width stride half r r' : ℕ) → half ≡ 2 ^ r → r + 1 ≡ r'
    → AreMergedTrials merged halves stride width half (2 * half)
    → AreTrialsOfHalves halves base values p start width stride r
    → AreTrials merged base values p start width stride r'
trials_merged merged halves values base p start width stride half r r' is is_next merges are =
    let P : ℕ → Type 0 = λ r. AreTrials merged base values p start width stride r in
    subst P is_next
    (λ j x lt phase.
    let more : 2 ^ (r + 1) ≡ 2 ^ r + 2 ^ r = twice r in
    merges j x (omega arith) (omega arith)
    ∙ merged_trial halves values base p start width stride half r j x is are lt phase)

-- both halves, folded
pub halves_folded : (front back upper lower values : List ℕ) (base p start width stride half r : ℕ) → half ≡ 2 ^ r
    → 0 < p → width ≤ stride → length front ≡ half * stride
    → upper ≡ take (half * p) values → lower ≡ drop (half * p) values
    → AreTrials front base upper p start width stride r → AreTrials back base lower p start width stride r
    → AreTrialsOfHalves (front ++ back) base values p start width stride r
halves_folded front back upper lower values base p start width stride half r is phases le long is_upper is_lower
    trials others =
    let size : half * stride ≡ 2 ^ r * stride = ap (λ n. n * stride) is in
    let from : half * p ≡ 2 ^ r * p = ap (λ n. n * p) is in
    record {
      first = λ j x lt phase.
          let inside : j * stride + x < 2 ^ r * stride =
          omega (arith, mul-add-lt j stride x (2 ^ r) lt (let l : x < stride = omega arith in l)) in
          get_or_append_left front back 0 (j * stride + x) (omega (arith, inside, size, long))
          ∙ trials j x lt phase
          ∙ ap (λ xs. excess_sum base xs p r j (start + x)) (is_upper ∙ ap (λ n. take n values) from)
          ∙ excess_of_rows base values p r j (start + x) phases;
      second = λ j x lt phase.
          let less : (2 ^ r + j) * stride + x - half * stride ≡ j * stride + x = omega (arith, size) in
          get_or-append_right front back (half * stride) ((2 ^ r + j) * stride + x) 0 long (omega (arith, size))
          ∙ ap (λ k. slice_index back k) less
          ∙ others j x lt phase
          ∙ ap (λ xs. excess_sum base xs p r j (start + x)) (is_lower ∙ ap (λ n. drop n values) from);
    }

-- ---- the greatest of all trials

-- raised to a trial more
raised_trial : (old mid new first second halves : List ℕ) (stride half i turn phases : ℕ)
    → ((x : ℕ) → x < phases
    → capped_sum (slice_index first x) (slice_index second (x + turn)) ≡ merged_sum halves stride half i x)
    → AreRaised old mid (MergedUpTo halves stride half i phases)
    → AreRaised mid new (SumsUpTo first second turn phases)
    → AreRaised old new (MergedUpTo halves stride half (i + 1) phases)
raised_trial old mid new first second halves stride half i turn phases same so_far one =
    raised_twice old mid new (MergedUpTo halves stride half i phases) (SumsUpTo first second turn phases)
    (MergedUpTo halves stride half (i + 1) phases) so_far one
    (λ bound before sums k x lt phase. elim (cases_lt k i) [
      | inl h ↦ before k x h phase
      | inr h ↦
          let is : i ≡ k = omega arith in
          subst (λ (k : ℕ). merged_sum halves stride half k x ≤ bound) is
          (subst (λ (y : ℕ). y ≤ bound) (same x phase) (sums x phase))
    ])
    (λ bound all k x lt phase. all k x (omega arith) phase)
    (λ bound all x phase. subst (λ (y : ℕ). y ≤ bound) (sym (same x phase)) (all i x (omega arith) phase))

-- to a pair more
pub raised_pair : (old mid one new first second halves : List ℕ) (stride half j n phases : ℕ)
    → j < half → stride ≤ n → half + phases ≤ stride
    → first ≡ take (half * stride) halves → second ≡ drop (half * stride) halves
    → AreRaised old mid (MergedUpTo halves stride half (2 * j) phases)
    → AreRaised mid one
    (SumsUpTo (take n (drop (j * stride) first)) (take n (drop (j * stride) second)) j phases)
    → AreRaised one new
    (SumsUpTo (take n (drop (j * stride) first)) (take n (drop (j * stride) second)) (j + 1) phases)
    → AreRaised old new (MergedUpTo halves stride half (2 * (j + 1)) phases)
raised_pair old mid one new first second halves stride half j n phases lt le room is_first is_second so_far even odd =
    let next : 2 * j + 1 + 1 ≡ 2 * (j + 1) = omega arith in
    let P : ℕ → Type 0 = λ i. AreRaised old new (MergedUpTo halves stride half i phases) in
    let row = take n (drop (j * stride) first) in
    let turned = take n (drop (j * stride) second) in
    subst P next
    (raised_trial old one new row turned halves stride half (2 * j + 1) (j + 1) phases
    (λ x phase. pair_sum first second halves stride phases half (2 * j + 1) j (j + 1) n x lt le room (omega arith) phase
    is_first is_second (omega arith) (omega arith))
    (raised_trial old mid one row turned halves stride half (2 * j) j phases
    (λ x phase. pair_sum first second halves stride phases half (2 * j) j j n x lt le room (omega arith) phase is_first
    is_second (omega arith) (omega arith))
    so_far even)
    odd)

-- to all trials of a tile
pub raised_to_trials : (old new halves values : List ℕ) (base p start width stride half r m phases : ℕ) → half ≡ 2 ^ r
    → r + 1 ≡ m → phases + 2 * half ≤ width + 1
    → AreTrialsOfHalves halves base values p start width stride r
    → AreRaised old new (MergedUpTo halves stride half (2 * half) phases)
    → AreRaised old new (TrialsUpTo base values p m start phases)
raised_to_trials old new halves values base p start width stride half r m phases is is_next room are raised =
    let more : 2 ^ (r + 1) ≡ 2 ^ r + 2 ^ r = twice r in
    let P : ℕ → Type 0 = λ m. AreRaised old new (TrialsUpTo base values p m start phases) in
    let same : (j x : ℕ) → j < 2 ^ (r + 1) → x < phases
    → merged_sum halves stride half j x ≡ excess_sum base values p (r + 1) j (start + x) =
    λ j x lt phase. merged_trial halves values base p start width stride half r j x is are lt (omega arith) in
    subst P is_next
    (raised_same old new (MergedUpTo halves stride half (2 * half) phases) (TrialsUpTo base values p (r + 1) start phases)
    raised
    (λ bound up j x lt phase. subst (λ (y : ℕ). y ≤ bound) (same j x lt phase) (up j x (omega arith) phase))
    (λ bound up j x lt phase.
    let lt' : j < 2 ^ (r + 1) = omega arith in
    subst (λ (y : ℕ). y ≤ bound) (sym (same j x lt' phase)) (up j x lt' phase)))

-- to a tile more
pub raised_tile : (old mid new values : List ℕ) (base p m start phases next : ℕ) → start + phases ≡ next
    → AreRaised old mid (ExcessUpTo base values p m start)
    → AreRaised mid new (TrialsUpTo base values p m start phases)
    → AreRaised old new (ExcessUpTo base values p m next)
raised_tile old mid new values base p m start phases next is_next so_far tile =
    raised_twice old mid new (ExcessUpTo base values p m start) (TrialsUpTo base values p m start phases)
    (ExcessUpTo base values p m next) so_far tile
    (λ bound before trials j q lt phase. elim (cases_lt q start) [
      | inl h ↦ before j q lt h
      | inr h ↦
          let at : start + (q - start) ≡ q = omega arith in
          subst (λ (q : ℕ). excess_sum base values p m j q ≤ bound) at (trials j (q - start) lt (omega arith))
    ])
    (λ bound all j q lt phase. all j q lt (omega arith))
    (λ bound all j x lt phase. all j (start + x) lt (omega arith))

-- the greatest lane is the greatest of all
pub greatest_of_all : (zeros lanes values : List ℕ) (base p m phases greatest : ℕ) → 0 < p → p ≤ phases
    → ((lane : ℕ) → slice_index zeros lane ≡ 0)
    → AreRaised zeros lanes (ExcessUpTo base values p m phases)
    → LanesUpTo lanes greatest → ((bound : ℕ) → LanesUpTo lanes bound → greatest ≤ bound)
    → IsGreatestExcess base values p m greatest
greatest_of_all zeros lanes values base p m phases greatest some whole none raised enough least = record {
  enough = λ j q lt phase. raised.enough greatest enough j q lt (omega arith);
  least = λ bound up. least bound (raised.least bound
      (λ lane. subst (λ (y : ℕ). y ≤ bound) (sym (none lane)) (omega arith))
      (λ j q lt phase. subst (λ (y : ℕ). y ≤ bound)
      (ap (λ s. capped s) (phase_within (excesses base values) p m j q))
      (up j (q % p) lt (mod-lt q some))));
}
