-- Boxes of what a line has above a base are bounds of its boxes.
use Rattle.std.proofs.Common.{◌≡◌, ℕ, ◌+◌, ◌-◌, ◌*◌, ◌^◌, ◌<◌, ◌≤◌, inl, inr, refl, List, Option, Some, length, slice_get, slice_index, take, drop, ◌++◌, ◌∙◌, sym, ap, subst, arith, length-append}
use Rattle.std.proofs.lemmas.Bool.{cases_lt}
use Rattle.std.proofs.lemmas.List.{get_or_append_left, get_or-append_right, get_or_past, take_all}
use Rattle.std.proofs.lemmas.Nat.{pow-add}
use Rattle.std.proofs.lemmas.Simd.{get_or-zip2, length-zip2}
use Rattle.fdmt_rows.specs.Capped.{capped_sum}
use Rattle.fdmt_rows.specs.Excess.{excess, excess_of_two}
use Rattle.fdmt_rows.specs.Rows.{AddsWrapping, sum_from}
use Rattle.box_sums.specs.Excess.{AreAllBelow, AreBelow, AreExcess, plain_sums}
use Rattle.box_sums.specs.Rows.{Keeps}
use Rattle.box_sums.specs.Tables.{AreUpTo}
use Rattle.box_sums.specs.Tails.{row_at}
use Rattle.box_sums.proofs.Doubling.{single, so_many, twice_as_many, two_boxes}
use Rattle.box_sums.proofs.Feeding.{line_keeps}
use Rattle.box_sums.proofs.Parts.{part_at, part_length, same_values}

-- the sum of two rows at a place
pub sum_at : (upper lower : List ℕ) (k : ℕ) → length lower ≡ length upper → k < length upper
    → slice_index (plain_sums upper lower) k ≡ slice_index upper k + slice_index lower k
sum_at upper lower k same lt = get_or-zip2 (λ x y. x + y) upper lower k 0 0 0 lt (omega arith)

pub sums_long : (upper lower : List ℕ) → length lower ≡ length upper → length (plain_sums upper lower) ≡ length upper
sums_long upper lower same = length-zip2 (λ x y. x + y) upper lower (sym same)

-- single values of a line
pub lowest : (line rows : List ℕ) (stride base total greatest : ℕ) → total ≤ length line
    → ((i : ℕ) → i < total → slice_index rows i < 65535 → slice_index line i ≤ base + slice_index rows i)
    → ((i : ℕ) → i < total → slice_index rows i ≤ greatest) → AreExcess line rows stride base total 0 greatest
lowest line rows stride base total greatest inside above bound =
    let same : (i : ℕ) → slice_index rows (0 * stride + i) ≡ slice_index rows i =
    λ i. ap (λ k. slice_index rows k) (let e : 0 * stride + i ≡ i = omega arith in e) in
    record {
      above = λ i room small.
          let place = same i in
          let sum = single line i (omega arith) in
          let value = above i (omega arith) (omega (arith, place, small)) in
          omega (arith, place, sum, value);
      bound = λ i room.
          let place = same i in
          let most = bound i (omega arith) in
          omega (arith, place, most);
    }

-- a line of some values and the sums of two rows
pub filled : (tail upper lower rows : List ℕ) (stride upper_base lower_base greatest : ℕ)
    → length lower ≡ length upper
    → ((k : ℕ) → k < length tail → slice_index rows k ≡ excess (upper_base + lower_base) (slice_index tail k))
    → ((k : ℕ) → k < length upper → slice_index rows (length tail + k)
    ≡ excess_of_two upper_base lower_base (slice_index upper k) (slice_index lower k))
    → ((k : ℕ) → k < length tail + length upper → slice_index rows k ≤ greatest)
    → AreExcess (tail ++ plain_sums upper lower) rows stride (upper_base + lower_base) (length tail + length upper) 0
    greatest
filled tail upper lower rows stride upper_base lower_base greatest same in_front in_back up =
    let sums = plain_sums upper lower in
    let many = sums_long upper lower same in
    let all = length-append tail sums in
    let t : ℕ = length tail in
    lowest (tail ++ sums) rows stride (upper_base + lower_base) (t + length upper) greatest (omega (arith, many, all))
    (λ i inside small. elim (cases_lt i t) [
      | inl before ↦
          let value = get_or_append_left tail sums 0 i before in
          let is = in_front i before in
          omega (arith, value, is, small)
      | inr past ↦
          let j : ℕ = i - t in
          let value = get_or-append_right tail sums t i 0 refl past in
          let sum = sum_at upper lower j same (omega arith) in
          let place : slice_index rows (t + j) ≡ slice_index rows i =
          ap (λ k. slice_index rows k) (let e : t + j ≡ i = omega arith in e) in
          let is = in_back j (omega arith) in
          omega (arith, value, sum, place, is, small)
    ])
    (λ i inside. up i inside)

-- boxes of twice as many values
pub doubled : (old new line : List ℕ) (stride base total level width count greatest most : ℕ) → width ≡ 2 ^ level
    → count ≡ total + 1 - 2 * width
    → ((i : ℕ) → i < count → slice_index new ((level + 1) * stride + i)
    ≡ capped_sum (slice_index old (level * stride + i)) (slice_index old (level * stride + (width + i))))
    → ((i : ℕ) → i < count → slice_index new ((level + 1) * stride + i) ≤ most)
    → AreExcess line old stride base total level greatest → AreExcess line new stride base total (level + 1) most
doubled old new line stride base total level width count greatest most wide is_count sums up are =
    let half : ℕ = 2 ^ level in
    let twice : 2 ^ (level + 1) ≡ half + half = pow-add 2 level 1 ∙ omega arith in
    let bases = twice_as_many base half (2 ^ (level + 1)) twice in
    record {
      above = λ i room small.
          let box = sums i (omega (arith, twice)) in
          let turned : slice_index old (level * stride + (width + i)) ≡ slice_index old (level * stride + (i + half)) =
          ap (λ k. slice_index old (level * stride + k)) (let e : width + i ≡ i + half = omega arith in e) in
          let first = are.above i (omega (arith, twice)) (omega (arith, box, small)) in
          let second = are.above (i + half) (omega (arith, twice)) (omega (arith, box, small, turned)) in
          let both = two_boxes line i half half in
          let sum_is = ap (λ n. sum_from line i n) twice in
          omega (arith, box, small, turned, first, second, both, sum_is, bases);
      bound = λ i room. up i (omega (arith, twice));
    }

-- a box is so many narrower ones, so none reaches a least sum that so many of the greatest are below
pub all_below : (line rows : List ℕ) (stride base total level greatest wide least : ℕ) → level ≤ wide
    → greatest < 65535 → (base * 2 ^ level + greatest) * 2 ^ (wide - level) < least
    → AreExcess line rows stride base total level greatest → AreBelow line total wide least
all_below line rows stride base total level greatest wide least order small below are i room =
    let k : ℕ = wide - level in
    let whole : 2 ^ (level + k) ≡ 2 ^ wide = ap (λ n. 2 ^ n) (let e : level + k ≡ wide = omega arith in e) in
    let most = so_many line (base * 2 ^ level + greatest) level k total i
    (λ j inside.
    let bound = are.bound j inside in
    let above = are.above j inside (omega (arith, bound, small)) in
    omega (arith, bound, above)) (omega (arith, whole, room)) in
    let sum_is = ap (λ n. sum_from line i n) whole in
    omega (arith, most, sum_is, below)

-- one width more
pub one_below : (line : List ℕ) (total : ℕ) (leasts : List (Option ℕ)) (levels : ℕ)
    → AreAllBelow line total leasts levels
    → ((least : ℕ) → slice_get leasts levels ≡ Some (Some least) → AreBelow line total levels least)
    → AreAllBelow line total leasts (levels + 1)
one_below line total leasts levels before here level least lt is = elim (cases_lt level levels) [
  | inl earlier ↦ before level least earlier is
  | inr now ↦
      let same : levels ≡ level = omega arith in
      subst (λ (l : ℕ). AreBelow line total l least) same
      (here least (ap (λ l. slice_get leasts l) same ∙ is))
]

-- the last values of such a line are the sums of the last values
pub last_sums : (tail upper lower : List ℕ) (reach from : ℕ) → length lower ≡ length upper → length tail ≡ reach
    → from + reach ≡ length upper
    → take reach (drop (length upper) (tail ++ plain_sums upper lower))
    ≡ plain_sums (take (length upper - from) (drop from upper)) (take (length lower - from) (drop from lower))
last_sums tail upper lower reach from same long is =
    let n : ℕ = length upper in
    let sums = plain_sums upper lower in
    let line = tail ++ sums in
    let many = sums_long upper lower same in
    let all = length-append tail sums in
    let above = take (n - from) (drop from upper) in
    let below = take (length lower - from) (drop from lower) in
    let above_long : length above ≡ n - from = part_length from (n - from) upper (omega arith) in
    let below_long : length below ≡ length lower - from = part_length from (length lower - from) lower (omega arith) in
    let both : length below ≡ length above = omega (arith, above_long, below_long, same) in
    let left : length (take reach (drop n line)) ≡ reach = part_length n reach line (omega (arith, many, all)) in
    let right = sums_long above below both in
    same_values (take reach (drop n line)) (plain_sums above below) (omega (arith, left, right, above_long))
    (λ k lt.
    let small : k < reach = omega (arith, left, lt) in
    part_at n reach line k small
    ∙ get_or-append_right tail sums reach (n + k) 0 long (omega arith)
    ∙ ap (λ i. slice_index sums i) (let e : n + k - reach ≡ from + k = omega arith in e)
    ∙ sum_at upper lower (from + k) same (omega arith)
    ∙ sym (ap (λ x. x + slice_index lower (from + k)) (part_at from (n - from) upper k (omega arith)))
    ∙ sym (ap (λ y. slice_index above k + y) (part_at from (length lower - from) lower k (omega arith)))
    ∙ sym (sum_at above below k both (omega (arith, above_long))))

-- which are no greater than all
pub last_small : (bound from : ℕ) (upper lower : List ℕ) → length lower ≡ length upper → from ≤ length upper
    → AreUpTo bound (plain_sums upper lower)
    → AreUpTo bound (plain_sums (take (length upper - from) (drop from upper))
    (take (length lower - from) (drop from lower)))
last_small bound from upper lower same within small k =
    let above = take (length upper - from) (drop from upper) in
    let below = take (length lower - from) (drop from lower) in
    let above_long : length above ≡ length upper - from = part_length from (length upper - from) upper (omega arith) in
    let below_long : length below ≡ length lower - from = part_length from (length lower - from) lower (omega arith) in
    let both : length below ≡ length above = omega (arith, above_long, below_long, same) in
    elim (cases_lt k (length above)) [
      | inl inside ↦
          let sum = sum_at above below k both inside in
          let first = part_at from (length upper - from) upper k (omega (arith, above_long, inside)) in
          let second = part_at from (length lower - from) lower k (omega (arith, above_long, inside, same)) in
          let all = sum_at upper lower (from + k) same (omega (arith, above_long, inside)) in
          let most = small (from + k) in
          omega (arith, sum, first, second, all, most)
      | inr past ↦
          let long = sums_long above below both in
          subst (λ (x : ℕ). x ≤ bound) (sym (get_or_past (plain_sums above below) k 0 (omega (arith, long, past))))
          (omega arith)
    ]

-- the line of a feed of sums is the values before it and the sums
pub sums_line : (tails tail upper lower xs : List ℕ) (reach at : ℕ) → length tail ≡ reach
    → Keeps (row_at tails reach at) reach 0 xs → tail ≡ row_at tails reach at
    → Keeps (tail ++ plain_sums upper lower) reach (length (plain_sums upper lower)) (xs ++ plain_sums upper lower)
sums_line tails tail upper lower xs reach at long keeps is =
    let sums = plain_sums upper lower in
    let all = length-append tail sums in
    line_keeps tails (tail ++ sums) tail sums xs reach at keeps is
    (take_all (reach + length sums) (tail ++ sums) (omega (arith, all, long)))

-- two rows of 16 bits that are added in 32
pub widened_is : (out upper lower : List ℕ) → length lower ≡ length upper → length out ≡ length upper
    → AddsWrapping out upper lower → ((k : ℕ) → slice_index upper k < 65536) → ((k : ℕ) → slice_index lower k < 65536)
    → out ≡ plain_sums upper lower
widened_is out upper lower same long adds above below =
    same_values out (plain_sums upper lower) (long ∙ sym (sums_long upper lower same))
    (λ k lt.
    let sum = sum_at upper lower k same (omega (arith, long, lt)) in
    let value = adds k in
    let first = above k in
    let second = below k in
    omega (arith, sum, value, first, second))
