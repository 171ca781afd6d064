-- Boxes twice as wide are two boxes each.
use Rattle.std.proofs.Common.{◌≡◌, ℕ, zero, suc, refl, ◌+◌, ◌-◌, ◌*◌, ◌%◌, ◌^◌, ◌<◌, ◌≤◌, ◌≢◌, inl, inr, List, length, slice_index, set, sum_by, take, drop, ◌∙◌, sym, ap, subst, arith, length-drop}
use Rattle.std.proofs.lemmas.Bool.{cases_lt}
use Rattle.std.proofs.lemmas.List.{take-take, drop-drop, drop-take, get_or-drop, get_or-set_same, get_or-set_other}
use Rattle.std.proofs.lemmas.List.Sums.{sum_by-take-drop, sum_by-take-le, sum_by_more}
use Rattle.std.proofs.lemmas.Nat.{pow-add, pow_pos}
use Rattle.std.proofs.Math.Nat.{mod-eq_of_lt, mul-le-mul_right, mul-add}
use Rattle.std.proofs.Math.Pow.{pow_mono}
use Rattle.fdmt_rows.specs.Rows.{sum_from, wrapping_sum}
use Rattle.box_sums.specs.Tables.{AreBoxes, AreBounds, AreMade}

pub two_boxes : (row : List ℕ) (k n m : ℕ) → sum_from row k (n + m) ≡ sum_from row k n + sum_from row (k + n) m
two_boxes row k n m =
    let ys = drop k row in
    let cut = sum_by-take-drop (λ x. x) (take (n + m) ys) n in
    let first : sum_by (λ x. x) (take n (take (n + m) ys)) ≡ sum_from row k n =
    ap (λ xs. sum_by (λ x. x) xs) (take-take n (n + m) ys (omega arith)) in
    let second : sum_by (λ x. x) (drop n (take (n + m) ys)) ≡ sum_from row (k + n) m =
    ap (λ xs. sum_by (λ x. x) xs) (drop-take n m ys ∙ ap (λ xs. take m xs) (drop-drop n k row)) in
    omega (arith, cut, first, second)

pub wider_sums : (row : List ℕ) (k n m : ℕ) → n ≤ m → sum_from row k n ≤ sum_from row k m
wider_sums row k n m le =
    let h = sum_by-take-le (λ x. x) (take m (drop k row)) n in
    let e : sum_by (λ x. x) (take n (take m (drop k row))) ≡ sum_from row k n =
    ap (λ xs. sum_by (λ x. x) xs) (take-take n m (drop k row) le) in
    omega (arith, h, e)

-- a sum of one value
pub single : (row : List ℕ) (i : ℕ) → i < length row → sum_from row i 1 ≡ slice_index row i
single row i inside =
    let cut = sum_by_more (λ x. x) (drop i row) 0 0 (let l : 0 < length (drop i row) = rw length-drop
    (omega arith) in l) in
    let value = get_or-drop i row 0 0 in
    let place : slice_index row (i + 0) ≡ slice_index row i = ap (λ k. slice_index row k) (omega arith) in
    omega (arith, cut, value, place)

-- the boxes of two values
pub first_level : (line new : List ℕ) (stride total widest : ℕ)
    → 2 ≤ widest → total ≤ length line → ((i : ℕ) → sum_from line i widest < 2 ^ 32)
    → ((i : ℕ) → i < total - 1
    → slice_index new i ≡ wrapping_sum (slice_index line i) (slice_index line (1 + i)))
    → AreBoxes new stride 1 line total
first_level line new stride total widest wide long fits doubled m i lt room =
    let zero : 0 ≡ m = omega arith in
    let P : ℕ → Type 0 = λ m. slice_index new (m * stride + i) ≡ sum_from line i (2 ^ (m + 1)) in
    let inside : i + 2 ^ 1 ≤ total = subst (λ (m : ℕ). i + 2 ^ (m + 1) ≤ total) (sym zero) room in
    let place : 0 * stride + i ≡ i = omega arith in
    let grows = wider_sums line i (2 ^ 1) widest wide in
    let fit = fits i in
    let one = single line i (omega arith) in
    let other = single line (i + 1) (omega arith) in
    let turned : slice_index line (1 + i) ≡ slice_index line (i + 1) =
    ap (λ k. slice_index line k) (omega arith) in
    let both : sum_from line i 1 + sum_from line (i + 1) 1 ≡ sum_from line i (2 ^ 1) = sym (two_boxes line i 1 1) in
    let plain : slice_index line i + slice_index line (1 + i) ≡ sum_from line i (2 ^ 1) =
    omega (arith, one, other, turned, both) in
    subst P zero
    (ap (λ k. slice_index new k) place
    ∙ doubled i (omega arith)
    ∙ ap (λ x. x % 2 ^ 32) plain
    ∙ mod-eq_of_lt (let lt : sum_from line i (2 ^ 1) < 2 ^ 32 = omega arith in lt))

pub level_more : (old new line : List ℕ) (stride level levels width total count : ℕ)
    → level + 1 < levels → width ≡ 2 ^ (level + 1) → total ≤ stride → count ≡ total + 1 - 2 * width
    → ((i : ℕ) → sum_from line i (2 ^ levels) < 2 ^ 32)
    → ((i : ℕ) → i < count → slice_index new ((level + 1) * stride + i)
    ≡ wrapping_sum (slice_index old (level * stride + i)) (slice_index old (level * stride + (width + i))))
    → ((k : ℕ) → k < (level + 1) * stride → slice_index new k ≡ slice_index old k)
    → AreBoxes old stride (level + 1) line total
    → AreBoxes new stride (level + 2) line total
level_more old new line stride level levels width total count more is short is_count fits doubled below are m i lt room =
    let twice : 2 ^ (level + 2) ≡ 2 ^ (level + 1) + 2 ^ (level + 1) =
    ap (λ k. 2 ^ k) (let e : level + 2 ≡ level + 1 + 1 = omega arith in e) ∙ pow-add 2 (level + 1) 1 ∙ omega arith in
    elim (cases_lt m (level + 1)) [
      | inl h ↦
          let positive : 0 < 2 ^ (m + 1) = pow_pos (m + 1) in
          let lower : (m + 1) * stride ≤ (level + 1) * stride =
          mul-le-mul_right stride (let l : m + 1 ≤ level + 1 = omega arith in l) in
          below (m * stride + i) (omega arith) ∙ are m i h room
      | inr h ↦
          let is_top : level + 1 ≡ m = omega arith in
          let P : ℕ → Type 0 = λ m. slice_index new (m * stride + i) ≡ sum_from line i (2 ^ (m + 1)) in
          let wide : 2 ^ (level + 1 + 1) ≡ 2 ^ (level + 2) = ap (λ k. 2 ^ k) (omega arith) in
          let at : i + 2 ^ (level + 1 + 1) ≤ total = subst (λ (m : ℕ). i + 2 ^ (m + 1) ≤ total) (sym is_top) room in
          let inside : i + 2 ^ (level + 2) ≤ total = omega (arith, wide, at) in
          let fewer : 2 ^ (level + 2) ≤ 2 ^ levels = pow_mono (let l : level + 2 ≤ levels = omega arith in l) in
          let grows = wider_sums line i (2 ^ (level + 2)) (2 ^ levels) fewer in
          let fit = fits i in
          let both : sum_from line i (2 ^ (level + 1)) + sum_from line (i + 2 ^ (level + 1)) (2 ^
          (level + 1)) ≡ sum_from line i (2 ^ (level + 2)) =
          sym (two_boxes line i (2 ^ (level + 1)) (2 ^ (level + 1))) ∙ ap (λ n. sum_from line i n) (sym twice) in
          subst P is_top
          (doubled i (omega arith)
          ∙ ap (λ x. wrapping_sum x (slice_index old (level * stride + (width + i)))) (are level i (omega arith)
          (omega arith))
          ∙ ap (λ y. wrapping_sum (sum_from line i (2 ^ (level + 1))) y)
          (ap (λ k. slice_index old (level * stride + k)) (let e : width + i ≡ i + 2 ^ (level + 1) = omega arith in e)
          ∙ are level (i + 2 ^ (level + 1)) (omega arith) (omega arith))
          ∙ ap (λ x. x % 2 ^ 32) both
          ∙ mod-eq_of_lt (let lt : sum_from line i (2 ^ (level + 2)) < 2 ^ 32 = omega arith in lt)
          ∙ ap (λ n. sum_from line i n) (sym wide))
    ]

-- the greatest of two values
pub first_bounds : (boxes line bounds : List ℕ) (stride total most : ℕ)
    → 1 < length bounds → AreBoxes boxes stride 1 line total
    → ((i : ℕ) → i < total - 1 → slice_index boxes i ≤ most)
    → AreBounds (set bounds 1 most) 1 line total
first_bounds boxes line bounds stride total most inside are bound m i some le room =
    let one : 1 ≡ m = omega arith in
    let top : i + 2 ^ 1 ≤ total = subst (λ (m : ℕ). i + 2 ^ m ≤ total) (sym one) room in
    let same = get_or-set_same bounds 1 most 0 inside in
    let box = are 0 i (omega arith) top in
    let place : slice_index boxes (0 * stride + i) ≡ slice_index boxes i =
    ap (λ k. slice_index boxes k) (omega arith) in
    let b = bound i (omega arith) in
    subst (λ (m : ℕ). sum_from line i (2 ^ m) ≤ slice_index (set bounds 1 most) m) one
    (omega (arith, same, box, place, b))

-- the greatest of a level more
pub bounds_more : (boxes line bounds : List ℕ) (stride level width total most : ℕ)
    → width ≡ 2 ^ (level + 1) → level + 2 < length bounds → AreBoxes boxes stride (level + 2) line total
    → ((i : ℕ) → i < total + 1 - 2 * width → slice_index boxes ((level + 1) * stride + i) ≤ most)
    → AreBounds bounds (level + 1) line total → AreBounds (set bounds (level + 2) most) (level + 2) line total
bounds_more boxes line bounds stride level width total most is inside are bound so_far m i some le room =
    let wide : 2 ^ (level + 1 + 1) ≡ 2 ^ (level + 2) = ap (λ k. 2 ^ k) (omega arith) in
    let twice : 2 ^ (level + 1 + 1) ≡ 2 ^ (level + 1) + 2 ^ (level + 1) = pow-add 2 (level + 1) 1 ∙ omega arith in
    elim (cases_lt m (level + 2)) [
      | inl h ↦
          let other : m ≢ level + 2 = omega arith in
          let same = get_or-set_other bounds (level + 2) m most 0 other in
          let b = so_far m i some (omega arith) room in
          omega (arith, same, b)
      | inr h ↦
          let is_top : level + 2 ≡ m = omega arith in
          let top : i + 2 ^ (level + 2) ≤ total = subst (λ (m : ℕ). i + 2 ^ m ≤ total) (sym is_top) room in
          let same = get_or-set_same bounds (level + 2) most 0 inside in
          let box = are (level + 1) i (omega arith) (omega (arith, wide, top)) in
          let same_sum = ap (λ n. sum_from line i n) wide in
          let b = bound i (omega arith) in
          subst (λ (m : ℕ). sum_from line i (2 ^ m) ≤ slice_index (set bounds (level + 2) most) m) is_top
          (omega (arith, same, box, same_sum, b))
    ]

-- the next width is no wider than the widest that is asked for
pub next_width : (known wide width : ℕ) → known < wide → width ≡ 2 ^ known → 2 * width ≤ 2 ^ wide
next_width known wide width more is =
    let fewer : 2 ^ (known + 1) ≤ 2 ^ wide = pow_mono (let l : known + 1 ≤ wide = omega arith in l) in
    let twice : 2 ^ (known + 1) ≡ 2 ^ known * 2 = pow-add 2 known 1 in
    omega arith

-- one width more is made
pub made_more : (old new line greatest : List ℕ) (stride known prior level width total most : ℕ)
    → prior + 1 ≡ known → known < level → width ≡ 2 ^ known → total ≤ stride → known + 1 < length greatest
    → ((i : ℕ) → sum_from line i (2 ^ level) < 2 ^ 32)
    → ((i : ℕ) → i < total + 1 - 2 * width → slice_index new ((prior + 1) * stride + i)
    ≡ wrapping_sum (slice_index old (prior * stride + i)) (slice_index old (prior * stride + (width + i))))
    → ((k : ℕ) → k < (prior + 1) * stride → slice_index new k ≡ slice_index old k)
    → ((i : ℕ) → i < total + 1 - 2 * width → slice_index new ((prior + 1) * stride + i) ≤ most)
    → AreMade line total old stride greatest known
    → AreMade line total new stride (set greatest (known + 1) most) (known + 1)
made_more old new line greatest stride known prior level width total most is more wide short inside fits doubled below
    bound are =
    let same : known ≡ prior + 1 = sym is in
    let next : prior + 2 ≡ known + 1 = omega arith in
    let width_is : width ≡ 2 ^ (prior + 1) = wide ∙ ap (λ k. 2 ^ k) same in
    let sums : AreBoxes new stride (prior + 2) line total =
    level_more old new line stride prior level width total (total + 1 - 2 * width) (omega arith) width_is short refl fits
    doubled below (subst (λ k. AreBoxes old stride k line total) same are.sums) in
    record {
      sums = subst (λ k. AreBoxes new stride k line total) next sums;
      bounds = subst (λ k. AreBounds (set greatest k most) k line total) next
          (bounds_more new line greatest stride prior width total most width_is (omega arith) sums bound
          (subst (λ k. AreBounds greatest k line total) same are.bounds));
    }

-- twice a multiple
pub twice_as_many : (g x y : ℕ) → y ≡ x + x → g * y ≡ g * x + g * x
twice_as_many g x y is = ap (λ z. g * z) is ∙ mul-add g x x

-- a box is so many narrower boxes, of which none is above their bound
pub so_many : (line : List ℕ) (bound known k total i : ℕ)
    → ((i : ℕ) → i + 2 ^ known ≤ total → sum_from line i (2 ^ known) ≤ bound) → i + 2 ^ (known + k) ≤ total
    → sum_from line i (2 ^ (known + k)) ≤ bound * 2 ^ k
so_many line bound known zero total i are room =
    let same : 2 ^ (known + zero) ≡ 2 ^ known = ap (λ n. 2 ^ n) (omega arith) in
    let sum_is = ap (λ n. sum_from line i n) same in
    let most = are i (omega (arith, same, room)) in
    let once : bound * 2 ^ zero ≡ bound = omega arith in
    omega (arith, sum_is, most, once)
so_many line bound known (suc k) total i are room =
    let half : ℕ = 2 ^ (known + k) in
    let twice : 2 ^ (known + suc k) ≡ half + half =
    ap (λ n. 2 ^ n) (let e : known + suc k ≡ known + k + 1 = omega arith in e) ∙ pow-add 2 (known + k) 1 ∙ omega arith in
    let factor : 2 ^ suc k ≡ 2 ^ k + 2 ^ k =
    ap (λ n. 2 ^ n) (let e : suc k ≡ k + 1 = omega arith in e) ∙ pow-add 2 k 1 ∙ omega arith in
    let first = so_many line bound known k total i are (omega (arith, twice, room)) in
    let second = so_many line bound known k total (i + half) are (omega (arith, twice, room)) in
    let both = two_boxes line i half half in
    let sum_is = ap (λ n. sum_from line i n) twice in
    let most = twice_as_many bound (2 ^ k) (2 ^ suc k) factor in
    omega (arith, first, second, both, sum_is, most)

pub boxes_bounded : (bounds line : List ℕ) (made known k total i : ℕ) → 1 ≤ known → known ≤ made
    → AreBounds bounds made line total → i + 2 ^ (known + k) ≤ total
    → sum_from line i (2 ^ (known + k)) ≤ slice_index bounds known * 2 ^ k
boxes_bounded bounds line made known k total i some le are room =
    so_many line (slice_index bounds known) known k total i (λ j inside. are known j some le inside) room
