-- A list of which a part was written.
use Rattle.std.proofs.Common.{◌≡◌, ℕ, ◌+◌, ◌-◌, ◌*◌, ◌<◌, ◌≤◌, ◌≢◌, inl, inr, refl, List, length, slice_index, get_or, take, drop, ◌++◌, ◌∙◌, sym, ap, subst, arith, length-drop, length-take, min}
use Rattle.std.proofs.lemmas.Bool.{cases_lt}
use Rattle.std.proofs.lemmas.Nat.{mul-add-lt}
use Rattle.std.proofs.Math.Nat.{mul-le-mul_right}
use Rattle.std.proofs.lemmas.List.{get_or_append_left, get_or-append_right, get_or-take, get_or-drop, get_or_past, length-take-le, same_lists, get_or_default}
use borrow.Rule.Slice.PartMut.{put_mid, post_of, same_len_mid}
use Rattle.box_sums.specs.Tails.{row_at}
use Rattle.box_sums.specs.Tables.{AreUpTo}

pub put_before : (a n : ℕ) (xs ys : List ℕ) (k : ℕ) → k < a → a ≤ length xs
    → slice_index (put_mid a n xs ys) k ≡ slice_index xs k
put_before a n xs ys k lt le =
    let long : length (take a xs) ≡ a = length-take-le a xs le in
    get_or_append_left (take a xs) (ys ++ post_of a n xs) 0 k (omega arith) ∙ get_or-take a xs k 0 lt

pub put_within : (a n : ℕ) (xs ys : List ℕ) (k j : ℕ) → j < n → a + j ≡ k → a ≤ length xs → length ys ≡ n
    → slice_index (put_mid a n xs ys) k ≡ slice_index ys j
put_within a n xs ys k j lt e le long =
    let front : length (take a xs) ≡ a = length-take-le a xs le in
    get_or-append_right (take a xs) (ys ++ post_of a n xs) a k 0 front (omega arith)
    ∙ ap (λ i. get_or (ys ++ post_of a n xs) i 0) (let back : k - a ≡ j = omega arith in back)
    ∙ get_or_append_left ys (post_of a n xs) 0 j (omega arith)

pub put_after : (a n : ℕ) (xs ys : List ℕ) (k : ℕ) → a + n ≤ k → a ≤ length xs → length ys ≡ n
    → slice_index (put_mid a n xs ys) k ≡ slice_index xs k
put_after a n xs ys k le fits long =
    let front : length (take a xs) ≡ a = length-take-le a xs fits in
    get_or-append_right (take a xs) (ys ++ post_of a n xs) a k 0 front (omega arith)
    ∙ get_or-append_right ys (post_of a n xs) n (k - a) 0 long (omega arith)
    ∙ get_or-drop n (drop a xs) (k - a - n) 0
    ∙ get_or-drop a xs (n + (k - a - n)) 0
    ∙ ap (λ i. slice_index xs i) (let e : a + (n + (k - a - n)) ≡ k = omega arith in e)

pub part_length : (a n : ℕ) (xs : List ℕ) → a + n ≤ length xs → length (take n (drop a xs)) ≡ n
part_length a n xs fits =
    let long : n ≤ length (drop a xs) = rw length-drop (omega arith) in
    length-take-le n (drop a xs) long

pub part_at : (a n : ℕ) (xs : List ℕ) (k : ℕ) → k < n → slice_index (take n (drop a xs)) k ≡ slice_index xs (a + k)
part_at a n xs k lt = get_or-take n (drop a xs) k 0 lt ∙ get_or-drop a xs k 0

-- what holds of each value of both holds of the whole
pub put_small : (bound a n : ℕ) (xs ys : List ℕ) → a ≤ length xs → length ys ≡ n
    → AreUpTo bound xs → AreUpTo bound ys → AreUpTo bound (put_mid a n xs ys)
put_small bound a n xs ys fits long small_xs small_ys k = elim (cases_lt k a) [
  | inl h ↦ subst (λ (x : ℕ). x ≤ bound) (sym (put_before a n xs ys k h fits)) (small_xs k)
  | inr h ↦ elim (cases_lt k (a + n)) [
    | inl below ↦
        let at : a + (k - a) ≡ k = omega arith in
        subst (λ (x : ℕ). x ≤ bound) (sym (put_within a n xs ys k (k - a) (omega arith) at fits long)) (small_ys
        (k - a))
    | inr above ↦ subst (λ (x : ℕ). x ≤ bound) (sym (put_after a n xs ys k above fits long)) (small_xs k)
  ]
]

pub part_small : (bound a n : ℕ) (xs : List ℕ) → AreUpTo bound xs → AreUpTo bound (take n (drop a xs))
part_small bound a n xs small k = elim (cases_lt k n) [
  | inl h ↦ subst (λ (x : ℕ). x ≤ bound) (sym (part_at a n xs k h)) (small (a + k))
  | inr h ↦
      let short : length (take n (drop a xs)) ≤ n = length-take-le' n (drop a xs) in
      subst (λ (x : ℕ). x ≤ bound) (sym (get_or_past (take n (drop a xs)) k 0 (omega arith))) (omega arith)
]
  where
    length-take-le' : (n : ℕ) (xs : List ℕ) → length (take n xs) ≤ n
    length-take-le' n xs = simp length-take (omega arith)

pub drop_small : (bound n : ℕ) (xs : List ℕ) → AreUpTo bound xs → AreUpTo bound (drop n xs)
drop_small bound n xs small k = subst (λ (x : ℕ). x ≤ bound) (sym (get_or-drop n xs k 0)) (small (n + k))

pub append_small : (bound : ℕ) (xs ys : List ℕ) → AreUpTo bound xs → AreUpTo bound ys → AreUpTo bound (xs ++ ys)
append_small bound xs ys small_xs small_ys k = elim (cases_lt k (length xs)) [
  | inl h ↦ subst (λ (x : ℕ). x ≤ bound) (sym (get_or_append_left xs ys 0 k h)) (small_xs k)
  | inr h ↦ subst (λ (x : ℕ). x ≤ bound) (sym (get_or-append_right xs ys (length xs) k 0 refl h))
      (small_ys (k - length xs))
]

-- two lists of one length with equal values
pub same_values : (xs ys : List ℕ) → length xs ≡ length ys
    → ((k : ℕ) → k < length xs → slice_index xs k ≡ slice_index ys k) → xs ≡ ys
same_values xs ys long same = same_lists xs ys long
    (λ k d h.
    get_or_default xs k d 0 h ∙ same k h ∙ get_or_default ys k 0 d (let lt : k < length ys = omega arith in lt))

-- another row of a table in which a row was written
pub other_row : (table row : List ℕ) (stride n at e : ℕ) → e ≢ at → n ≤ stride → (at + 1) * stride ≤ length table
    → length row ≡ n
    → row_at (put_mid (at * stride) n table row) stride e ≡ row_at table stride e
other_row table row stride n at e other short fits long =
    let put = put_mid (at * stride) n table row in
    let part : length (take n (drop (at * stride) table)) ≡ n = part_length (at * stride) n table (omega arith) in
    let same_length : length put ≡ length table =
    same_len_mid (at * stride) n table row (long ∙ sym part) in
    let lengths : length (row_at put stride e) ≡ length (row_at table stride e) =
    simp (length-take, length-drop) (ap (λ k. min stride (k - e * stride)) same_length) in
    same_values (row_at put stride e) (row_at table stride e) lengths
    (λ k h.
    let part_is_short : length (take stride (drop (e * stride) put)) ≤ stride = simp length-take (omega arith) in
    let lt : k < stride = omega arith in
    part_at (e * stride) stride put k lt
    ∙ (elim (cases_lt e at) [
      | inl below ↦
          let inside : e * stride + k < at * stride = omega (arith, mul-add-lt e stride k at below lt) in
          put_before (at * stride) n table row (e * stride + k) inside (omega arith)
      | inr above ↦
          let more : at + 1 ≤ e = omega (arith, other) in
          let after : (at + 1) * stride ≤ e * stride = mul-le-mul_right stride more in
          put_after (at * stride) n table row (e * stride + k) (omega arith) (omega arith) long
    ])
    ∙ sym (part_at (e * stride) stride table k lt))
