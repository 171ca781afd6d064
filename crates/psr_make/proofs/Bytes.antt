-- Bytes of values, and lists of which a part was written.
use Rattle.std.proofs.Common.{◌≡◌, ℕ, ◌+◌, ◌-◌, ◌<◌, ◌≤◌, ◌≢◌, List, length, slice_index, get_or, take, drop, set, ◌++◌, ◌∙◌, sym, ap, subst, arith, length-drop, get_or-set_other, get_or-set_same}
use Rattle.std.proofs.lemmas.List.{get_or_append_left, get_or-append_right, get_or-take, get_or-drop, length-take-le}
use borrow.Rule.Slice.PartMut.{put_mid, post_of}
use Rattle.psr_make.specs.Made.{byte_of}

-- ---- a small number's bytes

pub low_byte : (n : ℕ) → n < 256 → byte_of n 0 ≡ n
low_byte n small = omega arith

pub high_byte : (n : ℕ) → n < 256 → byte_of n 1 ≡ 0
high_byte n small = omega arith

-- ---- one write

pub set_here : (xs : List ℕ) (i y k : ℕ) → k ≡ i → i < length xs → slice_index (set xs i y) k ≡ y
set_here xs i y k e lt =
    let P : ℕ → Type 0 = λ j. slice_index (set xs i y) j ≡ y in
    subst P (sym e) (get_or-set_same xs i y 0 lt)

pub set_elsewhere : (xs : List ℕ) (i y k : ℕ) → k ≢ i → slice_index (set xs i y) k ≡ slice_index xs k
set_elsewhere xs i y k ne = get_or-set_other xs i k y 0 ne

-- ---- a part that was written

pub put_before : (a n : ℕ) (xs ys : List ℕ) (k : ℕ) → k < a → a ≤ length xs
    → slice_index (put_mid a n xs ys) k ≡ slice_index xs k
put_before a n xs ys k lt le =
    let long : length (take a xs) ≡ a = length-take-le a xs le in
    get_or_append_left (take a xs) (ys ++ post_of a n xs) 0 k (omega arith) ∙ get_or-take a xs k 0 lt

pub put_within : (a n : ℕ) (xs ys : List ℕ) (k j : ℕ) → j < n → a + j ≡ k → a ≤ length xs → length ys ≡ n
    → slice_index (put_mid a n xs ys) k ≡ slice_index ys j
put_within a n xs ys k j lt e le long =
    let front : length (take a xs) ≡ a = length-take-le a xs le in
    get_or-append_right (take a xs) (ys ++ post_of a n xs) a k 0 front (omega arith)
    ∙ ap (λ i. get_or (ys ++ post_of a n xs) i 0) (let back : k - a ≡ j = omega arith in back)
    ∙ get_or_append_left ys (post_of a n xs) 0 j (omega arith)

pub put_after : (a n : ℕ) (xs ys : List ℕ) (k : ℕ) → a + n ≤ k → a ≤ length xs → length ys ≡ n
    → slice_index (put_mid a n xs ys) k ≡ slice_index xs k
put_after a n xs ys k le fits long =
    let front : length (take a xs) ≡ a = length-take-le a xs fits in
    get_or-append_right (take a xs) (ys ++ post_of a n xs) a k 0 front (omega arith)
    ∙ get_or-append_right ys (post_of a n xs) n (k - a) 0 long (omega arith)
    ∙ get_or-drop n (drop a xs) (k - a - n) 0
    ∙ get_or-drop a xs (n + (k - a - n)) 0
    ∙ ap (λ i. slice_index xs i) (let e : a + (n + (k - a - n)) ≡ k = omega arith in e)

pub part_at : (a n : ℕ) (xs : List ℕ) (k : ℕ) → k < n → slice_index (take n (drop a xs)) k ≡ slice_index xs (a + k)
part_at a n xs k lt = get_or-take n (drop a xs) k 0 lt ∙ get_or-drop a xs k 0

pub part_length : (a n : ℕ) (xs : List ℕ) → a + n ≤ length xs → length (take n (drop a xs)) ≡ n
part_length a n xs fits =
    let long : n ≤ length (drop a xs) = rw length-drop (omega arith) in
    length-take-le n (drop a xs) long
