-- A value of a list of which a part was written.
use Rattle.std.proofs.Common.{◌≡◌, ℕ, ◌+◌, ◌-◌, ◌<◌, ◌≤◌, List, length, slice_index, get_or, take, drop, ◌++◌, ◌∙◌, ap, arith, length-append, length-drop}
use Rattle.std.proofs.lemmas.List.{get_or_append_left, get_or-append_right, get_or-take, get_or-drop, length-take-le}
use borrow.Rule.Slice.PartMut.{put_mid, post_of}

pub put_before : (a n : ℕ) (xs ys : List ℕ) (k : ℕ) → k < a → a ≤ length xs
    → slice_index (put_mid a n xs ys) k ≡ slice_index xs k
put_before a n xs ys k lt le =
    let long : length (take a xs) ≡ a = length-take-le a xs le in
    get_or_append_left (take a xs) (ys ++ post_of a n xs) 0 k (omega arith) ∙ get_or-take a xs k 0 lt

pub put_within : (a n : ℕ) (xs ys : List ℕ) (k j : ℕ) → j < n → a + j ≡ k → a ≤ length xs → length ys ≡ n
    → slice_index (put_mid a n xs ys) k ≡ slice_index ys j
put_within a n xs ys k j lt e le long =
    let front : length (take a xs) ≡ a = length-take-le a xs le in
    get_or-append_right (take a xs) (ys ++ post_of a n xs) a k 0 front (omega arith)
    ∙ ap (λ i. get_or (ys ++ post_of a n xs) i 0) (let back : k - a ≡ j = omega arith in back)
    ∙ get_or_append_left ys (post_of a n xs) 0 j (omega arith)

pub put_after : (a n : ℕ) (xs ys : List ℕ) (k : ℕ) → a + n ≤ k → a ≤ length xs → length ys ≡ n
    → slice_index (put_mid a n xs ys) k ≡ slice_index xs k
put_after a n xs ys k past le long =
    let front : length (take a xs) ≡ a = length-take-le a xs le in
    get_or-append_right (take a xs) (ys ++ post_of a n xs) a k 0 front (omega arith)
    ∙ get_or-append_right ys (post_of a n xs) n (k - a) 0 long (omega arith)
    ∙ get_or-drop n (drop a xs) (k - a - n) 0
    ∙ get_or-drop a xs (n + (k - a - n)) 0
    ∙ ap (λ i. slice_index xs i) (let whole : a + (n + (k - a - n)) ≡ k = omega arith in whole)

-- how long a part is
pub part_length : (a n : ℕ) (xs : List ℕ) → a + n ≤ length xs → length (take n (drop a xs)) ≡ n
part_length a n xs fits =
    let long : n ≤ length (drop a xs) = rw length-drop (omega arith) in
    length-take-le n (drop a xs) long

-- a list keeps its length where a part was written
pub put_length : (a n : ℕ) (xs ys : List ℕ) → a + n ≤ length xs → length ys ≡ n
    → length (put_mid a n xs ys) ≡ length xs
put_length a n xs ys fits long =
    let front : length (take a xs) ≡ a = length-take-le a xs (omega arith) in
    rw (length-append, front, length-append, length-drop, length-drop) (omega arith)
