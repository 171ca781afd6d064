-- Values of a list of which a part was written.
use Rattle.std.proofs.Common.{◌≡◌, ℕ, ◌+◌, ◌-◌, ◌<◌, ◌≤◌, List, length, slice_index, get_or, take, drop, ◌++◌, ◌∙◌, ap, sym, subst, arith, inl, inr}
use Rattle.std.proofs.lemmas.Bool.{cases_lt}
use Rattle.std.proofs.lemmas.List.{get_or_append_left, get_or-append_right, get_or-take, get_or-drop, length-take-le}
use borrow.Rule.Slice.PartMut.{put_mid, post_of}
use Rattle.row_schedule.specs.Steps.{AreApart}
use Rattle.row_schedule.specs.Making.{Puts}

put_before : (a n : ℕ) (xs ys : List ℕ) (k : ℕ) → k < a → a ≤ length xs →
    slice_index (put_mid a n xs ys) k ≡ slice_index xs k
put_before a n xs ys k lt le =
    let long : length (take a xs) ≡ a = length-take-le a xs le in
    get_or_append_left (take a xs) (ys ++ post_of a n xs) 0 k (omega arith) ∙ get_or-take a xs k 0 lt

put_within : (a n : ℕ) (xs ys : List ℕ) (k j : ℕ) → j < n → a + j ≡ k → a ≤ length xs → length ys ≡ n →
    slice_index (put_mid a n xs ys) k ≡ slice_index ys j
put_within a n xs ys k j lt e le long =
    let front : length (take a xs) ≡ a = length-take-le a xs le in
    get_or-append_right (take a xs) (ys ++ post_of a n xs) a k 0 front (omega arith)
    ∙ ap (λ i. get_or (ys ++ post_of a n xs) i 0) (let back : k - a ≡ j = omega arith in back)
    ∙ get_or_append_left ys (post_of a n xs) 0 j (omega arith)

put_after : (a n : ℕ) (xs ys : List ℕ) (k : ℕ) → a + n ≤ k → a ≤ length xs → length ys ≡ n →
    slice_index (put_mid a n xs ys) k ≡ slice_index xs k
put_after a n xs ys k past le long =
    let front : length (take a xs) ≡ a = length-take-le a xs le in
    get_or-append_right (take a xs) (ys ++ post_of a n xs) a k 0 front (omega arith)
    ∙ get_or-append_right ys (post_of a n xs) n (k - a) 0 long (omega arith)
    ∙ get_or-drop n (drop a xs) (k - a - n) 0
    ∙ get_or-drop a xs (n + (k - a - n)) 0
    ∙ ap (λ i. slice_index xs i) (let whole : a + (n + (k - a - n)) ≡ k = omega arith in whole)

-- a value of a part
pub part_at : (a n : ℕ) (xs : List ℕ) (i : ℕ) → i < n → slice_index (take n (drop a xs)) i ≡ slice_index xs (a + i)
part_at a n xs i lt = get_or-take n (drop a xs) i 0 lt ∙ get_or-drop a xs i 0

-- a part is written
pub puts : (a n m : ℕ) (xs ys : List ℕ) (value : ℕ → ℕ) → n ≡ m → a + n ≤ length xs → length ys ≡ n →
    ((i : ℕ) → i < m → slice_index ys i ≡ value i) → Puts xs (put_mid a n xs ys) a m value
puts a n m xs ys value same fits long is = record {
  written = λ i lt. put_within a n xs ys (a + i) i (omega arith) (omega arith) (omega arith) long ∙ is i lt;
  stays = λ k apart. elim apart [
    | inl before ↦ put_before a n xs ys k (omega arith) (omega arith)
    | inr after ↦ put_after a n xs ys k (omega arith) (omega arith) long
  ];
}

-- one of three parts of a list is
pub puts_between : (a n : ℕ) (xs before ys after : List ℕ) (value : ℕ → ℕ) → before ≡ take a xs →
    after ≡ drop n (drop a xs) → a + n ≤ length xs → length ys ≡ n →
    ((i : ℕ) → i < n → slice_index ys i ≡ value i) → Puts xs (before ++ (ys ++ after)) a n value
puts_between a n xs before ys after value front back fits long is =
    let e : put_mid a n xs ys ≡ before ++ (ys ++ after) =
    ap (λ b. b ++ (ys ++ drop n (drop a xs))) (sym front) ∙ ap (λ c. before ++ (ys ++ c)) (sym back) in
    subst (λ zs. Puts xs zs a n value) e (puts a n n xs ys value (omega arith) fits long is)

-- a value of a part that stands before or after
pub beside_at : (xs before after part : List ℕ) (at count past place i : ℕ) → before ≡ take at xs →
    after ≡ drop count (drop at xs) → past ≡ at + count → at + count ≤ length xs → AreApart place count at count →
    (place + count ≤ length before → part ≡ take count (drop place before)) →
    (length before < place + count → part ≡ take count (drop (place - past) after)) → i < count →
    slice_index part i ≡ slice_index xs (place + i)
beside_at xs before after part at count past place i front back past_is fits apart first second lt =
    let long : length before ≡ at = ap length front ∙ length-take-le at xs (omega arith) in
    elim (cases_lt (length before) (place + count)) [
      | inr le ↦
          ap (λ ys. slice_index ys i) (first le) ∙ part_at place count before i lt
          ∙ ap (λ ys. slice_index ys (place + i)) front ∙ get_or-take at xs (place + i) 0 (omega arith)
      | inl past_it ↦
          let later : at + count ≤ place = elim apart [
            | inl early ↦ absurd (omega arith)
            | inr late ↦ late
          ] in
          ap (λ ys. slice_index ys i) (second past_it) ∙ part_at (place - past) count after i lt
          ∙ ap (λ ys. slice_index ys (place - past + i)) back
          ∙ get_or-drop count (drop at xs) (place - past + i) 0
          ∙ get_or-drop at xs (count + (place - past + i)) 0
          ∙ ap (λ k. slice_index xs k) (let e : at + (count + (place - past + i)) ≡ place + i = omega arith in e)
    ]
