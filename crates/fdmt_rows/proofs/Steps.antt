-- A row that is written a step at a time.
use Rattle.std.proofs.Common.{◌≡◌, ℕ, ◌+◌, ◌-◌, ◌<◌, ◌≤◌, List, length, map, slice_index, get_or, cond, ltb, max, ◌∙◌, sym, ap, subst, arith}
use Rattle.std.proofs.lemmas.Bool.Decides.{nat_tests}
use Rattle.std.specs.Simd.Lanes.{zip2, chunk, put_chunk}
use Rattle.std.proofs.lemmas.List.{get_or-map, length-map}
use Rattle.std.proofs.lemmas.Simd.{get_or-put_chunk_below, get_or-put_chunk_at, get_or-put_chunk_above, get_or-chunk, get_or-zip2, length-zip2, length-chunk}
use Rattle.fdmt_rows.specs.Writes.{Writes}

-- lanes that are stored at a place
pub stored : (xs lanes : List ℕ) (at n : ℕ) (value : ℕ → ℕ) → length lanes ≡ n → at + n ≤ length xs
    → ((j : ℕ) → j < n → slice_index lanes j ≡ value (at + j))
    → Writes xs (put_chunk at xs lanes) at (at + n) value
stored xs lanes at n value long fits is = record {
  before = λ k h. get_or-put_chunk_below at xs lanes k 0 h;
  written = λ k low high.
      let j : ℕ = k - at in
      let e : at + j ≡ k = omega arith in
      let lt : j < n = omega arith in
      let P : ℕ → Type 0 = λ i. get_or (put_chunk at xs lanes) i 0 ≡ value i in
      subst P e (get_or-put_chunk_at at xs lanes j 0 (omega arith) (omega arith) ∙ is j lt);
  after = λ k h. get_or-put_chunk_above at xs lanes k 0 (omega arith);
}

-- the lanes of a row from a place on, stored as they are
pub copied : (xs ys : List ℕ) (at n : ℕ) → at + n ≤ length xs → at + n ≤ length ys
    → Writes xs (put_chunk at xs (chunk at n ys)) at (at + n) (λ k. slice_index ys k)
copied xs ys at n fits inside =
    stored xs _ at n _ (length-chunk at n ys inside) fits (λ j lt. get_or-chunk at n ys j 0 lt)

-- the lanes of a row from a place on, in another width
abbrev pub cast : List ℕ → ℕ → ℕ → List ℕ
cast xs at n = map (λ x. x) (chunk at n xs)

pub length_cast : (xs : List ℕ) (at n : ℕ) → at + n ≤ length xs → length (cast xs at n) ≡ n
length_cast xs at n fits = length-map (chunk at n xs) (λ x. x) ∙ length-chunk at n xs fits

pub cast_at : (xs : List ℕ) (at n j : ℕ) → at + n ≤ length xs → j < n
    → slice_index (cast xs at n) j ≡ slice_index xs (at + j)
cast_at xs at n j fits lt =
    let long = length-chunk at n xs fits in
    get_or-map (λ x. x) (chunk at n xs) j 0 0 (omega arith) ∙ get_or-chunk at n xs j 0 lt

pub cast_stored : (xs ys : List ℕ) (at n : ℕ) → at + n ≤ length xs → at + n ≤ length ys
    → Writes xs (put_chunk at xs (cast ys at n)) at (at + n) (λ k. slice_index ys k)
cast_stored xs ys at n fits inside =
    stored xs _ at n _ (length_cast ys at n inside) fits (λ j lt. cast_at ys at n j inside lt)

-- the lanes of two rows from a place on, joined
pub zipped : (f : ℕ → ℕ → ℕ) (a b : List ℕ) (at n : ℕ) → at + n ≤ length a → at + n ≤ length b
    → (j : ℕ) → j < n
    → slice_index (zip2 f (chunk at n a) (chunk at n b)) j ≡ f (slice_index a (at + j)) (slice_index b (at + j))
zipped f a b at n in_a in_b j lt =
    let la : length (chunk at n a) ≡ n = length-chunk at n a in_a in
    let lb : length (chunk at n b) ≡ n = length-chunk at n b in_b in
    get_or-zip2 f (chunk at n a) (chunk at n b) j 0 0 0 (omega arith) (omega arith)
    ∙ ap (λ x. f x (get_or (chunk at n b) j 0)) (get_or-chunk at n a j 0 lt)
    ∙ ap (λ y. f (get_or a (at + j) 0) y) (get_or-chunk at n b j 0 lt)

-- and with those of the second in another width
pub zipped_cast : (f : ℕ → ℕ → ℕ) (a b : List ℕ) (at n : ℕ) → at + n ≤ length a → at + n ≤ length b
    → (j : ℕ) → j < n
    → slice_index (zip2 f (chunk at n a) (cast b at n)) j ≡ f (slice_index a (at + j)) (slice_index b (at + j))
zipped_cast f a b at n in_a in_b j lt =
    let la : length (chunk at n a) ≡ n = length-chunk at n a in_a in
    let lb : length (cast b at n) ≡ n = length_cast b at n in_b in
    get_or-zip2 f (chunk at n a) (cast b at n) j 0 0 0 (omega arith) (omega arith)
    ∙ ap (λ x. f x (get_or (cast b at n) j 0)) (get_or-chunk at n a j 0 lt)
    ∙ ap (λ y. f (get_or a (at + j) 0) y) (cast_at b at n j in_b lt)

pub length_zipped_cast : (f : ℕ → ℕ → ℕ) (a b : List ℕ) (at n : ℕ) → at + n ≤ length a → at + n ≤ length b
    → length (zip2 f (chunk at n a) (cast b at n)) ≡ n
length_zipped_cast f a b at n in_a in_b =
    let la : length (chunk at n a) ≡ n = length-chunk at n a in_a in
    length-zip2 f (chunk at n a) (cast b at n) (la ∙ sym (length_cast b at n in_b)) ∙ la

pub length_zipped : (f : ℕ → ℕ → ℕ) (a b : List ℕ) (at n : ℕ) → at + n ≤ length a → at + n ≤ length b
    → length (zip2 f (chunk at n a) (chunk at n b)) ≡ n
length_zipped f a b at n in_a in_b =
    let la : length (chunk at n a) ≡ n = length-chunk at n a in_a in
    let lb : length (chunk at n b) ≡ n = length-chunk at n b in_b in
    length-zip2 f (chunk at n a) (chunk at n b) (la ∙ sym lb) ∙ la

-- the greater of two lanes
pub greater_is_max : (x y z : ℕ) → y ≡ z → cond (ltb x y) y x ≡ max x z
greater_is_max x y z e = grind (arith, nat_tests)
