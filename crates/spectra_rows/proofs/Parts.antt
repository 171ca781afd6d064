-- Cells of rows that are written a part at a time.
use Rattle.std.proofs.Common.{◌≡◌, ℕ, refl, ◌+◌, ◌-◌, ◌*◌, ◌<◌, ◌≤◌, ◌≢◌, ◌⊎◌, inl, inr, Bool, true, false, List, [], ◌++◌, take, drop, length, slice_index, get_or, set, ◌∙◌, sym, ap, subst, arith, get_or-set_other, get_or-set_same}
use Rattle.std.proofs.lemmas.Bool.{cases_lt}
use borrow.Rule.Slice.PartMut.{put_mid, post_of, same_len_mid}
use Rattle.std.proofs.lemmas.List.{append-nil, drop_all, length-drop, take_all, take_at, length-take-le, get_or-take, get_or-drop, get_or_append_left, get_or-append_right}
use Rattle.std.proofs.Math.Nat.{mul-le-mul_left, mul-le-mul_right}
use Rattle.std.specs.Simd.Lanes.{put_chunk}
use Rattle.std.proofs.lemmas.Simd.{get_or-put_chunk_below, get_or-put_chunk_at, get_or-put_chunk_above}
use Rattle.spectra_rows.specs.Cells.{WritesCells, Unpacks, cell, channel_place}

-- ---- rows

-- a row ends before the next begins
pub rows_apart : (c d chunk : ℕ) → c < d → c * chunk + chunk ≤ d * chunk
rows_apart c d chunk lt =
    let next : c + 1 ≤ d = omega arith in
    let part : (c + 1) * chunk ≤ d * chunk = mul-le-mul_right chunk next in
    omega arith

-- two places have two rows
places_apart : (channels : ℕ) (is_falling : Bool) (p q : ℕ) → p < channels → q < channels → p < q
    → (channel_place channels is_falling p < channel_place channels is_falling q)
    ⊎ (channel_place channels is_falling q < channel_place channels is_falling p)
places_apart channels true p q here there lt = inl lt
places_apart channels false p q here there lt = inr (omega arith)

-- the place of the channel of a place is that place
place_again : (channels : ℕ) (is_falling : Bool) (c : ℕ) → c < channels
    → channel_place channels is_falling (channel_place channels is_falling c) ≡ c
place_again channels true c here = refl
place_again channels false c here = omega arith

pub place_below : (channels : ℕ) (is_falling : Bool) (c : ℕ) → c < channels →
    channel_place channels is_falling c < channels
place_below channels true c here = here
place_below channels false c here = omega arith

-- ---- one row

-- of a list no other value than n from `at` on is written
record OnlyThere (old new : List ℕ) (at n : ℕ) : Type 0 where
  below : (k : ℕ) → k < at → slice_index new k ≡ slice_index old k
  above : (k : ℕ) → at + n ≤ k → slice_index new k ≡ slice_index old k

module _ (channels : ℕ) (is_falling : Bool) (chunk p from n : ℕ) (old new : List ℕ) where
  abbrev row : ℕ → ℕ
  row q = channel_place channels is_falling q

  other_row : from + n ≤ chunk → OnlyThere old new (row p * chunk + from) n
      → (q t : ℕ) → (row p < row q) ⊎ (row q < row p) → t < chunk
      → slice_index new (row q * chunk + t) ≡ slice_index old (row q * chunk + t)
  other_row fits only q t order low = elim order [
    | inl lt ↦
        let apart = rows_apart (row p) (row q) chunk lt in
        only.above (row q * chunk + t) (omega arith)
    | inr lt ↦
        let apart = rows_apart (row q) (row p) chunk lt in
        only.below (row q * chunk + t) (omega arith)
  ]

  row_written : (value : ℕ → ℕ → ℕ) → p < channels → from + n ≤ chunk → OnlyThere old new (row p * chunk + from) n
      → ((t : ℕ) → from ≤ t → t < from + n → slice_index new (row p * chunk + t) ≡ value p t)
      → WritesCells old new row channels chunk p (p + 1) from (from + n) value
  row_written value here fits only is = record {
    written = λ q t low high after before.
        let e : p ≡ q = omega arith in
        let P : ℕ → Type 0 = λ i. slice_index new (row i * chunk + t) ≡ value i t in
        subst P e (is t after before);
    lower = λ q t lt small. elim (places_apart channels is_falling q p (omega arith) here lt) [
      | inl g ↦ other_row fits only q t (inr g) small
      | inr g ↦ other_row fits only q t (inl g) small
    ];
    beside = λ q t there small side. elim (cases_lt q p) [
      | inl lt ↦ elim (places_apart channels is_falling q p there here lt) [
        | inl g ↦ other_row fits only q t (inr g) small
        | inr g ↦ other_row fits only q t (inl g) small
      ]
      | inr ge ↦ elim (cases_lt p q) [
        | inl lt ↦ other_row fits only q t (places_apart channels is_falling p q here there lt) small
        | inr le ↦
            let e : p ≡ q = omega arith in
            let P : ℕ → Type 0 = λ i. slice_index new (row i * chunk + t) ≡ slice_index old (row i * chunk + t) in
            subst P e (elim side [
              | inl before ↦ only.below (row p * chunk + t) (omega arith)
              | inr after ↦ only.above (row p * chunk + t) (omega arith)
            ])
      ]
    ];
  }

-- a place of a row lies within the rows
pub row_fits : (channels : ℕ) (is_falling : Bool) (chunk p from n room : ℕ) → p < channels → from + n ≤ chunk
    → channels * chunk + (from + n) ≤ room + chunk → channel_place channels is_falling p * chunk + from + n ≤ room
row_fits channels is_falling chunk p from n room here fits all =
    let apart = rows_apart (channel_place channels is_falling p) channels chunk
    (place_below channels is_falling p here) in
    omega arith

-- a sample lies no further in its spectra than its cell in the rows
pub sample_within : (channels chunk p t room : ℕ) → p < channels → t < chunk
    → channels * chunk + (t + 1) ≤ room + chunk → t * channels + p < room
sample_within channels chunk p t room here low all =
    let m : ℕ = channels - 1 in
    let count : channels ≡ m + 1 = omega arith in
    let next : t + 1 ≤ chunk = omega arith in
    let part : m * (t + 1) ≤ m * chunk = mul-le-mul_left m next in
    let rows : channels * chunk ≡ (m + 1) * chunk = ap (λ n. n * chunk) count in
    let samples : t * channels ≡ t * (m + 1) = ap (λ n. t * n) count in
    omega arith

-- a byte of each of n spectra, stored as lanes
pub lanes_stored : (channels : ℕ) (is_falling : Bool) (chunk p r from n : ℕ) (xs ys lanes : List ℕ) → p < channels
    → r ≡ channel_place channels is_falling p → from + n ≤ chunk
    → channels * chunk + (from + n) ≤ length xs + chunk → length lanes ≡ n → ys ≡ put_chunk (r * chunk + from) xs lanes
    → WritesCells xs ys (channel_place channels is_falling) channels chunk p (p + 1) from (from + n)
    (λ q t. slice_index lanes (t - from))
lanes_stored channels is_falling chunk p r from n xs ys lanes here row fits room long is =
    let at : ℕ = channel_place channels is_falling p * chunk + from in
    let inside : at + n ≤ length xs = row_fits channels is_falling chunk p from n (length xs) here fits room in
    let stored : ys ≡ put_chunk at xs lanes = is ∙ ap (λ i. put_chunk (i * chunk + from) xs lanes) row in
    let Stored : List ℕ → Type 0 = λ new. WritesCells xs new (channel_place channels is_falling) channels chunk
    p (p + 1) from (from + n) (λ q t. slice_index lanes (t - from)) in
    subst Stored (sym stored)
    (row_written channels is_falling chunk p from n xs (put_chunk at xs lanes) (λ q t. slice_index lanes (t - from))
    here fits
    record {
      below = λ k lt. get_or-put_chunk_below at xs lanes k 0 lt;
      above = λ k le. get_or-put_chunk_above at xs lanes k 0 (omega arith);
    }
    (λ t after before.
    let place : at + (t - from) ≡ channel_place channels is_falling p * chunk + t = omega arith in
    let P : ℕ → Type 0 = λ i. get_or (put_chunk at xs lanes) i 0 ≡ slice_index lanes (t - from) in
    subst P place (get_or-put_chunk_at at xs lanes (t - from) 0 (omega arith) (omega arith))))

-- one value that is stored
pub value_stored : (channels : ℕ) (is_falling : Bool) (chunk p r t : ℕ) (xs ys : List ℕ) (value : ℕ → ℕ → ℕ)
    → p < channels → r ≡ channel_place channels is_falling p → t < chunk
    → channels * chunk + (t + 1) ≤ length xs + chunk
    → ys ≡ set xs (r * chunk + t) (value p t)
    → WritesCells xs ys (channel_place channels is_falling) channels chunk p (p + 1) t (t + 1) value
value_stored channels is_falling chunk p r t xs ys value here row low room stored =
    let y : ℕ = value p t in
    let at : ℕ = channel_place channels is_falling p * chunk + t in
    let inside : at + 1 ≤ length xs =
    row_fits channels is_falling chunk p t 1 (length xs) here (omega arith) room in
    let at_place : ys ≡ set xs at y = stored ∙ ap (λ i. set xs (i * chunk + t) y) row in
    let Stored : List ℕ → Type 0 = λ new. WritesCells xs new (channel_place channels is_falling) channels chunk
    p (p + 1) t (t + 1) value in
    subst Stored (sym at_place)
    (row_written channels is_falling chunk p t 1 xs (set xs at y) value here (omega arith)
    record {
      below = λ k lt. let ne : k ≢ at = omega arith in get_or-set_other xs at k y 0 ne;
      above = λ k le. let ne : k ≢ at = omega arith in get_or-set_other xs at k y 0 ne;
    }
    (λ s after before.
    let e : t ≡ s = omega arith in
    let P : ℕ → Type 0 = λ i.
    slice_index (set xs at y) (channel_place channels is_falling p * chunk + i) ≡ value p i in
    subst P e (get_or-set_same xs at y 0 (omega arith))))

-- ---- parts together

module _ (row : ℕ → ℕ) (channels chunk : ℕ) (value : ℕ → ℕ → ℕ) where
  pub no_place : (xs : List ℕ) (lo from to : ℕ) → WritesCells xs xs row channels chunk lo lo from to value
  no_place xs lo from to = record {
    written = λ p t low high after before. absurd (omega arith);
    lower = λ p t lt small. refl;
    beside = λ p t here small side. refl;
  }

  pub same_values : (old new : List ℕ) (lo hi from to : ℕ) (step : ℕ → ℕ → ℕ)
      → WritesCells old new row channels chunk lo hi from to step
      → ((p t : ℕ) → lo ≤ p → p < hi → from ≤ t → t < to → step p t ≡ value p t)
      → WritesCells old new row channels chunk lo hi from to value
  same_values old new lo hi from to step part same = record {
    written = λ p t low high after before. part.written p t low high after before ∙ same p t low high after before;
    lower = part.lower;
    beside = part.beside;
  }

  pub more_places : (old mid new : List ℕ) (lo m hi from to : ℕ) → lo ≤ m → to ≤ chunk
      → WritesCells old mid row channels chunk lo m from to value
      → WritesCells mid new row channels chunk m hi from to value
      → WritesCells old new row channels chunk lo hi from to value
  more_places old mid new lo m hi from to order fits first second = record {
    written = λ p t low high after before. elim (cases_lt p m) [
      | inl lt ↦ second.lower p t lt (omega arith) ∙ first.written p t low lt after before
      | inr ge ↦ second.written p t ge high after before
    ];
    lower = λ p t lt small. second.lower p t (omega arith) small ∙ first.lower p t lt small;
    beside = λ p t here small side. second.beside p t here small side ∙ first.beside p t here small side;
  }

-- ---- rows that begin further on

module _ (xs ys zs : List ℕ) (ready : ℕ) (fits : ready ≤ length xs)
    (is : zs ≡ put_mid ready (length xs - ready) xs ys) where
  long : length (take ready xs) ≡ ready
  long = length-take-le ready xs fits

  before_value : (k : ℕ) → k < ready → slice_index zs k ≡ slice_index xs k
  before_value k low =
      ap (λ (l : List ℕ). slice_index l k) is
      ∙ get_or_append_left (take ready xs) _ 0 k (let l : k < length (take ready xs) = omega (arith, long) in l)
      ∙ get_or-take ready xs k 0 low

  behind_value : length ys ≡ length xs - ready → (k : ℕ) → slice_index zs (ready + k) ≡ slice_index ys k
  behind_value same k =
      let none : post_of ready (length xs - ready) xs ≡ [] =
      drop_all (length xs - ready) (drop ready xs)
      (let l : length (drop ready xs) ≤ length xs - ready = omega (arith, length-drop ready xs) in l) in
      ap (λ (l : List ℕ). slice_index l (ready + k)) is
      ∙ ap (λ (l : List ℕ). slice_index (take ready xs ++ l) (ready + k))
      (ap (λ (l : List ℕ). ys ++ l) none ∙ append-nil ys)
      ∙ get_or-append_right (take ready xs) ys ready (ready + k) 0 long (omega arith)
      ∙ ap (λ i. slice_index ys i) (let e : ready + k - ready ≡ k = omega arith in e)

pub unpacked_behind : (channels : ℕ) (is_falling : Bool) (nbit npol chunk : ℕ) (bytes xs ys new : List ℕ)
    (ready count : ℕ) → ready + count ≤ chunk → ready ≤ length xs → length ys ≡ length xs - ready
    → new ≡ put_mid ready (length xs - ready) xs ys
    → WritesCells (take (length xs - ready) (drop ready xs)) ys (channel_place channels is_falling) channels chunk
    0 channels 0 count
    (cell channels nbit npol bytes)
    → Unpacks channels is_falling nbit npol chunk bytes xs new ready count
unpacked_behind channels is_falling nbit npol chunk bytes xs ys new ready count fits room same is cells = record {
  before = λ c t here low. elim (cases_lt 0 c) [
    | inl some ↦
        let d : ℕ = c - 1 in
        let p : ℕ = channel_place channels is_falling d in
        let s : ℕ = chunk - ready + t in
        let inside : d < channels = omega arith in
        let below : p < channels = place_below channels is_falling d inside in
        let step : (d + 1) * chunk ≡ c * chunk = ap (λ i. i * chunk) (omega arith) in
        let at : ready + (d * chunk + s) ≡ c * chunk + t = omega arith in
        let P : ℕ → Type 0 = λ i. slice_index ys (i * chunk + s)
        ≡ slice_index (take (length xs - ready) (drop ready xs)) (i * chunk + s) in
        let all : take (length xs - ready) (drop ready xs) ≡ drop ready xs =
        take_all (length xs - ready) (drop ready xs)
        (let l : length (drop ready xs) ≤ length xs - ready = omega (arith, length-drop ready xs) in l) in
        let kept : P d = subst P (place_again channels is_falling d inside)
        (cells.beside p s below (omega arith) (inr (omega arith))) in
        ap (λ i. slice_index new i) (sym at)
        ∙ behind_value xs ys new ready room is same (d * chunk + s)
        ∙ kept
        ∙ ap (λ (l : List ℕ). slice_index l (d * chunk + s)) all
        ∙ get_or-drop ready xs (d * chunk + s) 0
        ∙ ap (λ i. slice_index xs i) at
    | inr none ↦
        let first : c * chunk ≡ 0 * chunk = ap (λ i. i * chunk) (let e : c ≡ 0 = omega arith in e) in
        before_value xs ys new ready room is (c * chunk + t) (omega arith)
  ];
  behind = λ c t here low.
      let p : ℕ = channel_place channels is_falling c in
      let at : c * chunk + (ready + t) ≡ ready + (c * chunk + t) = omega arith in
      let P : ℕ → Type 0 = λ i. slice_index ys (i * chunk + t) ≡ cell channels nbit npol bytes p t in
      ap (λ i. slice_index new i) at
      ∙ behind_value xs ys new ready room is same (c * chunk + t)
      ∙ subst P (place_again channels is_falling c here)
      (cells.written p t (omega arith) (place_below channels is_falling c here) (omega arith) low);
}

-- the same of rows that a vector lends
pub unpacked_in : (channels : ℕ) (is_falling : Bool) (nbit npol chunk : ℕ) (bytes items xs ys rest : List ℕ)
    (len ready count : ℕ) → ready + count ≤ chunk → ready ≤ length xs
    → length ys ≡ length (take (length xs - ready) (drop ready xs)) → length xs ≡ len → xs ≡ items
    → WritesCells (take (length xs - ready) (drop ready xs)) ys (channel_place channels is_falling) channels chunk
    0 channels 0 count (cell channels nbit npol bytes)
    → Unpacks channels is_falling nbit npol chunk bytes items
    (take len (put_mid ready (length xs - ready) xs ys ++ rest)) ready count
unpacked_in channels is_falling nbit npol chunk bytes items xs ys rest len ready count fits room same total is cells =
    let tail = length-drop ready xs in
    let other : length (take (length xs - ready) (drop ready xs)) ≡ length xs - ready =
    length-take-le (length xs - ready) (drop ready xs) (omega arith) in
    let mid : length ys ≡ length xs - ready = same ∙ other in
    let all : length (put_mid ready (length xs - ready) xs ys) ≡ len =
    same_len_mid ready (length xs - ready) xs ys same ∙ total in
    subst (λ (old : List ℕ). Unpacks channels is_falling nbit npol chunk bytes old
    (take len (put_mid ready (length xs - ready) xs ys ++ rest)) ready count) is
    (unpacked_behind channels is_falling nbit npol chunk bytes xs ys _ ready count fits room mid
    (take_at (put_mid ready (length xs - ready) xs ys) rest len all) cells)
