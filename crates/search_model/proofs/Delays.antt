-- Parts of a list by the delays of its candidates: their members, their merge, and how many they have.
use Rattle.std.proofs.Common.{◌≡◌, ℕ, ◌+◌, ◌<◌, ◌≤◌, inl, inr, ◌↔◌, ◌&&◌, Bool, true, false, cond, leb, ltb, List, [], ◌∷◌, map, length, get_or, filter, sum_by, count_by, zero, suc, refl, sym, ◌∙◌, arith}
use Rattle.std.specs.Prelude.{Contains, Any}
use Rattle.std.specs.List.{range_with_len}
use Rattle.std.proofs.lemmas.Bool.{cases_lt, and_parts, and_from, leb-true, le-leb, lt-leb, ltb-true, lt-ltb, le-ltb}
use Rattle.std.proofs.lemmas.List.Kept.{AllPairs-filter}
use Rattle.std.proofs.lemmas.List.Sums.{sum_by-cons}
use Rattle.std.proofs.lemmas.List.FromFn.{length-map-range_with_len, get_or-map-range_with_len, sum_by-map-range_with_len_more}
use Rattle.search_model.specs.declared.candidate.Candidate.{Candidate}
use Rattle.search_model.specs.Candidates.{delay_of, within_delays}
use Rattle.search_model.specs.Order.{Precedes, IsRising, IsMergeOf}
use Rattle.search_model.proofs.Lists.{member_filter, filter_member}
use Rattle.search_model.proofs.Order.{rising_same}

-- ---- one part

pub within_members : (least bound : ℕ) (list : List Candidate) (c : Candidate) →
    Contains (within_delays least bound list) c
    ↔ (Contains list c × (least ≤ delay_of c) × (delay_of c < bound))
within_members least bound list c =
    let test = λ (x : Candidate). leb least (delay_of x) && ltb (delay_of x) bound in (
      λ h.
          let both = member_filter test list c h in
          let tests = and_parts (leb least (delay_of c)) (ltb (delay_of c) bound) both.0 in
          (both.1, leb-true least (delay_of c) tests.0, ltb-true (delay_of c) bound tests.1),
      λ (stands, from, to).
          filter_member test list c
          (and_from (leb least (delay_of c)) (ltb (delay_of c) bound) (le-leb least (delay_of c) from)
          (lt-ltb (delay_of c) bound to)) stands,
    )

pub within_rises : (least bound : ℕ) (list : List Candidate) → IsRising list → IsRising (within_delays least bound list)
within_rises least bound list h =
    AllPairs-filter Precedes (λ x. leb least (delay_of x) && ltb (delay_of x) bound) list h

-- ---- parts beside each other

-- the parts between n + 1 starts
abbrev pub parts_between : (ℕ → ℕ) → ℕ → List Candidate → List (List Candidate)
parts_between start n list = map (λ k. within_delays (start k) (start (k + 1)) list) (range_with_len 0 n)

-- a number between the first and the last of some starts lies between two neighbours of them
neighbours : (start : ℕ → ℕ) (d n : ℕ) → start 0 ≤ d → d < start n →
    (k : ℕ) × (k < n) × (start k ≤ d) × (d < start (k + 1))
neighbours start d zero from to = absurd (omega arith)
neighbours start d (suc n) from to = elim (cases_lt d (start n)) [
  | inl below ↦ let one = neighbours start d n from below in (one.0, omega (arith, one.1), one.2, one.3)
  | inr at ↦ let e : n + 1 ≡ suc n = omega arith in (n, omega arith, at, rw e to)
]

module _ (start : ℕ → ℕ) (n : ℕ) (list : List Candidate) (rising : IsRising list)
    (inside : (c : Candidate) → Contains list c → (start 0 ≤ delay_of c) × (delay_of c < start n)) where
  part_at : (k : ℕ) (d : List Candidate) → k < n →
      get_or (parts_between start n list) k d ≡ within_delays (start k) (start (k + 1)) list
  part_at k d small =
      get_or-map-range_with_len (λ i. within_delays (start i) (start (i + 1)) list) 0 n k k d small (omega arith)

  parts_count : length (parts_between start n list) ≡ n
  parts_count = length-map-range_with_len (λ i. within_delays (start i) (start (i + 1)) list) 0 n

  to_part : (c : Candidate) → Contains list c → Any (λ part. Contains part c) (parts_between start n list)
  to_part c h =
      let within = inside c h in
      let place = neighbours start (delay_of c) n within.0 within.1 in
      let count = parts_count in
      let small = place.1 in (
        place.0,
        within_delays (start place.0) (start (place.0 + 1)) list,
        omega arith,
        part_at place.0 _ place.1,
        (within_members (start place.0) (start (place.0 + 1)) list c).1 (h, place.2, place.3),
      )

  from_part : (c : Candidate) → Any (λ part. Contains part c) (parts_between start n list) → Contains list c
  from_part c (k, part, small, is, h) =
      let count = parts_count in
      let e : part ≡ within_delays (start k) (start (k + 1)) list = sym is ∙ part_at k part (omega arith) in
      ((within_members (start k) (start (k + 1)) list c).0 (rw e at h)).0

  -- they are merged to the list
  pub between_merge : IsMergeOf (parts_between start n list) list
  between_merge = record { rises = rising; members = λ c. (to_part c, from_part c) }

  -- and the part between the first and the last start is the list
  pub all_within : within_delays (start 0) (start n) list ≡ list
  all_within =
      rising_same (within_delays (start 0) (start n) list) list (within_rises (start 0) (start n) list rising) rising
      (λ c. (
        λ h. ((within_members (start 0) (start n) list c).0 h).0,
        λ h. let within = inside c h in (within_members (start 0) (start n) list c).1 (h, within.0, within.1),
      ))

-- ---- how many there are

-- what an element adds to the count of those that pass `test` first
one_more : (test kind : Candidate → Bool) (x : Candidate) (xs : List Candidate) →
    count_by kind (filter test (x ∷ xs)) ≡ cond (test x) (cond (kind x) 1 0) 0 + count_by kind (filter test xs)
one_more test kind x xs = by_test (test x)
  where
    by_test : (b : Bool) → count_by kind (cond b (x ∷ filter test xs) (filter test xs))
        ≡ cond b (cond (kind x) 1 0) 0 + count_by kind (filter test xs)
    by_test true = sum_by-cons (λ y. cond (kind y) 1 0) x (filter test xs)
    by_test false = omega arith

-- a delay from a up to c lies before b, or from b on
test_split : (a b c d one : ℕ) → a ≤ b → b ≤ c →
    cond (leb a d && ltb d c) one 0 ≡ cond (leb a d && ltb d b) one 0 + cond (leb b d && ltb d c) one 0
test_split a b c d one first second = elim (cases_lt d b) [
  | inl below ↦
      let x = lt-ltb d b below in
      let y = lt-ltb d c (omega arith) in
      let z = lt-leb b d below in
      rw (x, y, z) (omega arith)
  | inr above ↦
      let x = le-leb a d (omega arith) in
      let y = le-ltb d b above in
      let z = le-leb b d above in
      rw (x, y, z) (omega arith)
]

pub count_split : (kind : Candidate → Bool) (a b c : ℕ) (list : List Candidate) → a ≤ b → b ≤ c →
    count_by kind (within_delays a c list)
    ≡ count_by kind (within_delays a b list) + count_by kind (within_delays b c list)
count_split kind a b c [] first second = refl
count_split kind a b c (x ∷ xs) first second =
    let test = λ (least bound : ℕ) (y : Candidate). leb least (delay_of y) && ltb (delay_of y) bound in
    let whole = one_more (test a c) kind x xs in
    let left = one_more (test a b) kind x xs in
    let right = one_more (test b c) kind x xs in
    let here = test_split a b c (delay_of x) (cond (kind x) 1 0) first second in
    let more = count_split kind a b c xs first second in
    omega arith

pub starts_rise : (start : ℕ → ℕ) (n : ℕ) → ((k : ℕ) → k < n → start k < start (k + 1)) → start 0 ≤ start n
starts_rise start zero rise = omega arith
starts_rise start (suc n) rise =
    let before = starts_rise start n (λ k small. rise k (omega arith)) in
    let e : n + 1 ≡ suc n = omega arith in
    let last = rw e at (rise n (omega arith)) in
    omega arith

-- the parts between the starts have as many together as the part from the first start to the last
pub counts_join : (kind : Candidate → Bool) (start : ℕ → ℕ) (n : ℕ) (list : List Candidate) →
    ((k : ℕ) → k < n → start k < start (k + 1)) →
    sum_by (λ part. count_by kind part) (parts_between start n list)
    ≡ count_by kind (within_delays (start 0) (start n) list)
counts_join kind start zero list rise =
    let none = count_split kind (start 0) (start 0) (start 0) list (omega arith) (omega arith) in omega arith
counts_join kind start (suc n) list rise =
    let e : n + 1 ≡ suc n = omega arith in
    let last = rw e at (rise n (omega arith)) in
    let more = rw e at (sum_by-map-range_with_len_more (λ part. count_by kind part)
    (λ k. within_delays (start k) (start (k + 1)) list) 0 n n (omega arith)) in
    let before = counts_join kind start n list (λ k small. rise k (omega arith)) in
    let rises = starts_rise start n (λ k small. rise k (omega arith)) in
    let both = count_split kind (start 0) (start n) (start (suc n)) list rises (omega arith) in
    omega arith
