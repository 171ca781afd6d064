-- The parts of a candidate list, one for each shard: the books that they were added to, their merge and their number.
use Rattle.std.proofs.Common.{◌≡◌, ℕ, zero, suc, ◌+◌, ◌<◌, ◌≤◌, ◌&&◌, inl, inr, leb, ltb, Bool, true, false, cond, List, [], ◌∷◌, map, length, refl, subst, arith}
use Rattle.std.specs.Prelude.{All}
use Rattle.std.specs.List.{sum_by, range_with_len}
use Rattle.std.proofs.lemmas.Bool.{cases_lt, le-leb, lt-ltb, lt-leb, le-ltb}
use Rattle.std.proofs.lemmas.List.Elements.{All-tail}
use Rattle.std.proofs.lemmas.List.Sums.{sum_by-cons, length-filter}
use Rattle.std.proofs.lemmas.List.FromFn.{sum_by-map-range_with_len_more}
use Rattle.search_model.specs.declared.candidate.Candidate.{Candidate}
use Rattle.search_model.specs.Candidates.{delay_of, within_delays}

-- ---- how many there are

-- a delay lies between two bounds, or between the second and a third
abbrev pub lies : ℕ → ℕ → ℕ → Bool
lies a b d = leb a d && ltb d b

abbrev one_if : Bool → ℕ
one_if b = cond b 1 0

one_of_two : (a b c d : ℕ) → a ≤ b → b ≤ c →
    one_if (lies a b d) + one_if (lies b c d) ≡ one_if (lies a c d)
one_of_two a b c d first second = elim (cases_lt d b) [
  | inl below ↦
      let e1 : ltb d b ≡ true = lt-ltb d b below in
      let e2 : leb b d ≡ false = lt-leb b d below in
      let e3 : ltb d c ≡ true = lt-ltb d c (omega (arith, below, second)) in
      rw e1 (rw e2 (rw e3 (omega arith)))
  | inr above ↦
      let e1 : ltb d b ≡ false = le-ltb d b above in
      let e2 : leb b d ≡ true = le-leb b d above in
      let e3 : leb a d ≡ true = le-leb a d (omega (arith, above, first)) in
      rw e1 (rw e2 (rw e3 (omega arith)))
]

abbrev counted : ℕ → ℕ → List Candidate → ℕ
counted a b list = sum_by (λ c. one_if (lies a b (delay_of c))) list

counts_join : (a b c : ℕ) → a ≤ b → b ≤ c → (list : List Candidate) →
    counted a b list + counted b c list ≡ counted a c list
counts_join a b c first second [] = refl
counts_join a b c first second (x ∷ xs) =
    let d = delay_of x in
    let one = one_of_two a b c d first second in
    let rest = counts_join a b c first second xs in
    let e1 = sum_by-cons (λ y. one_if (lies a b (delay_of y))) x xs in
    let e2 = sum_by-cons (λ y. one_if (lies b c (delay_of y))) x xs in
    let e3 = sum_by-cons (λ y. one_if (lies a c (delay_of y))) x xs in
    omega (arith, one, rest, e1, e2, e3)

part_count : (a b : ℕ) (list : List Candidate) → length (within_delays a b list) ≡ counted a b list
part_count a b list = length-filter (λ c. lies a b (delay_of c)) list

-- the parts between bounds that rise, one after another, are as many as lie between the first and the last
pub parts_count : (bound : ℕ → ℕ) → ((k : ℕ) → bound k ≤ bound (k + 1)) → (list : List Candidate) (n : ℕ) →
    (bound 0 ≤ bound n)
    × (sum_by length (map (λ k. within_delays (bound k) (bound (k + 1)) list) (range_with_len 0 n))
    ≡ counted (bound 0) (bound n) list)
parts_count bound rise list zero = (omega arith, none list)
  where
    none : (xs : List Candidate) → 0 ≡ counted (bound 0) (bound 0) xs
    none [] = refl
    none (x ∷ xs) =
        let two = one_of_two (bound 0) (bound 0) (bound 0) (delay_of x) (omega arith) (omega arith) in
        let e = sum_by-cons (λ y. one_if (lies (bound 0) (bound 0) (delay_of y))) x xs in
        let rest = none xs in
        omega (arith, two, e, rest)
parts_count bound rise list (suc n) =
    let before = parts_count bound rise list n in
    let part : ℕ → List Candidate = λ k. within_delays (bound k) (bound (k + 1)) list in
    let more = sum_by-map-range_with_len_more length part 0 n n (omega arith) in
    let here = part_count (bound n) (bound (n + 1)) list in
    let join = counts_join (bound 0) (bound n) (bound (n + 1)) before.0 (rise n) list in
    let step : n + 1 ≡ suc n = omega arith in
    subst (λ m. (bound 0 ≤ bound m)
    × (sum_by length (map part (range_with_len 0 m)) ≡ counted (bound 0) (bound m) list)) step
    (omega (arith, before.0, rise n), omega (arith, more, before.1, here, join))

-- all of a list are counted where all lie between
pub all_counted : (a b : ℕ) (list : List Candidate) → All (λ c. (a ≤ delay_of c) × (delay_of c < b)) list →
    counted a b list ≡ length list
all_counted a b [] all = refl
all_counted a b (x ∷ xs) all =
    let here = all 0 x (omega arith) in
    let e1 : leb a (delay_of x) ≡ true = le-leb a (delay_of x) here.0 in
    let e2 : ltb (delay_of x) b ≡ true = lt-ltb (delay_of x) b here.1 in
    let one : one_if (lies a b (delay_of x)) ≡ 1 = rw e1 (rw e2 refl) in
    let rest = all_counted a b xs (All-tail (λ c. (a ≤ delay_of c) × (delay_of c < b)) x xs all) in
    let e = sum_by-cons (λ y. one_if (lies a b (delay_of y))) x xs in
    omega (arith, one, rest, e)
