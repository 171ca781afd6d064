-- Sums in 16 bits, and lanes that are raised to them.
use Rattle.std.proofs.Common.{◌≡◌, ℕ, ◌+◌, ◌-◌, ◌%◌, ◌^◌, ◌<◌, ◌≤◌, inl, inr, List, length, slice_index, cond, ltb, take, drop, max, min, replicate, ◌∙◌, sym, ap, subst, arith}
use Rattle.std.proofs.lemmas.Bool.{cases_lt, cond_both, ltb-true, ltb-false}
use Rattle.std.proofs.lemmas.List.{get_or_past, get_or-take, get_or-drop}
use Rattle.std.proofs.lemmas.Simd.{get_or-replicate, length-replicate}
use Rattle.fdmt_rows.specs.Capped.{capped_sum, AreRaised, LanesUpTo, SumsUpTo, FirstSumsUpTo}

-- no lane is above a bound where none of sixteen is
pub lanes_up_to : (lanes : List ℕ) (bound : ℕ) → length lanes ≡ 16
    → ((lane : ℕ) → lane < 16 → slice_index lanes lane ≤ bound) → LanesUpTo lanes bound
lanes_up_to lanes bound long each lane = elim (cases_lt lane 16) [
  | inl h ↦ each lane h
  | inr h ↦ subst (λ (x : ℕ). x ≤ bound) (sym (get_or_past lanes lane 0 (omega arith))) (omega arith)
]

-- lanes that are the greater of two
pub raised_by_greater : (a b new : List ℕ) → length a ≡ 16 → length b ≡ 16 → length new ≡ 16
    → ((j : ℕ) → j < 16 → slice_index new j ≡ max (slice_index a j) (slice_index b j))
    → AreRaised a new (LanesUpTo b)
raised_by_greater a b new in_a in_b long is = record {
  long = long;
  before = λ bound up. lanes_up_to a bound in_a
      (λ j lt. let e = is j lt in let u = up j in grind (arith, e, u));
  enough = λ bound up. lanes_up_to b bound in_b
      (λ j lt. let e = is j lt in let u = up j in grind (arith, e, u));
  least = λ bound up_a up_b. lanes_up_to new bound long
      (λ j lt. let e = is j lt in let u = up_a j in let v = up_b j in grind (arith, e, u, v));
}

-- lanes that are raised to nothing
pub raised_to_none : (lanes : List ℕ) (UpTo : ℕ → Type 0) → length lanes ≡ 16 → ((bound : ℕ) → UpTo bound)
    → AreRaised lanes lanes UpTo
raised_to_none lanes UpTo long all = record {
  long = long;
  before = λ bound up. up;
  enough = λ bound up. all bound;
  least = λ bound up up_to. up;
}

-- lanes that are raised twice
pub raised_twice : (old mid new : List ℕ) (First Second Both : ℕ → Type 0)
    → AreRaised old mid First → AreRaised mid new Second
    → ((bound : ℕ) → First bound → Second bound → Both bound)
    → ((bound : ℕ) → Both bound → First bound) → ((bound : ℕ) → Both bound → Second bound)
    → AreRaised old new Both
raised_twice old mid new First Second Both one other join left right = record {
  long = other.long;
  before = λ bound up. one.before bound (other.before bound up);
  enough = λ bound up. join bound (one.enough bound (other.before bound up)) (other.enough bound up);
  least = λ bound up all. other.least bound (one.least bound up (left bound all)) (right bound all);
}

-- a value of a row from a place on
pub turned_at : (row : List ℕ) (turn k : ℕ) → turn + k < length row
    → slice_index (take (length row - turn) (drop turn row)) k ≡ slice_index row (k + turn)
turned_at row turn k lt =
    get_or-take (length row - turn) (drop turn row) k 0 (omega arith)
    ∙ get_or-drop turn row k 0
    ∙ ap (λ i. slice_index row i) (let e : turn + k ≡ k + turn = omega arith in e)

-- raised to sixteen sums more
pub raised_further : (old mid new lanes first second : List ℕ) (turn done next : ℕ) → done + 16 ≡ next
    → length lanes ≡ 16
    → turn + next ≤ length second
    → ((k : ℕ) → k < 16 → slice_index lanes k
    ≡ capped_sum (slice_index first (done + k))
    (slice_index (take (length second - turn) (drop turn second)) (done + k)))
    → AreRaised old mid (SumsUpTo first second turn done) → AreRaised mid new (LanesUpTo lanes)
    → AreRaised old new (SumsUpTo first second turn next)
raised_further old mid new lanes first second turn done next is_next long room sums so_far one =
    let is : (k : ℕ) → k < 16 → slice_index lanes k
    ≡ capped_sum (slice_index first (done + k)) (slice_index second (done + k + turn)) =
    λ k lt. sums k lt
    ∙ ap (λ y. capped_sum (slice_index first (done + k)) y) (turned_at second turn (done + k) (omega arith)) in
    raised_twice old mid new (SumsUpTo first second turn done) (LanesUpTo lanes) (SumsUpTo first second turn next)
    so_far one
    (λ bound before after k lt. elim (cases_lt k done) [
      | inl h ↦ before k h
      | inr h ↦
          let j : ℕ = k - done in
          let at : done + j ≡ k = omega arith in
          let P : ℕ → Type 0 = λ i. capped_sum (slice_index first i) (slice_index second (i + turn)) ≤ bound in
          subst P at (subst (λ (x : ℕ). x ≤ bound) (is j (omega arith)) (after j))
    ])
    (λ bound all k lt. all k (omega arith))
    (λ bound all. lanes_up_to lanes bound long
    (λ j lt. subst (λ (x : ℕ). x ≤ bound) (sym (is j lt)) (all (done + j) (omega arith))))

-- lanes of 0
pub zero_lanes : (lane : ℕ) → slice_index (replicate 16 0) lane ≡ 0
zero_lanes lane = elim (cases_lt lane 16) [
  | inl h ↦ get_or-replicate {A = ℕ} 16 lane 0 0 h
  | inr h ↦ get_or_past (replicate 16 0) lane 0 (omega (arith, length-replicate {A = ℕ} 16 0))
]

-- the lesser of two lanes
pub lesser_is_min : (x y : ℕ) → cond (ltb x y) x y ≡ min x y
lesser_is_min x y =
    cond_both (ltb x y) x y (λ z. z ≡ min x y) (λ e. omega (arith, ltb-true x y e))
    (λ e. omega (arith, ltb-false x y e))

-- a sum past 16 bits
pub saturated : (x y z : ℕ) → x < 65536 → z ≡ 65535 - x → (x + cond (ltb y z) y z) % 2 ^ 16 ≡ capped_sum x y
saturated x y z small is =
    ap (λ m. (x + m) % 2 ^ 16) (lesser_is_min y z) ∙ omega arith

-- the greatest lane is the greatest sum, where lanes of 0 were raised to the sums
pub sums_up_to : (zeros lanes a b : List ℕ) (count most : ℕ) → AreRaised zeros lanes (SumsUpTo a b 0 count) →
    LanesUpTo lanes most → FirstSumsUpTo a b count most
sums_up_to zeros lanes a b count most raised enough k lt =
    subst (λ (i : ℕ). capped_sum (slice_index a k) (slice_index b i) ≤ most)
    (let e : k + 0 ≡ k = omega arith in e) (raised.enough most enough k lt)

pub least_of_sums : (lanes a b : List ℕ) (count most bound : ℕ) →
    AreRaised (replicate 16 0) lanes (SumsUpTo a b 0 count) →
    ((bound : ℕ) → LanesUpTo lanes bound → most ≤ bound) → FirstSumsUpTo a b count bound → most ≤ bound
least_of_sums lanes a b count most bound raised least up = least bound
    (raised.least bound (λ lane. let zero_lane = zero_lanes lane in omega arith)
    (λ k lt. subst (λ (i : ℕ). capped_sum (slice_index a k) (slice_index b i) ≤ bound)
    (let e : k ≡ k + 0 = omega arith in e) (up k lt)))

-- one sum more
pub one_sum_more : (a b : List ℕ) (k most sum new : ℕ) → sum ≡ capped_sum (slice_index a k) (slice_index b k) →
    new ≡ max most sum → FirstSumsUpTo a b k most → FirstSumsUpTo a b (k + 1) new
one_sum_more a b k most sum new sum_is new_is up j lt = elim (cases_lt j k) [
  | inl earlier ↦ let u = up j earlier in omega arith
  | inr here ↦
      let same : k ≡ j = omega arith in
      subst (λ (i : ℕ). capped_sum (slice_index a i) (slice_index b i) ≤ new) same (omega arith)
]

pub least_sum_more : (a b : List ℕ) (k most sum new bound : ℕ) →
    sum ≡ capped_sum (slice_index a k) (slice_index b k) → new ≡ max most sum →
    ((bound : ℕ) → FirstSumsUpTo a b k bound → most ≤ bound) → FirstSumsUpTo a b (k + 1) bound → new ≤ bound
least_sum_more a b k most sum new bound sum_is new_is least up =
    let so_far : most ≤ bound = least bound (λ j lt. up j (omega arith)) in
    let last = up k (omega arith) in
    omega arith
