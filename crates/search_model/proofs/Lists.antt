-- Members of lists, and lists whose elements are in order.
use Rattle.std.proofs.Common.{◌≡◌, ℕ, ◌+◌, ◌<◌, ◌≤◌, ◌⊎◌, inl, inr, ◌↔◌, Bool, true, false, cond, List, [], ◌∷◌, ◌++◌, map, get_or, zero, suc, refl, sym, ap, subst, ◌∙◌, arith}
use Rattle.std.specs.Prelude.{All, AllPairs, Contains, filter}
use Rattle.std.specs.List.{range_with_len, flat_map}
use Rattle.std.proofs.lemmas.Bool.{cases_lt}
use Rattle.std.proofs.lemmas.List.{map-append}
use Rattle.std.proofs.lemmas.List.Elements.{filter-append, Contains-get_or, Contains-append_left, Contains-append_right, Contains-append_cases, Contains-push_cases, All-append}
use Rattle.std.proofs.lemmas.List.Kept.{AllPairs-cons}

-- ---- members

pub no_member : {X : Type 0} (x : X) → Contains {X = X} [] x → ⊥
no_member x (k, h, e) = absurd (omega arith)

pub member_head : {X : Type 0} (x : X) (xs : List X) → Contains (x ∷ xs) x
member_head x xs = (0, omega arith, refl)

pub member_first : {X : Type 0} (y : X) (xs : List X) (x : X) → y ≡ x → Contains (y ∷ xs) x
member_first y xs x is = (0, omega arith, is)

pub member_tail : {X : Type 0} (y : X) (xs : List X) (x : X) → Contains xs x → Contains (y ∷ xs) x
member_tail y xs x h = Contains-append_right (y ∷ []) xs x h

pub member_cases : {X : Type 0} (y : X) (xs : List X) (x : X) → Contains (y ∷ xs) x → (y ≡ x) ⊎ Contains xs x
member_cases y xs x h =
    elim (Contains-append_cases (y ∷ []) xs x h) [
      | inr tail ↦ inr tail
      | inl head ↦ elim (Contains-push_cases [] y x head) [
        | inl none ↦ absurd (no_member x none)
        | inr is ↦ inl is
      ]
    ]

-- what holds of each member holds at each place
pub all_members : {X : Type 0} (P : X → Type 0) (xs : List X) → ((x : X) → Contains xs x → P x) → All P xs
all_members P xs h = λ k d small. h (get_or xs k d) (Contains-get_or xs k d small)

-- a list of one element where a test passes
pub member_if : {X : Type 0} (b : Bool) (y x : X) → Contains (cond b (y ∷ []) []) x → (b ≡ true) × (y ≡ x)
member_if true y x h = elim (member_cases y [] x h) [
  | inl is ↦ (refl, is)
  | inr none ↦ absurd (no_member x none)
]
member_if false y x h = absurd (no_member x h)

pub if_member : {X : Type 0} (b : Bool) (x : X) → b ≡ true → Contains (cond b (x ∷ []) []) x
if_member b x e = rw e (member_head x [])

filter_step : {X : Type 0} (p : X → Bool) (y : X) (ys : List X) (x : X) →
    (Contains (filter p ys) x → (p x ≡ true) × Contains ys x) →
    (b : Bool) → p y ≡ b → Contains (cond b (y ∷ filter p ys) (filter p ys)) x → (p x ≡ true) × Contains (y ∷ ys) x
filter_step p y ys x before true e h = elim (member_cases y (filter p ys) x h) [
  | inl is ↦ rw (← is) (e, member_head y ys)
  | inr tail ↦ let more = before tail in (more.0, member_tail y ys x more.1)
]
filter_step p y ys x before false e h = let more = before h in (more.0, member_tail y ys x more.1)

pub member_filter : {X : Type 0} (p : X → Bool) (xs : List X) (x : X) → Contains (filter p xs) x →
    (p x ≡ true) × Contains xs x
member_filter p [] x h = absurd (no_member x h)
member_filter p (y ∷ ys) x h = filter_step p y ys x (member_filter p ys x) (p y) refl h

kept_step : {X : Type 0} (p : X → Bool) (y : X) (ys : List X) (x : X) → Contains (filter p ys) x → (b : Bool) →
    Contains (cond b (y ∷ filter p ys) (filter p ys)) x
kept_step p y ys x h true = member_tail y (filter p ys) x h
kept_step p y ys x h false = h

pub filter_member : {X : Type 0} (p : X → Bool) (xs : List X) (x : X) → p x ≡ true → Contains xs x →
    Contains (filter p xs) x
filter_member p [] x e h = absurd (no_member x h)
filter_member p (y ∷ ys) x e h = elim (member_cases y ys x h) [
  | inl is ↦ let first : p y ≡ true = rw is e in rw first (member_first y (filter p ys) x is)
  | inr tail ↦ kept_step p y ys x (filter_member p ys x e tail) (p y)
]

pub member_flat_map : {A X : Type 0} (f : A → List X) (firsts : List A) (x : X) → Contains (flat_map f firsts) x →
    (a : A) × Contains firsts a × Contains (f a) x
member_flat_map f [] x h = absurd (no_member x h)
member_flat_map f (b ∷ bs) x h = elim (Contains-append_cases (f b) (flat_map f bs) x h) [
  | inl here ↦ (b, member_head b bs, here)
  | inr later ↦ let more = member_flat_map f bs x later in (more.0, member_tail b bs more.0 more.1, more.2)
]

pub flat_map_member : {A X : Type 0} (f : A → List X) (firsts : List A) (a : A) (x : X) → Contains firsts a →
    Contains (f a) x → Contains (flat_map f firsts) x
flat_map_member f [] a x h inside = absurd (no_member a h)
flat_map_member f (b ∷ bs) a x h inside = elim (member_cases b bs a h) [
  | inl is ↦ Contains-append_left (f b) (flat_map f bs) x (rw is inside)
  | inr tail ↦ Contains-append_right (f b) (flat_map f bs) x (flat_map_member f bs a x tail inside)
]

pub member_range : (a n k : ℕ) → Contains (range_with_len a n) k → (a ≤ k) × (k < a + n)
member_range a zero k h = absurd (no_member k h)
member_range a (suc n) k h = elim (member_cases a (range_with_len (a + 1) n) k h) [
  | inl is ↦ (omega arith, omega arith)
  | inr tail ↦ let more = member_range (a + 1) n k tail in (omega (arith, more.0), omega (arith, more.1))
]

pub range_member : (a n k : ℕ) → a ≤ k → k < a + n → Contains (range_with_len a n) k
range_member a zero k from to = absurd (omega arith)
range_member a (suc n) k from to = elim (cases_lt a k) [
  | inl after ↦ member_tail a (range_with_len (a + 1) n) k (range_member (a + 1) n k (omega arith) (omega arith))
  | inr at ↦ member_first a (range_with_len (a + 1) n) k (omega arith)
]

-- ---- lists over lists

-- lists over a range agree where their elements do
pub maps_agree : {X : Type 0} (g h : ℕ → X) (a n : ℕ) → ((k : ℕ) → a ≤ k → k < a + n → g k ≡ h k) →
    map g (range_with_len a n) ≡ map h (range_with_len a n)
maps_agree g h a zero same = refl
maps_agree g h a (suc n) same =
    rw (same a (omega arith) (omega arith), maps_agree g h (a + 1) n (λ k from to. same k (omega arith) (omega arith)))
    refl

-- joined lists agree where each does
pub joins_agree : {A X : Type 0} (g h : A → List X) (xs : List A) → ((x : A) → Contains xs x → g x ≡ h x) →
    flat_map g xs ≡ flat_map h xs
joins_agree g h [] same = refl
joins_agree g h (x ∷ xs) same =
    let first = same x (member_head x xs) in
    let more = joins_agree g h xs (λ y inside. same y (member_tail x xs y inside)) in
    rw (first, more) refl

-- nothing is joined
pub joins_none : {A X : Type 0} (g : A → List X) (xs : List A) → ((x : A) → Contains xs x → g x ≡ []) →
    flat_map g xs ≡ []
joins_none g [] none = refl
joins_none g (x ∷ xs) none =
    let first = none x (member_head x xs) in
    let more = joins_none g xs (λ y inside. none y (member_tail x xs y inside)) in
    rw (first, more) refl

pub map_join : {A X Y : Type 0} (g : X → Y) (h : A → List X) (xs : List A) →
    map g (flat_map h xs) ≡ flat_map (λ x. map g (h x)) xs
map_join g h [] = refl
map_join g h (x ∷ xs) = map-append g (h x) (flat_map h xs) ∙ ap (λ list. map g (h x) ++ list) (map_join g h xs)

pub filter_join : {A X : Type 0} (p : X → Bool) (h : A → List X) (xs : List A) →
    filter p (flat_map h xs) ≡ flat_map (λ x. filter p (h x)) xs
filter_join p h [] = refl
filter_join p h (x ∷ xs) =
    filter-append p (h x) (flat_map h xs) ∙ ap (λ list. filter p (h x) ++ list) (filter_join p h xs)

-- a filter keeps a list whose members all pass, and nothing of one of which none does
pub filter_all : {X : Type 0} (p : X → Bool) (xs : List X) → ((x : X) → Contains xs x → p x ≡ true) →
    filter p xs ≡ xs
filter_all p [] all = refl
filter_all p (x ∷ xs) all =
    let first = all x (member_head x xs) in
    let more = filter_all p xs (λ y inside. all y (member_tail x xs y inside)) in
    rw (first, more) refl

pub filter_none : {X : Type 0} (p : X → Bool) (xs : List X) → ((x : X) → Contains xs x → p x ≡ false) →
    filter p xs ≡ []
filter_none p [] none = refl
filter_none p (x ∷ xs) none =
    let first = none x (member_head x xs) in
    let more = filter_none p xs (λ y inside. none y (member_tail x xs y inside)) in
    rw (first, more) refl

-- numbers that are a greater
pub join_shift : {X : Type 0} (g : ℕ → List X) (a b n : ℕ) →
    flat_map g (range_with_len (a + b) n) ≡ flat_map (λ k. g (a + k)) (range_with_len b n)
join_shift g a b zero = refl
join_shift g a b (suc n) =
    let e : a + b + 1 ≡ a + (b + 1) = omega arith in
    let more : flat_map g (range_with_len (a + b + 1) n) ≡ flat_map (λ k. g (a + k)) (range_with_len (b + 1) n) =
    rw e (join_shift g a (b + 1) n) in
    ap (λ list. g (a + b) ++ list) more

-- one range after another
pub range_join : (a m n : ℕ) → range_with_len a (m + n) ≡ range_with_len a m ++ range_with_len (a + m) n
range_join a zero n =
    let e : 0 + n ≡ n = omega arith in
    let z : a + 0 ≡ a = omega arith in
    rw (e, z) refl
range_join a (suc m) n =
    let e : suc m + n ≡ suc (m + n) = omega arith in
    let z : a + suc m ≡ a + 1 + m = omega arith in
    rw (e, z) (ap (λ list. a ∷ list) (range_join (a + 1) m n))

-- ---- pairs

pub no_pairs : {X : Type 0} (R : X → X → Type 0) → AllPairs R []
no_pairs R = λ i j d below small. absurd (omega arith)

pub pairs_tail : {X : Type 0} (R : X → X → Type 0) (x : X) (xs : List X) → AllPairs R (x ∷ xs) → AllPairs R xs
pairs_tail R x xs h = λ i j d below small. h (suc i) (suc j) d (omega arith) (omega arith)

pub pairs_head : {X : Type 0} (R : X → X → Type 0) (x : X) (xs : List X) → AllPairs R (x ∷ xs) → (y : X) →
    Contains xs y → R x y
pairs_head R x xs h y (k, small, is) = subst (R x) is (h 0 (suc k) y (omega arith) (omega arith))

pub pairs_append : {X : Type 0} (R : X → X → Type 0) (xs ys : List X) → AllPairs R xs → AllPairs R ys →
    ((x y : X) → Contains xs x → Contains ys y → R x y) → AllPairs R (xs ++ ys)
pairs_append R [] ys first second between = second
pairs_append R (x ∷ xs) ys first second between =
    AllPairs-cons R x (xs ++ ys)
    (All-append (R x) xs ys (all_members (R x) xs (pairs_head R x xs first))
    (all_members (R x) ys (λ y h. between x y (member_head x xs) h)))
    (pairs_append R xs ys (pairs_tail R x xs first) second (λ z y hz hy. between z y (member_tail x xs z hz) hy))

pub pairs_flat_map : {A X : Type 0} (S : A → A → Type 0) (R : X → X → Type 0) (f : A → List X) (firsts : List A) →
    AllPairs S firsts →
    ((a : A) → Contains firsts a → AllPairs R (f a)) →
    ((a b : A) (x y : X) → S a b → Contains (f a) x → Contains (f b) y → R x y) →
    AllPairs R (flat_map f firsts)
pairs_flat_map S R f [] ordered inner between = no_pairs R
pairs_flat_map S R f (a ∷ firsts) ordered inner between =
    pairs_append R (f a) (flat_map f firsts) (inner a (member_head a firsts))
    (pairs_flat_map S R f firsts (pairs_tail S a firsts ordered) (λ b h. inner b (member_tail a firsts b h)) between)
    (λ x y hx hy.
    let later = member_flat_map f firsts y hy in
    between a later.0 x y (pairs_head S a firsts ordered later.0 later.1) hx later.2)

pub pairs_range : (a n : ℕ) → AllPairs (λ x y. x < y) (range_with_len a n)
pairs_range a zero = no_pairs (λ x y. x < y)
pairs_range a (suc n) =
    AllPairs-cons (λ x y. x < y) a (range_with_len (a + 1) n)
    (all_members (λ y. a < y) (range_with_len (a + 1) n) (λ y h. let m = member_range (a + 1) n y h in
    omega (arith, m.0)))
    (pairs_range (a + 1) n)

pub pairs_if : {X : Type 0} (R : X → X → Type 0) (b : Bool) (x : X) → AllPairs R (cond b (x ∷ []) [])
pairs_if R true x = λ i j d below small. absurd (omega arith)
pairs_if R false x = no_pairs R

-- ---- lists in a strict order

-- that R is a strict order
pub record IsStrict {X : Type 0} (R : X → X → Type 0) : Type 0 where
  pub never : (x : X) → R x x → ⊥
  pub follows : (x y z : X) → R x y → R y z → R x z

tails_from : {X : Type 0} (R : X → X → Type 0) → IsStrict R → (x y : X) (xs ys : List X) → AllPairs R (x ∷ xs) → x ≡ y →
    ((z : X) → Contains (x ∷ xs) z → Contains (y ∷ ys) z) → (z : X) → Contains xs z → Contains ys z
tails_from R strict x y xs ys rising is into z h =
    let above = pairs_head R x xs rising z h in
    elim (member_cases y ys z (into z (member_tail x xs z h))) [
      | inr tail ↦ tail
      | inl same ↦ absurd (strict.never z (subst (λ w. R w z) (is ∙ same) above))
    ]

heads_agree : {X : Type 0} (R : X → X → Type 0) → IsStrict R → (x y : X) (xs ys : List X) → AllPairs R (x ∷ xs) →
    AllPairs R (y ∷ ys) →
    Contains (y ∷ ys) x → Contains (x ∷ xs) y → x ≡ y
heads_agree R strict x y xs ys first second hx hy =
    elim (member_cases y ys x hx) [
      | inl is ↦ sym is
      | inr tail ↦ elim (member_cases x xs y hy) [
        | inl is ↦ is
        | inr other ↦ absurd
            (strict.never x (strict.follows x y x (pairs_head R x xs first y other) (pairs_head R y ys second x tail)))
      ]
    ]

-- two lists in a strict order that have the same members are one list
pub same_members : {X : Type 0} (R : X → X → Type 0) → IsStrict R → (xs ys : List X) → AllPairs R xs → AllPairs R ys →
    ((z : X) → Contains xs z ↔ Contains ys z) → xs ≡ ys
same_members R strict [] [] first second same = refl
same_members R strict [] (y ∷ ys) first second same = absurd (no_member y ((same y).1 (member_head y ys)))
same_members R strict (x ∷ xs) [] first second same = absurd (no_member x ((same x).0 (member_head x xs)))
same_members R strict (x ∷ xs) (y ∷ ys) first second same =
    let is = heads_agree R strict x y xs ys first second ((same x).0 (member_head x xs))
    ((same y).1 (member_head y ys)) in
    let tails = same_members R strict xs ys (pairs_tail R x xs first) (pairs_tail R y ys second)
    (λ z. (
      tails_from R strict x y xs ys first is (λ w h. (same w).0 h) z,
      tails_from R strict y x ys xs second (sym is) (λ w h. (same w).1 h) z,
    )) in
    rw (is, tails) refl
