-- The part of a list of candidates whose delays lie in a range.
use Rattle.std.proofs.Common.{◌≡◌, ℕ, ◌+◌, ◌-◌, ◌≤◌, ◌<◌, Bool, true, false, cond, All, List, [], ◌∷◌, ◌++◌, refl, ap, ◌∙◌, arith, ltb, leb}
use Rattle.std.specs.Prelude.{filter, ◌&&◌}
use Rattle.std.specs.List.{range_with_len, flat_map}
use Rattle.std.proofs.lemmas.Grind.{flat_map-append}
use Rattle.std.proofs.lemmas.List.{append-nil}
use Rattle.std.proofs.lemmas.List.Elements.{All-append, All-head, All-nil, All-tail, filter-append}
use Rattle.std.proofs.lemmas.Bool.{le-leb, lt-leb, lt-ltb, le-ltb}
use Rattle.search_model.specs.declared.candidate.Candidate.{Candidate}
use Rattle.search_model.specs.Candidates.{delay_of, within_delays}
use Rattle.fold_search.proofs.Ranges.{range_join, flat_agree, flat_nothing}

-- ---- candidates of one delay

abbrev pub AreOf : ℕ → List Candidate → Type 0
AreOf d list = All (λ (c : Candidate). delay_of c ≡ d) list

pub own_none : (d : ℕ) → AreOf d []
own_none d = All-nil (λ (c : Candidate). delay_of c ≡ d)

pub own_if : (d : ℕ) (b : Bool) (list : List Candidate) → AreOf d list → AreOf d (cond b list [])
own_if d true list own = own
own_if d false list own = own_none d

pub own_flat : (d : ℕ) (g : ℕ → List Candidate) → ((k : ℕ) → AreOf d (g k)) → (ks : List ℕ) → AreOf d (flat_map g ks)
own_flat d g own [] = own_none d
own_flat d g own (k ∷ ks) =
    All-append (λ (c : Candidate). delay_of c ≡ d) (g k) (flat_map g ks) (own k) (own_flat d g own ks)

-- ---- delays that lie in a part of all

-- whether a delay lies from `lo` up to, but without, `hi`
abbrev pub lies : ℕ → ℕ → ℕ → Bool
lies lo hi d = leb lo d && ltb d hi

abbrev pub has_delay : ℕ → ℕ → Candidate → Bool
has_delay lo hi c = lies lo hi (delay_of c)

pub keep_none : {X : Type 0} (b : Bool) → let none : List X = [] in none ≡ cond b none none
keep_none true = refl
keep_none false = refl

keep_all : {X : Type 0} (b : Bool) (x : X) (xs : List X) →
    cond b (x ∷ cond b xs []) (cond b xs []) ≡ cond b (x ∷ xs) []
keep_all true x xs = refl
keep_all false x xs = refl

-- all of them are kept, or none
own_kept : (lo hi d : ℕ) (list : List Candidate) → AreOf d list →
    filter (has_delay lo hi) list ≡ cond (lies lo hi d) list []
own_kept lo hi d [] own = keep_none (lies lo hi d)
own_kept lo hi d (c ∷ list) own =
    let P : Candidate → Type 0 = λ (x : Candidate). delay_of x ≡ d in
    let rest = filter (has_delay lo hi) list in
    ap (λ e. cond (lies lo hi e) (c ∷ rest) rest) (All-head P c list own)
    ∙ ap (λ xs. cond (lies lo hi d) (c ∷ xs) xs) (own_kept lo hi d list (All-tail P c list own))
    ∙ keep_all (lies lo hi d) c list

-- ---- pieces by delay

flat_kept : {X : Type 0} (g : ℕ → List X) (d : ℕ) (ds : List ℕ) (b : Bool) →
    flat_map g (cond b (d ∷ ds) ds) ≡ cond b (g d) [] ++ flat_map g ds
flat_kept g d ds true = refl
flat_kept g d ds false = refl

pub flat_filter : {X : Type 0} (g : ℕ → List X) (p : ℕ → Bool) (ds : List ℕ) →
    flat_map g (filter p ds) ≡ flat_map (λ d. cond (p d) (g d) []) ds
flat_filter g p [] = refl
flat_filter g p (d ∷ ds) =
    flat_kept g d (filter p ds) (p d) ∙ ap (λ xs. cond (p d) (g d) [] ++ xs) (flat_filter g p ds)

filter_flat : (lo hi : ℕ) (g : ℕ → List Candidate) → ((d : ℕ) → AreOf d (g d)) → (ds : List ℕ) →
    filter (has_delay lo hi) (flat_map g ds) ≡ flat_map (λ d. cond (lies lo hi d) (g d) []) ds
filter_flat lo hi g own [] = refl
filter_flat lo hi g own (d ∷ ds) =
    filter-append (has_delay lo hi) (g d) (flat_map g ds)
    ∙ ap (λ xs. xs ++ filter (has_delay lo hi) (flat_map g ds)) (own_kept lo hi d (g d) (own d))
    ∙ ap (λ xs. cond (lies lo hi d) (g d) [] ++ xs) (filter_flat lo hi g own ds)

lies_in : (lo hi d : ℕ) → lo ≤ d → d < hi → lies lo hi d ≡ true
lies_in lo hi d from to = rw (le-leb lo d from, lt-ltb d hi to) refl

lies_below : (lo hi d : ℕ) → d < lo → lies lo hi d ≡ false
lies_below lo hi d below = rw (lt-leb lo d below) refl

lies_above : (lo hi d : ℕ) → lo ≤ d → hi ≤ d → lies lo hi d ≡ false
lies_above lo hi d from above = rw (le-leb lo d from, le-ltb d hi above) refl

-- the pieces from `lo` up to `hi` of a longer range
flat_part : {X : Type 0} (g : ℕ → List X) (a lo hi n : ℕ) → a ≤ lo → lo ≤ hi → hi ≤ a + n →
    flat_map (λ d. cond (lies lo hi d) (g d) []) (range_with_len a n) ≡ flat_map g (range_with_len lo (hi - lo))
flat_part {X} g a lo hi n from order to =
    let h : ℕ → List X = λ d. cond (lies lo hi d) (g d) [] in
    let all : n ≡ lo - a + (hi - lo + (a + n - hi)) = omega arith in
    let at_lo : a + (lo - a) ≡ lo = omega arith in
    let at_hi : lo + (hi - lo) ≡ hi = omega arith in
    let below = flat_nothing h a (lo - a) (λ d _ small. ap (λ b. cond b (g d) []) (lies_below lo hi d (omega arith))) in
    let inside = flat_agree h g lo (hi - lo)
    (λ d above small. ap (λ b. cond b (g d) []) (lies_in lo hi d above (omega arith))) in
    let past = flat_nothing h hi (a + n - hi)
    (λ d above _. ap (λ b. cond b (g d) []) (lies_above lo hi d (omega arith) above)) in
    ap (λ k. flat_map h (range_with_len a k)) all
    ∙ ap (flat_map h) (range_join a (lo - a) (hi - lo + (a + n - hi)))
    ∙ flat_map-append h (range_with_len a (lo - a)) (range_with_len (a + (lo - a)) (hi - lo + (a + n - hi)))
    ∙ ap (λ xs. xs ++ flat_map h (range_with_len (a + (lo - a)) (hi - lo + (a + n - hi)))) below
    ∙ ap (λ k. flat_map h (range_with_len k (hi - lo + (a + n - hi)))) at_lo
    ∙ ap (flat_map h) (range_join lo (hi - lo) (a + n - hi))
    ∙ flat_map-append h (range_with_len lo (hi - lo)) (range_with_len (lo + (hi - lo)) (a + n - hi))
    ∙ ap (λ xs. xs ++ flat_map h (range_with_len (lo + (hi - lo)) (a + n - hi))) inside
    ∙ ap (λ k. flat_map g (range_with_len lo (hi - lo)) ++ flat_map h (range_with_len k (a + n - hi))) at_hi
    ∙ ap (λ xs. flat_map g (range_with_len lo (hi - lo)) ++ xs) past
    ∙ append-nil (flat_map g (range_with_len lo (hi - lo)))

pub delays_part : (g : ℕ → List Candidate) (a lo hi n : ℕ) → ((d : ℕ) → AreOf d (g d)) → a ≤ lo → lo ≤ hi →
    hi ≤ a + n →
    within_delays lo hi (flat_map g (range_with_len a n)) ≡ flat_map g (range_with_len lo (hi - lo))
delays_part g a lo hi n own from order to =
    filter_flat lo hi g own (range_with_len a n) ∙ flat_part g a lo hi n from order to
