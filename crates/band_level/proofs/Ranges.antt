-- Sums and lists over a range of numbers.
use Rattle.std.proofs.Common.{◌≡◌, ℕ, suc, ◌+◌, ◌<◌, ◌≤◌, ◌++◌, List, Bool, true, false, cond, [], ◌∷◌, length, map, sym, ◌∙◌, ap, refl, subst, arith, length-append, append-nil}
use Rattle.std.specs.List.{All, range_with_len, sum_by, filter, flat_map}
use Rattle.std.proofs.lemmas.List.{map-id}
use Rattle.std.proofs.lemmas.List.Concat.{flat_map-append}
use Rattle.std.proofs.lemmas.List.Elements.{All-from_get_or}
use Rattle.std.proofs.lemmas.List.Folds.{flat_map-map}
use Rattle.std.proofs.lemmas.List.Sums.{sum-map, sum_by-append, sum_by-cons, length-filter, count_by-le-length}
use Rattle.std.proofs.lemmas.List.FromFn.{fill_by_all, get_or-map-range_with_len, length-map-range_with_len, map-range_with_len_more, sum_by-map-range_with_len_more, filter_of_map_range_with_len_more}

-- ---- one number more

pub flat_map_range_more : {A : Type 0} (f : ℕ → List A) (a n j : ℕ) → a + n ≡ j
    → flat_map f (range_with_len a (n + 1)) ≡ flat_map f (range_with_len a n) ++ f j
flat_map_range_more f a n j e =
    let more : range_with_len a (n + 1) ≡ range_with_len a n ++ j ∷ [] =
    sym (map-id (range_with_len a (n + 1))) ∙ map-range_with_len_more (λ (i : ℕ). i) a n j e
    ∙ ap (λ xs. xs ++ j ∷ []) (map-id (range_with_len a n)) in
    ap (λ xs. flat_map f xs) more ∙ flat_map-append f (range_with_len a n) (j ∷ [])
    ∙ ap (λ ys. flat_map f (range_with_len a n) ++ ys) (append-nil (f j))

pub sum_range_more_from : (f : ℕ → ℕ) (a n j : ℕ) → a + n ≡ j
    → sum_by f (range_with_len a (n + 1)) ≡ sum_by f (range_with_len a n) + f j
sum_range_more_from f a n j e =
    sym (sum-map f (range_with_len a (n + 1)))
    ∙ sum_by-map-range_with_len_more (λ (x : ℕ). x) f a n j e
    ∙ ap (λ s. s + f j) (sum-map f (range_with_len a n))

pub sum_range_more : (f : ℕ → ℕ) (n : ℕ)
    → sum_by f (range_with_len 0 (n + 1)) ≡ sum_by f (range_with_len 0 n) + f n
sum_range_more f n = sum_range_more_from f 0 n n (omega arith)

pub mapped_sum_more : (g f : ℕ → ℕ) (n : ℕ) → sum_by g (map f (range_with_len 0 (n + 1)))
    ≡ sum_by g (map f (range_with_len 0 n)) + g (f n)
mapped_sum_more g f n = sum_by-map-range_with_len_more g f 0 n n (omega arith)

-- a value more, if it is counted
sum_if : (g : ℕ → ℕ) (b : Bool) (x : ℕ) → sum_by g (cond b (x ∷ []) []) ≡ cond b (g x) 0
sum_if g true x = grind (arith, sum_by-cons {X = ℕ})
sum_if g false x = refl

length_if : (b : Bool) (x : ℕ) → length (cond b (x ∷ []) []) ≡ cond b 1 0
length_if true x = refl
length_if false x = refl

pub filtered_sum_more : (g f : ℕ → ℕ) (p : ℕ → Bool) (n : ℕ)
    → sum_by g (filter p (map f (range_with_len 0 (n + 1))))
    ≡ sum_by g (filter p (map f (range_with_len 0 n))) + cond (p (f n)) (g (f n)) 0
filtered_sum_more g f p n =
    ap (sum_by g) (filter_of_map_range_with_len_more p f 0 n n (omega arith))
    ∙ sum_by-append g (filter p (map f (range_with_len 0 n))) (cond (p (f n)) (f n ∷ []) [])
    ∙ ap (λ s. sum_by g (filter p (map f (range_with_len 0 n))) + s) (sum_if g (p (f n)) (f n))

pub filtered_length_more : (f : ℕ → ℕ) (p : ℕ → Bool) (n : ℕ)
    → length (filter p (map f (range_with_len 0 (n + 1))))
    ≡ length (filter p (map f (range_with_len 0 n))) + cond (p (f n)) 1 0
filtered_length_more f p n =
    ap length (filter_of_map_range_with_len_more p f 0 n n (omega arith))
    ∙ length-append (filter p (map f (range_with_len 0 n))) (cond (p (f n)) (f n ∷ []) [])
    ∙ ap (λ s. length (filter p (map f (range_with_len 0 n))) + s) (length_if (p (f n)) (f n))

-- ---- what holds of each number

pub maps_agree : {X : Type 0} (d : X) (f g : ℕ → X) (n : ℕ) → ((t : ℕ) → t < n → f t ≡ g t)
    → map f (range_with_len 0 n) ≡ map g (range_with_len 0 n)
maps_agree d f g n same = fill_by_all g (map f (range_with_len 0 n)) n d (length-map-range_with_len f 0 n)
    (λ t lt. get_or-map-range_with_len f 0 n t t d lt (omega arith) ∙ same t lt)

pub sums_agree : (f g : ℕ → ℕ) (n : ℕ) → ((t : ℕ) → t < n → f t ≡ g t)
    → sum_by f (range_with_len 0 n) ≡ sum_by g (range_with_len 0 n)
sums_agree f g n same =
    sym (sum-map f (range_with_len 0 n)) ∙ ap (sum_by (λ x. x)) (maps_agree 0 f g n same) ∙ sum-map g (range_with_len 0 n)

pub pieces_agree : (f g : ℕ → List ℕ) (n : ℕ) → ((t : ℕ) → t < n → f t ≡ g t)
    → flat_map f (range_with_len 0 n) ≡ flat_map g (range_with_len 0 n)
pieces_agree f g n same =
    sym (flat_map-map (λ xs. xs) f (range_with_len 0 n)) ∙ ap (flat_map (λ xs. xs)) (maps_agree [] f g n same)
    ∙ flat_map-map (λ xs. xs) g (range_with_len 0 n)

pub all_of : (P : ℕ → Type 0) (f : ℕ → ℕ) (n : ℕ) → ((t : ℕ) → t < n → P (f t)) → All P (map f (range_with_len 0 n))
all_of P f n each = All-from_get_or P (map f (range_with_len 0 n)) 0 (λ t lt.
    let here : t < n = omega (arith, length-map-range_with_len f 0 n) in
    subst P (sym (get_or-map-range_with_len f 0 n t t 0 here (omega arith))) (each t here))

-- ---- lists of which some are left

pub few_left : (p : ℕ → Bool) (xs : List ℕ) → length (filter p xs) ≤ length xs
few_left p xs = omega (arith, length-filter p xs, count_by-le-length p xs)

pub filters_agree : (p q : ℕ → Bool) (xs : List ℕ) → All (λ x. p x ≡ q x) xs → filter p xs ≡ filter q xs
filters_agree p q [] all = refl
filters_agree p q (x ∷ xs) all =
    ap (λ ys. cond (p x) (x ∷ ys) ys) (filters_agree p q xs (λ k d lt. all (suc k) d (omega arith)))
    ∙ ap (λ b. cond b (x ∷ filter q xs) (filter q xs)) (all 0 x (omega arith))
