-- Lists that are put together over a range of numbers.
use Rattle.std.proofs.Common.{◌≡◌, ℕ, ◌+◌, ◌≤◌, ◌<◌, Bool, cond, List, [], ◌∷◌, ◌++◌, zero, suc, refl, ap, ◌∙◌, arith}
use Rattle.std.specs.Prelude.{filter}
use Rattle.std.specs.List.{range_with_len, flat_map}
use Rattle.std.proofs.lemmas.Grind.{flat_map-append}
use Rattle.std.proofs.lemmas.List.{append-nil}

-- one range after another
pub range_join : (a m n : ℕ) → range_with_len a (m + n) ≡ range_with_len a m ++ range_with_len (a + m) n
range_join a zero n =
    let e : 0 + n ≡ n = omega arith in
    let z : a + 0 ≡ a = omega arith in
    rw (e, z) refl
range_join a (suc m) n =
    let e : suc m + n ≡ suc (m + n) = omega arith in
    let z : a + suc m ≡ a + 1 + m = omega arith in
    rw (e, z) (ap (λ xs. a ∷ xs) (range_join (a + 1) m n))

-- one piece more
pub flat_more : {X : Type 0} (g : ℕ → List X) (a n j : ℕ) → a + n ≡ j →
    flat_map g (range_with_len a (n + 1)) ≡ flat_map g (range_with_len a n) ++ g j
flat_more g a n j at =
    ap (flat_map g) (range_join a n 1)
    ∙ flat_map-append g (range_with_len a n) (range_with_len (a + n) 1)
    ∙ ap (λ k. flat_map g (range_with_len a n) ++ (g k ++ [])) at
    ∙ ap (λ xs. flat_map g (range_with_len a n) ++ xs) (append-nil (g j))

-- lists agree where their pieces do
pub flat_agree : {X : Type 0} (g h : ℕ → List X) (a n : ℕ) → ((k : ℕ) → a ≤ k → k < a + n → g k ≡ h k) →
    flat_map g (range_with_len a n) ≡ flat_map h (range_with_len a n)
flat_agree g h a zero same = refl
flat_agree g h a (suc n) same =
    ap (λ xs. xs ++ flat_map g (range_with_len (a + 1) n)) (same a (omega arith) (omega arith))
    ∙ ap (λ xs. h a ++ xs) (flat_agree g h (a + 1) n (λ k from to. same k (omega arith) (omega arith)))

-- no pieces
pub flat_nothing : {X : Type 0} (g : ℕ → List X) (a n : ℕ) → ((k : ℕ) → a ≤ k → k < a + n → g k ≡ []) →
    flat_map g (range_with_len a n) ≡ []
flat_nothing g a zero none = refl
flat_nothing g a (suc n) none =
    ap (λ xs. xs ++ flat_map g (range_with_len (a + 1) n)) (none a (omega arith) (omega arith))
    ∙ flat_nothing g (a + 1) n (λ k from to. none k (omega arith) (omega arith))

-- filters agree where their tests do
pub filter_agree : (p q : ℕ → Bool) (a n : ℕ) → ((k : ℕ) → a ≤ k → k < a + n → p k ≡ q k) →
    filter p (range_with_len a n) ≡ filter q (range_with_len a n)
filter_agree p q a zero same = refl
filter_agree p q a (suc n) same =
    let rest = filter p (range_with_len (a + 1) n) in
    ap (λ b. cond b (a ∷ rest) rest) (same a (omega arith) (omega arith))
    ∙ ap (λ xs. cond (q a) (a ∷ xs) xs) (filter_agree p q (a + 1) n (λ k from to. same k (omega arith) (omega arith)))
