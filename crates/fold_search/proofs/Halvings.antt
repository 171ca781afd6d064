-- The most halvings that fit, number by number.
use Rattle.std.proofs.Common.{◌≡◌, ℕ, ◌+◌, ◌-◌, ◌*◌, ◌^◌, ◌≤◌, ◌<◌, inl, inr, List, [], ◌∷◌, ◌++◌, length, take, max, zero, suc, sym, ap, ◌∙◌, add-one, pow-suc, arith, leb}
use Rattle.std.specs.Prelude.{fold, filter}
use Rattle.std.specs.List.{range_with_len}
use Rattle.std.proofs.Math.Nat.{mul-le-mul_right}
use Rattle.std.proofs.Math.Pow.{pow_mono}
use Rattle.std.proofs.lemmas.Bool.{cases_lt, cond-true, cond-false, le-leb, lt-leb}
use Rattle.std.proofs.lemmas.List.{length-take}
use Rattle.std.proofs.lemmas.List.Elements.{filter-append}
use Rattle.std.proofs.lemmas.List.Sums.{fold-append}
use Rattle.search_model.specs.Sums.{between}
use Rattle.search_model.specs.Folds.{halvings}
use Rattle.fold_search.proofs.Ranges.{range_join, filter_agree}

-- more halvings make longer rows
pub rows_rise : (k m p : ℕ) → k ≤ m → 2 ^ k * p ≤ 2 ^ m * p
rows_rise k m p h = mul-le-mul_right p (let power : 2 ^ k ≤ 2 ^ m = pow_mono h in power)

-- a halving more makes rows twice as long
pub twice_as_long : (m p : ℕ) → 2 ^ m * p * 2 ≡ 2 ^ (m + 1) * p
twice_as_long m p =
    let more : 2 ^ (m + 1) ≡ 2 ^ m * 2 = rw (add-one m) (pow-suc 2 m) in
    omega (arith, ap (λ n. n * p) more)

between_more : (m : ℕ) → between 1 (m + 1) ≡ between 1 m ++ (m + 1) ∷ []
between_more m =
    let more : m + 1 + 1 - 1 ≡ m + 1 = omega arith in
    let same : m + 1 - 1 ≡ m = omega arith in
    let at : 1 + m ≡ m + 1 = omega arith in
    ap (λ n. range_with_len 1 n) more
    ∙ range_join 1 m 1
    ∙ ap (λ k. range_with_len 1 m ++ k ∷ []) at
    ∙ ap (λ n. range_with_len 1 n ++ (m + 1) ∷ []) (sym same)

module _ (p room : ℕ) where
  one_more : (m : ℕ) → halvings (m + 1) p room
      ≡ fold max (halvings m p room) (filter (λ k. leb (2 ^ k * p) room) ((m + 1) ∷ []))
  one_more m =
      ap (λ ks. fold max 0 (filter (λ k. leb (2 ^ k * p) room) ks)) (between_more m)
      ∙ ap (fold max 0) (filter-append (λ k. leb (2 ^ k * p) room) (between 1 m) ((m + 1) ∷ []))
      ∙ fold-append max 0 (filter (λ k. leb (2 ^ k * p) room) (between 1 m))
      (filter (λ k. leb (2 ^ k * p) room) ((m + 1) ∷ []))

  more_fit : (m : ℕ) → 2 ^ (m + 1) * p ≤ room → halvings (m + 1) p room ≡ max (halvings m p room) (m + 1)
  more_fit m fits =
      one_more m
      ∙ ap (fold max (halvings m p room))
      (cond-true (leb (2 ^ (m + 1) * p) room) ((m + 1) ∷ []) [] (le-leb (2 ^ (m + 1) * p) room fits))

  no_more_fit : (m : ℕ) → room < 2 ^ (m + 1) * p → halvings (m + 1) p room ≡ halvings m p room
  no_more_fit m long =
      one_more m
      ∙ ap (fold max (halvings m p room))
      (cond-false (leb (2 ^ (m + 1) * p) room) ((m + 1) ∷ []) [] (lt-leb (2 ^ (m + 1) * p) room long))

  -- never more than were asked for
  pub halvings_within : (m : ℕ) → halvings m p room ≤ m
  halvings_within zero = omega arith
  halvings_within (suc m) =
      let is : suc m ≡ m + 1 = omega arith in
      let before = halvings_within m in
      rw is (elim (cases_lt room (2 ^ (m + 1) * p)) [
        | inl long ↦ omega (arith, no_more_fit m long, before)
        | inr fits ↦ omega (arith, more_fit m fits, before)
      ])

  -- all of them, where they fit
  pub halvings_all : (m : ℕ) → 2 ^ (m + 1) * p ≤ room → halvings (m + 1) p room ≡ m + 1
  halvings_all m fits = omega (arith, more_fit m fits, halvings_within m)

  -- and no more, where the next does not fit
  pub halvings_stay : (k m : ℕ) → room < 2 ^ (m + 1) * p → halvings (m + k) p room ≡ halvings m p room
  halvings_stay zero m long = ap (λ n. halvings n p room) (let is : m + 0 ≡ m = omega arith in is)
  halvings_stay (suc k) m long =
      let is : m + suc k ≡ m + k + 1 = omega arith in
      let rise = rows_rise (m + 1) (m + k + 1) p (omega arith) in
      ap (λ n. halvings n p room) is ∙ no_more_fit (m + k) (omega (arith, rise, long)) ∙ halvings_stay k m long

-- values that none of the rows reach change nothing
pub halvings_front : (most p cap : ℕ) (xs : List ℕ) → 2 ^ most * p ≤ cap →
    halvings most p (length (take cap xs)) ≡ halvings most p (length xs)
halvings_front most p cap xs room =
    let long = length-take cap xs in
    ap (fold max 0)
    (filter_agree (λ k. leb (2 ^ k * p) (length (take cap xs))) (λ k. leb (2 ^ k * p) (length xs)) 1 (most + 1 - 1)
    (λ k from to.
    let rise = rows_rise k most p (omega arith) in
    elim (cases_lt (length xs) (2 ^ k * p)) [
      | inl past ↦ lt-leb (2 ^ k * p) (length (take cap xs)) (omega (arith, long, past, rise, room))
          ∙ sym (lt-leb (2 ^ k * p) (length xs) past)
      | inr fits ↦ le-leb (2 ^ k * p) (length (take cap xs)) (omega (arith, long, fits, rise, room))
          ∙ sym (le-leb (2 ^ k * p) (length xs) fits)
    ]))
