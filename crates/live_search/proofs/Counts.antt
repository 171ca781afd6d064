-- How many parts end before so many spectra.
use Rattle.std.proofs.Common.{◌≡◌, ℕ, zero, suc, ◌+◌, ◌-◌, ◌*◌, ◌/◌, ◌≤◌, ◌<◌, List, refl, ◌∙◌, ap, arith}
use Rattle.std.proofs.Math.Nat.{div-eq_of_lt-le, div-lt_iff_lt-mul, div-mul-le_self, lt-div-mul-add, mul-le-mul_right}
use Rattle.std.proofs.lemmas.Nat.{le-div}
use Rattle.search_model.specs.declared.candidate.Candidate.{Candidate}
use Rattle.warm_restart.specs.declared.checkpoint.Checkpoint.{Checkpoint}
use Rattle.live_search.specs.LiveText.{Layout, after_parts, next_after, next_end, parts_before}

-- the next end lies behind
pub next_past : (every place : ℕ) → 1 ≤ every → place < next_end every place
next_past every place some =
    let below : place < place / every * every + every = lt-div-mul-add (omega (arith, some)) in
    let split : (place / every + 1) * every ≡ place / every * every + every = omega arith in
    omega (arith, below, split)

-- a multiple divided
pub whole : (every k : ℕ) → 1 ≤ every → k * every / every ≡ k
whole every k some = div-eq_of_lt-le every (omega arith) (omega (arith, some))

module _ (l : Layout) (some : 1 ≤ l.every) (from : Checkpoint) (list : List Candidate) where
  abbrev pub at : ℕ → Checkpoint
  at n = after_parts l from list n

  pub at_none : at 0 ≡ from
  unfolding after_parts
  at_none = refl

  pub at_next : (n : ℕ) → at (suc n) ≡ next_after l (at n) list
  unfolding after_parts
  at_next n = refl

  -- where the part after the first n stops
  pub end_of : (n : ℕ) → next_end l.every (at n).place ≡ (from.place / l.every + n + 1) * l.every
  end_of zero =
      ap (λ (c : Checkpoint). next_end l.every c.place) at_none
      ∙ (let same : (from.place / l.every + 1) * l.every ≡ (from.place / l.every + 0 + 1) * l.every = omega arith in same)
  end_of (suc n) =
      let k : ℕ = from.place / l.every + n + 1 in
      ap (λ (c : Checkpoint). next_end l.every c.place) (at_next n)
      ∙ ap (λ p. next_end l.every p) (end_of n)
      ∙ ap (λ q. (q + 1) * l.every) (whole l.every k some)
      ∙ (let same : (k + 1) * l.every ≡ (from.place / l.every + suc n + 1) * l.every = omega arith in same)

  -- no place comes before the first one
  pub at_later : (n : ℕ) → from.place ≤ (at n).place
  at_later zero =
      let same = ap (λ (c : Checkpoint). c.place) at_none in omega (arith, same)
  at_later (suc n) =
      let same = ap (λ (c : Checkpoint). c.place) (at_next n) in
      let past = next_past l.every (at n).place some in
      let before = at_later n in
      omega (arith, same, past, before)

  -- no more parts end before spectra that lie within the next part
  count_most : (n spectra : ℕ) → spectra ≤ next_end l.every (at n).place →
      (spectra - 1) / l.every < from.place / l.every + n + 1
  count_most n spectra within =
      let k : ℕ = from.place / l.every + n + 1 in
      let end = end_of n in
      let more : 1 * l.every ≤ k * l.every = mul-le-mul_right l.every (let one : 1 ≤ k = omega arith in one) in
      (div-lt_iff_lt-mul (omega (arith, some))).1 (omega (arith, within, end, more, some))

  -- n parts end before so many spectra, which lie within the next one
  pub count_is : (n spectra : ℕ) → (1 ≤ n → (at n).place < spectra) → spectra ≤ next_end l.every (at n).place →
      parts_before l.every from.place spectra ≡ n
  count_is zero spectra past within =
      let few = count_most 0 spectra within in
      omega (arith, few)
  count_is (suc n) spectra past within =
      let k : ℕ = from.place / l.every + n + 1 in
      let few = count_most (suc n) spectra within in
      let place = ap (λ (c : Checkpoint). c.place) (at_next n) in
      let end = end_of n in
      let before = past (omega arith) in
      let many : k ≤ (spectra - 1) / l.every =
      le-div k (spectra - 1) l.every (omega (arith, some)) (omega (arith, place, end, before)) in
      omega (arith, few, many)

  -- ---- as many as end before so many spectra

  abbrev pub count : ℕ → ℕ
  count spectra = parts_before l.every from.place spectra

  -- each of them does
  pub end_before : (k spectra : ℕ) → k < count spectra → next_end l.every (at k).place < spectra
  end_before k spectra few =
      let q : ℕ = (spectra - 1) / l.every in
      let whole_parts : q * l.every ≤ spectra - 1 = div-mul-le_self (spectra - 1) l.every in
      let first : 1 * l.every ≤ q * l.every = mul-le-mul_right l.every (let one : 1 ≤ q = omega (arith, few) in one) in
      let ends : (from.place / l.every + k + 1) * l.every ≤ q * l.every =
      mul-le-mul_right l.every (let more : from.place / l.every + k + 1 ≤ q = omega (arith, few) in more) in
      let end = end_of k in
      omega (arith, whole_parts, first, ends, end, some)

  -- and the part behind them does not
  pub end_after : (spectra : ℕ) → spectra ≤ next_end l.every (at (count spectra)).place
  end_after spectra =
      let q : ℕ = (spectra - 1) / l.every in
      let k : ℕ = from.place / l.every + count spectra in
      let below : spectra - 1 < q * l.every + l.every = lt-div-mul-add (omega (arith, some)) in
      let most : (q + 1) * l.every ≤ (k + 1) * l.every =
      mul-le-mul_right l.every (let more : q + 1 ≤ k + 1 = omega arith in more) in
      let split : (q + 1) * l.every ≡ q * l.every + l.every = omega arith in
      let end = end_of (count spectra) in
      omega (arith, below, most, split, end)

  -- so many spectra come past the places of all but the first one
  pub place_before : (n spectra : ℕ) → n ≤ count spectra → 1 ≤ n → (at n).place < spectra
  place_before zero spectra within more = absurd (omega (arith, more))
  place_before (suc n) spectra within more =
      let place = ap (λ (c : Checkpoint). c.place) (at_next n) in
      let end = end_before n spectra (omega (arith, within)) in
      omega (arith, place, end)

  -- more parts end before more spectra
  pub count_rises : (few spectra : ℕ) → few ≤ spectra → count few ≤ count spectra
  count_rises few spectra less =
      let q : ℕ = (few - 1) / l.every in
      let whole_parts : q * l.every ≤ few - 1 = div-mul-le_self (few - 1) l.every in
      let most : q ≤ (spectra - 1) / l.every =
      le-div q (spectra - 1) l.every (omega (arith, some)) (omega (arith, whole_parts, less)) in
      omega (arith, most)
