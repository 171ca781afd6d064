-- The numbers of a scale: how large they are, the square root, and what lies near a mean.
use Rattle.std.proofs.Common.{ℕ, ◌+◌, ◌-◌, ◌*◌, ◌/◌, ◌≤◌, arith, ◌≡◌, zero, suc, ◌<◌, min, inl, inr, Bool, true, false, ◌&&◌, cond, leb, refl, sym, ◌∙◌, ap}
use Rattle.std.proofs.Math.Nat.{mul-le-mul, mul-le-mul_right, mul-div-le, div-le_of_le-mul, le-div_iff_mul-le}
use Rattle.band_level.specs.Scales.{most_gain, root}
use Rattle.std.specs.List.{range_with_len, sum_by}
use Rattle.std.specs.Int.{div_ceil}
use Rattle.std.proofs.lemmas.Bool.{cases_lt, le-leb, leb-true}
use Rattle.std.proofs.lemmas.Bool.Decides.{leb_tells}
use Rattle.std.proofs.lemmas.List.Sums.{sum_by-cons}
use Rattle.std.proofs.lemmas.Grind.{div_ceil_times}
use Rattle.band_level.specs.Moments.{Moments, spread, distance, is_near}
use Rattle.band_level.specs.Columns.{is_between}

-- the mean of the values, as the greatest gain has it
pub lift_most : (gain total count : ℕ) → gain ≤ most_gain → total ≤ count * 4194303
    → gain * total / (count * 1048576) + 1 ≤ 4398046511104
lift_most gain total count few small =
    let part : gain * total ≤ most_gain * (count * 4194303) = mul-le-mul few small in
    let quotient : gain * total / (count * 1048576) ≤ 4398045462528 = div-le_of_le-mul (count * 1048576) (omega arith) in
    omega arith

-- what is left of the mean of the plan and of a lift that was rounded up
pub base_most : (mean count part : ℕ) → mean ≤ 65535000
    → (mean * count * 1048576 / 1000 + count * 1048576 * (part / (count * 1048576) + 1) - part) / count ≤ 68719476736
base_most mean count part small =
    let below : count * 1048576 * (part / (count * 1048576)) ≤ part = mul-div-le part (count * 1048576) in
    let product : mean * count ≤ 65535000 * count = mul-le-mul_right count small in
    let most : mean * count * 1048576 / 1000 ≤ 65535 * (count * 1048576) = div-le_of_le-mul 1000 (omega arith) in
    div-le_of_le-mul count (omega arith)

pub squares_rise : (a b : ℕ) → a ≤ b → a * a ≤ b * b
squares_rise a b h = mul-le-mul h h

-- a square within another bound
pub within_root : (v r a : ℕ) → v < (r + 1) * (r + 1) → a * a ≤ v → a ≤ r
within_root v r a high fits = elim (cases_lt a (r + 1)) [
  | inl h ↦ omega arith
  | inr h ↦ absurd (omega (arith, squares_rise (r + 1) a h))
]

abbrev mark : Bool → ℕ
mark b = cond b 1 0

count_from : (v r a n : ℕ) → r * r ≤ v → v < (r + 1) * (r + 1)
    → sum_by (λ d. mark (leb (d * d) v)) (range_with_len a n) ≡ min (a + n) (r + 1) - a
count_from v r a zero low high = omega arith
count_from v r a (suc n) low high =
    let rest = count_from v r (a + 1) n low high in
    sum_by-cons (λ d. mark (leb (d * d) v)) a (range_with_len (a + 1) n)
    ∙ elim (leb_tells (a * a) v) [
      | inl t ↦
          let within = within_root v r a high t.1 in
          let one : mark (leb (a * a) v) ≡ 1 = ap mark t.0 in
          omega (arith, within, one, rest)
      | inr t ↦
          let above : r < a = elim (cases_lt r a) [
            | inl h ↦ h
            | inr h ↦ absurd (omega (arith, squares_rise a r h, t.1))
          ] in
          let none : mark (leb (a * a) v) ≡ 0 = ap mark t.0 in
          omega (arith, above, none, rest)
    ]

-- a number is at most its square
below_square : (r : ℕ) → r ≤ r * r
below_square r = elim (cases_lt 0 r) [
  | inl some ↦ let h : 1 * r ≤ r * r = mul-le-mul_right r some in omega (arith, h)
  | inr none ↦ omega arith
]

pub root_is : (v r : ℕ) → r * r ≤ v → v < (r + 1) * (r + 1) → r ≡ root v
unfolding root
root_is v r low high = sym (count_from v r 1 v low high ∙ omega (arith, below_square r))

-- two tests that hold where a third does
and_same : (p q s : Bool) → (p ≡ true → q ≡ true → s ≡ true) → (s ≡ true → p ≡ true) → (s ≡ true → q ≡ true)
    → (p && q) ≡ s
and_same true true true both first second = refl
and_same true true false both first second = sym (both refl refl)
and_same true false true both first second = second refl
and_same true false false both first second = refl
and_same false q true both first second = first refl
and_same false q false both first second = refl

-- a quotient that is rounded up
ceil_below : (a n x : ℕ) → 0 < n → a ≤ x * n → div_ceil a n ≤ x
ceil_below a n x some fits = elim (cases_lt x (div_ceil a n)) [
  | inl above ↦
      let more : (x + 1) * n ≤ div_ceil a n * n = mul-le-mul_right n (omega arith) in
      absurd (omega (arith, more, (div_ceil_times a n some).1))
  | inr within ↦ within
]

pub near_is : (m : Moments) (r x low high : ℕ) → 0 < m.count → r * r ≤ 16 * spread m
    → 16 * spread m < (r + 1) * (r + 1) → low ≡ div_ceil (m.total - r) m.count
    → high ≡ min ((m.total + r) / m.count) 4294967295 → x ≤ 4294967295
    → is_between low high x ≡ is_near m x
near_is m r x low high some fits above is_low is_high small =
    let n = m.count in
    let s = m.total in
    let far = distance (n * x) s in
    let quotient = le-div_iff_mul-le {k = n} {x = x} {y = s + r} some in
    and_same (leb low x) (leb x high) (leb (far * far) (16 * spread m))
    (λ from to.
    let a = leb-true low x from in
    let b = leb-true x high to in
    let up : low * n ≤ x * n = mul-le-mul_right n a in
    let least : s - r ≤ div_ceil (s - r) n * n = (div_ceil_times (s - r) n some).0 in
    let same : low * n ≡ div_ceil (s - r) n * n = ap (λ d. d * n) is_low in
    let most : x * n ≤ s + r = quotient.0 (omega arith) in
    let near : far ≤ r = omega arith in
    le-leb _ _ (omega (arith, squares_rise far r near)))
    (λ here.
    let near = within_root (16 * spread m) r far above (leb-true _ _ here) in
    le-leb _ _ (let b = ceil_below (s - r) n x some (omega arith) in omega arith))
    (λ here.
    let near = within_root (16 * spread m) r far above (leb-true _ _ here) in
    let b : x ≤ (s + r) / n = quotient.1 (omega arith) in
    le-leb _ _ (omega arith))
