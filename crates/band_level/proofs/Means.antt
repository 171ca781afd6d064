-- The law on means.
use Rattle.std.proofs.Common.{◌≡◌, ℕ, zero, suc, refl, ◌+◌, ◌-◌, ◌*◌, ◌/◌, ◌<◌, ◌≤◌, inl, inr, Bool, true, false, cond, List, [], ◌∷◌, length, map, ◌∙◌, sym, ap, subst, arith}
use Rattle.std.specs.List.{range_with_len, sum_by, filter}
use Rattle.std.proofs.Math.Nat.{mul-div-le, mul-le-mul_right}
use Rattle.std.proofs.lemmas.Bool.{cases_lt}
use Rattle.std.proofs.lemmas.Nat.{div-add-mod', mod_below}
use Rattle.std.proofs.lemmas.List.FromFn.{length-map-range_with_len}
use Rattle.band_level.specs.Values.{Band}
use Rattle.band_level.specs.Moments.{Moments, moments, fair_moments, is_near, distance}
use Rattle.band_level.specs.Scales.{Scale, scale_of, unit}
use Rattle.band_level.specs.Levelled.{Task, is_masked, stretch_spectra, stretch_values, scale_by, stretch_for, scale_at, fine, fine_before, whole, level}
use Rattle.band_level.specs.Laws.{IsUncut, MeansAreKept}
use Rattle.band_level.proofs.Ranges.{few_left, mapped_sum_more, sum_range_more_from}
use Rattle.band_level.proofs.SpectraLevelled.{fine_is, fine_more}
use Rattle.band_level.proofs.Agreeing.{own_stretch}
use Rattle.band_level.proofs.Columns.{fair_where}
use Rattle.band_level.proofs.Giving.{quotient}

-- ---- lists of which nothing is left out

kept_on : (p : ℕ → Bool) (x : ℕ) (xs rest : List ℕ) (b : Bool) → rest ≡ filter p xs
    → length (cond b (x ∷ rest) rest) ≡ suc (length xs) → (length rest ≡ length xs → rest ≡ xs)
    → cond b (x ∷ rest) rest ≡ x ∷ xs
kept_on p x xs rest true is same step = ap (λ ys. x ∷ ys) (step (omega arith))
kept_on p x xs rest false is same step =
    let few = few_left p xs in
    let long : length rest ≡ length (filter p xs) = ap length is in
    absurd (omega arith)

kept_all : (p : ℕ → Bool) (xs : List ℕ) → length (filter p xs) ≡ length xs → filter p xs ≡ xs
kept_all p [] same = refl
kept_all p (x ∷ xs) same = kept_on p x xs (filter p xs) (p x) refl same (kept_all p xs)

-- moments that count all values are those of all values
fair_of_all : (xs : List ℕ) → (fair_moments xs).count ≡ length xs → fair_moments xs ≡ moments xs
fair_of_all xs all = elim (fair_where xs) [
  | inl t ↦ t.1 ∙ ap moments (kept_all (is_near (moments xs)) xs (sym (ap (λ (m : Moments). m.count) t.1) ∙ all))
  | inr t ↦ t.1
]

-- ---- the sum of a stretch, in numbers

above : (v n : ℕ) → 0 < n → v < n * (v / n) + n
above v n some = omega (arith, div-add-mod' v n, mod_below v n some)

-- n times the base, and what the gain makes of the values
based : (n mean lift product base : ℕ) → 0 < n
    → base ≡ (mean * n * 1048576 / 1000 + n * 1048576 * lift - product) / n
    → product ≤ n * 1048576 * lift
    → (n * base + product ≤ mean * n * 1048576 / 1000 + n * 1048576 * lift)
    × (mean * n * 1048576 / 1000 + n * 1048576 * lift < n * base + product + n)
based n mean lift product base some is fits =
    let whole_part = mean * n * 1048576 / 1000 + n * 1048576 * lift - product in
    let e : n * base ≡ n * (whole_part / n) = ap (λ b. n * b) is in
    let low : n * (whole_part / n) ≤ whole_part = mul-div-le whole_part n in
    let high : whole_part < n * (whole_part / n) + n = above whole_part n some in
    (omega arith, omega arith)

-- the whole values less the lift
bounded : (n mean lift before s total : ℕ) → n ≤ 1048576
    → s ≤ mean * n * 1048576 / 1000 + n * 1048576 * lift
    → mean * n * 1048576 / 1000 + n * 1048576 * lift < s + n
    → total + n * lift ≡ (before + s) / 1048576 - before / 1048576
    → distance (1000 * total) (n * mean) < 2000
bounded n mean lift before s total few low high is = omega arith

-- ---- the law

-- what is added up of a lift that was rounded up
lifted : (product n : ℕ) → 0 < n → product ≤ n * 1048576 * (product / (n * 1048576) + 1)
lifted product n some =
    omega (arith, above product (n * 1048576) (omega arith))

-- a spectrum of a stretch is levelled by it
in_stretch : (k : Task) (b : Band) (stretch t : ℕ) → 0 < k.plan.spectra
    → stretch * k.plan.spectra + stretch_spectra k b ≤ b.spectra → stretch * k.plan.spectra ≤ t
    → t < stretch * k.plan.spectra + stretch_spectra k b → stretch_for k b t ≡ stretch
in_stretch k b stretch t some fits low high =
    let n = k.plan.spectra in
    let own : t / n ≡ stretch = quotient t stretch n low (omega arith) in
    elim (cases_lt b.spectra n) [
      | inl short ↦
          let none : stretch * n ≡ 0 = omega arith in
          let first : stretch ≡ 0 = elim (cases_lt 0 stretch) [
            | inl there ↦ let one : 1 * n ≤ stretch * n = mul-le-mul_right n there in absurd (omega arith)
            | inr nowhere ↦ omega arith
          ] in
          omega arith
      | inr long ↦ own_stretch k b (stretch + 1) t some (omega arith) (omega arith) ∙ own
    ]

-- What n spectra from `a` on sum up to, of which each has this scale and nothing is cut: the levels with their lifts are
-- the whole values, and what they have in units is n bases and what the gain makes of their values.
sums_up : (k : Task) (b : Band) (i a : ℕ) (s : Scale) (n : ℕ)
    → ((t : ℕ) → a ≤ t → t < a + n → (scale_at k b t i ≡ s) × IsUncut k b i t)
    → (sum_by (level k b i) (range_with_len a n) + n * s.lift
    ≡ fine_before k b i (a + n) / unit - fine_before k b i a / unit)
    × (fine_before k b i (a + n) ≡ fine_before k b i a + (n * s.base
    + s.gain * sum_by (λ x. x) (map (λ j. b.value (a + j) i) (range_with_len 0 n))))
sums_up k b i a s zero each =
    let e : a + 0 ≡ a = omega arith in
    let same = ap (fine_before k b i) e in
    (omega arith, omega arith)
sums_up k b i a s (suc n) each =
    let so_far = sums_up k b i a s n (λ t low high. each t low (omega arith)) in
    let one = each (a + n) (omega arith) (omega arith) in
    let e : a + suc n ≡ a + n + 1 = omega arith in
    let g : suc n ≡ n + 1 = omega arith in
    let next : fine_before k b i (a + suc n) ≡ fine_before k b i (a + n) + fine k b i (a + n) =
    ap (fine_before k b i) e ∙ fine_more k b i (a + n) in
    let here = fine_is k b i (a + n) s (b.value (a + n) i) (sym one.0) refl in
    let lift : (scale_at k b (a + n) i).lift ≡ s.lift = ap (λ (z : Scale). z.lift) one.0 in
    let whole_is : whole k b i (a + n) ≡ fine_before k b i (a + suc n) / unit - fine_before k b i (a + n) / unit =
    ap (λ t. fine_before k b i t / unit - fine_before k b i (a + n) / unit) (sym e) in
    let under = one.1.low in
    let over = one.1.high in
    let levels : sum_by (level k b i) (range_with_len a (suc n))
    ≡ sum_by (level k b i) (range_with_len a n) + level k b i (a + n) =
    ap (λ m. sum_by (level k b i) (range_with_len a m)) g ∙ sum_range_more_from (level k b i) a n (a + n) refl in
    let value = λ (j : ℕ). b.value (a + j) i in
    let values = ap (λ v. s.gain * v)
    (ap (λ m. sum_by (λ x. x) (map value (range_with_len 0 m))) g ∙ mapped_sum_more (λ x. x) value n) in
    (omega (arith, so_far.0, so_far.1), omega (arith, so_far.1))

pub means : MeansAreKept
means k b stretch i range fits all uncut = elim (cases_lt 0 (stretch_spectra k b)) [
  | inl some ↦
      let n = stretch_spectra k b in
      let a = stretch * k.plan.spectra in
      let xs = stretch_values k b stretch i in
      let long : length xs ≡ n = length-map-range_with_len (λ j. b.value (a + j) i) 0 n in
      let m = moments xs in
      let fair : fair_moments xs ≡ m = fair_of_all xs (all ∙ sym long) in
      let s = scale_of k.plan (is_masked k i) m in
      let up = sums_up k b i a s n (λ t low high. (
        ap (λ r. scale_by k b r i) (in_stretch k b stretch t (let h = range.plan.some_spectra in omega arith) fits low high)
            ∙ ap (scale_of k.plan (is_masked k i)) fair,
        uncut t low high,
      )) in
      let levels = up.0 in
      let fines : fine_before k b i (a + n) ≡ fine_before k b i a + (n * s.base + s.gain * m.total) = up.1 in
      let product = s.gain * m.total in
      let count : m.count ≡ n = long in
      let lift_is : s.lift ≡ product / (n * 1048576) + 1 = ap (λ c. product / (c * 1048576) + 1) count in
      let base_is : s.base ≡ (k.plan.mean * n * 1048576 / 1000 + n * 1048576 * s.lift - product) / n =
      ap (λ c. (k.plan.mean * c * 1048576 / 1000 + c * 1048576 * s.lift - product) / c) count in
      let enough_lift : product ≤ n * 1048576 * s.lift =
      subst (λ (l : ℕ). product ≤ n * 1048576 * l) (sym lift_is) (lifted product n some) in
      let range_of = based n k.plan.mean s.lift product s.base some base_is enough_lift in
      bounded n k.plan.mean s.lift (fine_before k b i a) (n * s.base + product) _
      (let h = range.plan.most_spectra in omega arith) range_of.0 range_of.1 (omega arith)
  | inr none ↦ let nothing : stretch_spectra k b ≡ 0 = omega arith in rw nothing (omega arith)
]
