-- Sums over the numbers from one to another, and the cells of a channel.
use Rattle.std.proofs.Common.{◌≡◌, ℕ, ◌+◌, ◌-◌, ◌≤◌, ◌<◌, sum, zero, suc, refl, sym, ap, ◌∙◌, arith, inl, inr}
use Rattle.std.specs.Prelude.{sum_by}
use Rattle.std.specs.List.{range_with_len}
use Rattle.std.proofs.lemmas.Bool.{cases_lt, cond-true, cond-false, lt-ltb, le-ltb}
use Rattle.std.proofs.lemmas.List.Sums.{sum_by-cons, sum-map}
use Rattle.search_model.specs.Samples.{Filterbank, sample_before}
use Rattle.search_model.specs.Sums.{between, cells_along}

-- ---- sums over numbers

-- two sums agree where the summands do
pub sum_agree : (g h : ℕ → ℕ) (a n : ℕ) → ((k : ℕ) → a ≤ k → k < a + n → g k ≡ h k) →
    sum_by g (range_with_len a n) ≡ sum_by h (range_with_len a n)
sum_agree g h a zero same = refl
sum_agree g h a (suc n) same =
    let first = sum_by-cons g a (range_with_len (a + 1) n) in
    let second = sum_by-cons h a (range_with_len (a + 1) n) in
    let here = same a (omega arith) (omega arith) in
    let more = sum_agree g h (a + 1) n (λ k from to. same k (omega arith) (omega arith)) in
    omega arith

-- numbers that are s greater
pub sum_shift : (g : ℕ → ℕ) (s a n : ℕ) →
    sum_by g (range_with_len (s + a) n) ≡ sum_by (λ k. g (s + k)) (range_with_len a n)
sum_shift g s a zero = refl
sum_shift g s a (suc n) =
    let e : s + a + 1 ≡ s + (a + 1) = omega arith in
    let first = sum_by-cons g (s + a) (range_with_len (s + a + 1) n) in
    let second = sum_by-cons (λ k. g (s + k)) a (range_with_len (a + 1) n) in
    let more : sum_by g (range_with_len (s + a + 1) n) ≡ sum_by (λ k. g (s + k)) (range_with_len (a + 1) n) =
    rw e (sum_shift g s (a + 1) n) in
    omega arith

-- one range after another
pub sum_join : (g : ℕ → ℕ) (a m n : ℕ) →
    sum_by g (range_with_len a (m + n)) ≡ sum_by g (range_with_len a m) + sum_by g (range_with_len (a + m) n)
sum_join g a zero n =
    let e : 0 + n ≡ n = omega arith in
    let z : a + 0 ≡ a = omega arith in
    rw (e, z) (omega arith)
sum_join g a (suc m) n =
    let e : suc m + n ≡ suc (m + n) = omega arith in
    let z : a + suc m ≡ a + 1 + m = omega arith in
    let first = sum_by-cons g a (range_with_len (a + 1) (m + n)) in
    let second = sum_by-cons g a (range_with_len (a + 1) m) in
    let more = sum_join g (a + 1) m n in
    rw (e, z) (omega arith)

-- a range that is cut at m
pub sum_split : (g : ℕ → ℕ) (lo m hi : ℕ) → lo ≤ m → m ≤ hi →
    sum_by g (range_with_len lo (hi - lo))
    ≡ sum_by g (range_with_len lo (m - lo)) + sum_by g (range_with_len m (hi - m))
sum_split g lo m hi from to =
    let count : m - lo + (hi - m) ≡ hi - lo = omega arith in
    let next : lo + (m - lo) ≡ m = omega arith in
    let join = sum_join g lo (m - lo) (hi - m) in
    rw (count, next) at join

-- nothing is summed
pub sum_zeros : (g : ℕ → ℕ) (a n : ℕ) → ((k : ℕ) → a ≤ k → k < a + n → g k ≡ 0) → sum_by g (range_with_len a n) ≡ 0
sum_zeros g a zero none = refl
sum_zeros g a (suc n) none =
    let first = sum_by-cons g a (range_with_len (a + 1) n) in
    let here = none a (omega arith) (omega arith) in
    let more = sum_zeros g (a + 1) n (λ k from to. none k (omega arith) (omega arith)) in
    omega arith

-- ---- samples

-- later by q on both sides is the same
pub sample_shift : (f : Filterbank) (c s d q : ℕ) → sample_before f c (s + q) (d + q) ≡ sample_before f c s d
sample_shift f c s d q = elim (cases_lt s d) [
  | inl early ↦ cond-true _ _ _ (lt-ltb (s + q) (d + q) (omega arith)) ∙ sym (cond-true _ _ _ (lt-ltb s d early))
  | inr late ↦
      let e : s + q - (d + q) ≡ s - d = omega arith in
      cond-false _ _ _ (le-ltb (s + q) (d + q) (omega arith)) ∙ ap (f.value c) e
      ∙ sym (cond-false _ _ _ (le-ltb s d late))
]

pub sample_none : (f : Filterbank) (c s d : ℕ) → s < d → sample_before f c s d ≡ 0
sample_none f c s d early = cond-true _ _ _ (lt-ltb s d early)

pub sample_there : (f : Filterbank) (c s d : ℕ) → d ≤ s → sample_before f c s d ≡ f.value c (s - d)
sample_there f c s d late = cond-false _ _ _ (le-ltb s d late)

-- the cells of a channel, summed
pub cells_sum : (f : Filterbank) (e : ℕ → ℕ) (d u late c : ℕ) →
    sum (cells_along f e d u late c) ≡ sum_by (λ k. sample_before f c (u + k) (d + late)) (between (e c) (e (c + 1)))
cells_sum f e d u late c = sum-map (λ k. sample_before f c (u + k) (d + late)) (between (e c) (e (c + 1)))
