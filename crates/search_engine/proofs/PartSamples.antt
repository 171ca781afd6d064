-- The samples of a part of the data bytes.
use Rattle.std.proofs.Common.{◌≡◌, ◌∙◌, ℕ, ◌+◌, ◌-◌, ◌*◌, ◌/◌, ◌≤◌, ◌<◌, ◌⊎◌, ◌==◌, cond, List, [], ◌∷◌, length, take, drop, slice_index, min, refl, inl, inr, sym, ap, arith, length-drop, length-take-le}
use Rattle.std.specs.List.{fold, range_with_len}
use Rattle.std.proofs.Math.Nat.{div-eq_of_lt, div-eq_of_lt-le, div-mul-le_self, lt-div-mul-add, mul-le-mul_right}
use Rattle.std.proofs.lemmas.Bool.{cases_lt}
use Rattle.std.proofs.lemmas.Nat.{le-div}
use Rattle.std.proofs.lemmas.List.{get_or-drop, take-append-drop, take_all}
use Rattle.std.proofs.lemmas.List.FromFn.{get_or-map-range_with_len, length-map-range_with_len}
use Rattle.search_model.specs.SampleLaws.{SamplesOfBytes}
use Rattle.search_model.specs.Samples.{sample_at, sample_bytes, samples_of, value_at}

-- ---- how many spectra a part has

pub rest_is : (z n a : ℕ) → 0 < z → (n - a * z) / z ≡ n / z - a
rest_is z n a some = elim (cases_lt (n / z) a) [
  | inl less ↦
      let next : (n / z + 1) * z ≤ a * z = mul-le-mul_right z (let l : n / z + 1 ≤ a = omega arith in l) in
      let below : n < n / z * z + z = lt-div-mul-add some in
      let none : n - a * z ≡ 0 = omega (arith, next, below) in
      let zero : n / z - a ≡ 0 = omega arith in
      let left : n - a * z < z = omega (arith, none, some) in
      div-eq_of_lt left ∙ sym zero
  | inr more ↦
      let k : ℕ = n / z - a in
      let sum : n / z ≡ k + a = omega arith in
      let most = div-mul-le_self n z in
      let below : n < n / z * z + z = lt-div-mul-add some in
      let both : n / z * z ≡ k * z + a * z = ap (λ m. m * z) sum
      ∙ (let d : (k + a) * z ≡ k * z + a * z = omega arith in d) in
      div-eq_of_lt-le z (omega (arith, most, both)) (omega (arith, below, both))
]

cut_is : (z n u : ℕ) → 0 < z → min (u * z) n / z ≡ min (n / z) u
cut_is z n u some = elim (cases_lt (n / z) u) [
  | inl less ↦
      let next : (n / z + 1) * z ≤ u * z = mul-le-mul_right z (let l : n / z + 1 ≤ u = omega arith in l) in
      let below : n < n / z * z + z = lt-div-mul-add some in
      ap (λ m. m / z) (let all : min (u * z) n ≡ n = omega (arith, next, below) in all)
      ∙ (let same : n / z ≡ min (n / z) u = omega arith in same)
  | inr more ↦
      let most = div-mul-le_self n z in
      let within : u * z ≤ n / z * z = mul-le-mul_right z more in
      let cut : min (u * z) n ≡ u * z = omega (arith, most, within) in
      let same : u ≡ min (n / z) u = omega (arith, more) in
      div-eq_of_lt-le z (omega (arith, cut)) (omega (arith, cut, some)) ∙ same
]

pub part_spectra : (z n a u : ℕ) → 0 < z → (min (u * z) n - a * z) / z ≡ min (n / z) u - a
part_spectra z n a u some = rest_is z (min (u * z) n) a some ∙ ap (λ m. m - a) (cut_is z n u some)

-- ---- samples after the first bytes

value_drop : (nbit : ℕ) (xs : List ℕ) (m p : ℕ) → value_at nbit (drop m xs) p ≡ value_at nbit xs (m + p)
value_drop nbit xs m p =
    let next : m + (p + 1) ≡ m + p + 1 = omega arith in
    ap (λ n. cond (nbit == 16) (n + 256 * slice_index (drop m xs) (p + 1)) n) (get_or-drop m xs p 0)
    ∙ ap (λ n. cond (nbit == 16) (slice_index xs (m + p) + 256 * n) (slice_index xs (m + p)))
    (get_or-drop m xs (p + 1) 0 ∙ ap (λ k. slice_index xs k) next)

sum_same : (f g : ℕ → ℕ) → ((q : ℕ) → f q ≡ g q) → (z : ℕ) (qs : List ℕ) →
    fold (λ a x. a + f x) z qs ≡ fold (λ a x. a + g x) z qs
sum_same f g each z [] = refl
sum_same f g each z (q ∷ qs) =
    ap (λ n. fold (λ a x. a + f x) (z + n) qs) (each q) ∙ sum_same f g each (z + g q) qs

sample_drop : (nbit npol : ℕ) (xs : List ℕ) (k i : ℕ) →
    sample_at nbit npol (drop (k * sample_bytes nbit npol) xs) i ≡ sample_at nbit npol xs (k + i)
sample_drop nbit npol xs k i =
    let g : ℕ = sample_bytes nbit npol in
    sum_same (λ q. value_at nbit (drop (k * g) xs) (i * g + q * nbit / 8))
    (λ q. value_at nbit xs ((k + i) * g + q * nbit / 8))
    (λ q. value_drop nbit xs (k * g) (i * g + q * nbit / 8)
    ∙ ap (λ p. value_at nbit xs p)
    (let at : k * g + (i * g + q * nbit / 8) ≡ (k + i) * g + q * nbit / 8 = omega arith in at))
    0 (range_with_len 0 npol)

sample_is : (nbit npol : ℕ) (xs : List ℕ) (i : ℕ) → i < length xs / sample_bytes nbit npol →
    slice_index (samples_of nbit npol xs) i ≡ sample_at nbit npol xs i
sample_is nbit npol xs i within =
    get_or-map-range_with_len (λ k. sample_at nbit npol xs k) 0 (length xs / sample_bytes nbit npol) i i 0 within
    (omega arith)

-- so many samples after the first k
pub part_samples : SamplesOfBytes → (nbit npol : ℕ) (bytes : List ℕ) (k t i : ℕ) → (nbit ≡ 8) ⊎ (nbit ≡ 16) →
    0 < npol → 0 < sample_bytes nbit npol →
    i < length (samples_of nbit npol (drop (k * sample_bytes nbit npol) (take t bytes))) →
    slice_index (samples_of nbit npol (drop (k * sample_bytes nbit npol) (take t bytes))) i
    ≡ slice_index (samples_of nbit npol bytes) (k + i)
part_samples law nbit npol bytes k t i bits some positive within =
    let g : ℕ = sample_bytes nbit npol in
    let ys : List ℕ = take t bytes in
    let zs : List ℕ = drop (k * g) ys in
    let count = length-map-range_with_len (λ j. sample_at nbit npol zs j) 0 (length zs / g) in
    let here : i < length zs / g = omega (arith, within, count) in
    let most = div-mul-le_self (length zs) g in
    let room : (i + 1) * g ≤ length zs / g * g =
    mul-le-mul_right g (let l : i + 1 ≤ length zs / g = omega (arith, here) in l) in
    let long = length-drop (k * g) ys in
    let fits : (k + i + 1) * g ≤ length ys = omega (arith, most, room, long, positive) in
    let there : k + i + 1 ≤ length ys / g = le-div (k + i + 1) (length ys) g positive fits in
    let all = length-map-range_with_len (λ j. sample_at nbit npol ys j) 0 (length ys / g) in
    sample_is nbit npol zs i here ∙ sample_drop nbit npol ys k i
    ∙ sym (sample_is nbit npol ys (k + i) (omega (arith, there)))
    ∙ sym (law.kept nbit npol ys (drop t bytes) (k + i) bits some (omega (arith, there, all)))
    ∙ ap (λ xs. slice_index (samples_of nbit npol xs) (k + i)) (take-append-drop t bytes)

pub length_take : (n : ℕ) (xs : List ℕ) → length (take n xs) ≡ min n (length xs)
length_take n xs = elim (cases_lt n (length xs)) [
  | inl less ↦
      length-take-le n xs (omega (arith, less)) ∙ (let same : n ≡ min n (length xs) = omega (arith, less) in same)
  | inr more ↦
      ap (λ (ys : List ℕ). length ys) (take_all n xs more)
      ∙ (let same : length xs ≡ min n (length xs) = omega (arith, more) in same)
]
