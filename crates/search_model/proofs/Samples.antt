-- The samples of data bytes.
use Rattle.std.proofs.Common.{◌≡◌, ℕ, ◌+◌, ◌-◌, ◌*◌, ◌/◌, ◌^◌, ◌<◌, ◌≤◌, ◌⊎◌, inl, inr, List, ◌++◌, length, sym, ◌∙◌, arith, length-append}
use Rattle.std.specs.Prelude.{slice_index, All}
use Rattle.std.specs.List.{range_with_len}
use Rattle.std.proofs.Math.ListN.{get_or-append}
use Rattle.std.proofs.Math.Nat.{div-mul-le_self, mul-le-mul_right}
use Rattle.std.proofs.lemmas.Nat.{le-div}
use Rattle.std.proofs.lemmas.Bool.{cases_lt}
use Rattle.std.proofs.lemmas.List.{get_or_past}
use Rattle.std.proofs.lemmas.List.Sums.{sum_by-le}
use Rattle.search_model.proofs.Lists.{all_members}
use Rattle.std.proofs.lemmas.List.FromFn.{length-range_with_len, length-map-range_with_len, get_or-map-range_with_len, fill_by_all}
use Rattle.search_model.specs.Samples.{value_at, sample_bytes, sample_at, samples_of}
use Rattle.search_model.proofs.Ranges.{sum_agree}

-- ---- 8 bits, one polarisation

pub plain_samples : (bytes : List ℕ) → samples_of 8 1 bytes ≡ bytes
plain_samples bytes =
    let whole : length bytes / 1 ≡ length bytes = omega arith in
    sym (fill_by_all (λ i. sample_at 8 1 bytes i) bytes (length bytes / 1) 0 (sym whole)
    (λ k small. let place : k * 1 + 0 ≡ k = omega arith in rw place (omega arith)))

-- ---- more bytes

module _ (npol : ℕ) (bytes more : List ℕ) (i : ℕ) where
  byte_kept : (k : ℕ) → k < length bytes → slice_index (bytes ++ more) k ≡ slice_index bytes k
  byte_kept k small = get_or-append bytes more 0 k small

  kept_8 : i * npol + npol ≤ length bytes → sample_at 8 npol (bytes ++ more) i ≡ sample_at 8 npol bytes i
  kept_8 room =
      sum_agree _ _ 0 npol
      (λ q from to.
      let g : npol * 8 / 8 ≡ npol = omega arith in
      let place : q * 8 / 8 ≡ q = omega arith in
      rw (g, place) (byte_kept (i * npol + q) (omega arith)))

  kept_16 : i * (2 * npol) + 2 * npol ≤ length bytes → sample_at 16 npol (bytes ++ more) i ≡ sample_at 16 npol bytes i
  kept_16 room =
      sum_agree _ _ 0 npol
      (λ q from to.
      let g : npol * 16 / 8 ≡ 2 * npol = omega arith in
      let place : q * 16 / 8 ≡ 2 * q = omega arith in
      let low = byte_kept (i * (2 * npol) + 2 * q) (omega arith) in
      let high = byte_kept (i * (2 * npol) + 2 * q + 1) (omega arith) in
      rw (g, place) (omega arith))

-- a place below a quotient leaves room for its own part
room_of : (n g i : ℕ) → i < n / g → i * g + g ≤ n
room_of n g i h =
    let whole : n / g * g ≤ n = div-mul-le_self n g in
    let next : i + 1 ≤ n / g = omega arith in
    let part : (i + 1) * g ≤ n / g * g = mul-le-mul_right g next in
    omega arith

sample_kept : (nbit npol : ℕ) (bytes more : List ℕ) (i : ℕ) → (nbit ≡ 8) ⊎ (nbit ≡ 16) →
    i < length bytes / sample_bytes nbit npol →
    sample_at nbit npol (bytes ++ more) i ≡ sample_at nbit npol bytes i
sample_kept nbit npol bytes more i (inl is) small =
    let g : npol * 8 / 8 ≡ npol = omega arith in
    let below : i < length bytes / npol = rw (is, g) at small in
    rw is (kept_8 npol bytes more i (room_of (length bytes) npol i below))
sample_kept nbit npol bytes more i (inr is) small =
    let g : npol * 16 / 8 ≡ 2 * npol = omega arith in
    let below : i < length bytes / (2 * npol) = rw (is, g) at small in
    rw is (kept_16 npol bytes more i (room_of (length bytes) (2 * npol) i below))

some_bytes : (nbit npol : ℕ) → (nbit ≡ 8) ⊎ (nbit ≡ 16) → 0 < npol → 0 < sample_bytes nbit npol
some_bytes nbit npol (inl is) some = rw is (omega arith)
some_bytes nbit npol (inr is) some = rw is (omega arith)

pub samples_kept : (nbit npol : ℕ) (bytes more : List ℕ) (i : ℕ) → (nbit ≡ 8) ⊎ (nbit ≡ 16) → 0 < npol →
    i < length (samples_of nbit npol bytes) →
    slice_index (samples_of nbit npol (bytes ++ more)) i ≡ slice_index (samples_of nbit npol bytes) i
samples_kept nbit npol bytes more i bits some small =
    let g = sample_bytes nbit npol in
    let count = length-map-range_with_len (λ k. sample_at nbit npol bytes k) 0 (length bytes / g) in
    let within : i < length bytes / g = omega arith in
    let room = room_of (length bytes) g i within in
    let longer = length-append bytes more in
    let wider : i + 1 ≤ length (bytes ++ more) / g =
    le-div (i + 1) (length (bytes ++ more)) g (some_bytes nbit npol bits some) (omega arith) in
    get_or-map-range_with_len (λ k. sample_at nbit npol (bytes ++ more) k) 0 (length (bytes ++ more) / g) i i 0
    (omega arith) (omega arith)
    ∙ sample_kept nbit npol bytes more i bits within
    ∙ sym (get_or-map-range_with_len (λ k. sample_at nbit npol bytes k) 0 (length bytes / g) i i 0 within (omega arith))

-- ---- bounds

byte_below : (bytes : List ℕ) (k : ℕ) → All (λ byte. byte < 256) bytes → slice_index bytes k < 256
byte_below bytes k small = elim (cases_lt k (length bytes)) [
  | inl within ↦ small k 0 within
  | inr past ↦ rw (get_or_past bytes k 0 past) (omega arith)
]

value_below : (nbit : ℕ) (bytes : List ℕ) (k : ℕ) → (nbit ≡ 8) ⊎ (nbit ≡ 16) → All (λ byte. byte < 256) bytes →
    value_at nbit bytes k ≤ 2 ^ nbit - 1
value_below nbit bytes k (inl is) small = let low = byte_below bytes k small in rw is (omega arith)
value_below nbit bytes k (inr is) small =
    let low = byte_below bytes k small in
    let high = byte_below bytes (k + 1) small in
    rw is (omega arith)

sample_below : (nbit npol : ℕ) (bytes : List ℕ) (i : ℕ) → (nbit ≡ 8) ⊎ (nbit ≡ 16) → All (λ byte. byte < 256) bytes →
    sample_at nbit npol bytes i ≤ npol * (2 ^ nbit - 1)
sample_below nbit npol bytes i bits small =
    let value = λ (q : ℕ). value_at nbit bytes (i * sample_bytes nbit npol + q * nbit / 8) in
    let each = all_members (λ q. value q ≤ 2 ^ nbit - 1) (range_with_len 0 npol) (λ q h.
    value_below nbit bytes _ bits small) in
    let count = length-range_with_len 0 npol in
    let bound = sum_by-le value (2 ^ nbit - 1) (range_with_len 0 npol) each in
    rw count at bound

pub samples_below : (nbit npol : ℕ) (bytes : List ℕ) (i : ℕ) → (nbit ≡ 8) ⊎ (nbit ≡ 16) →
    All (λ byte. byte < 256) bytes →
    slice_index (samples_of nbit npol bytes) i ≤ npol * (2 ^ nbit - 1)
samples_below nbit npol bytes i bits small =
    let count = length-map-range_with_len (λ k. sample_at nbit npol bytes k) 0
    (length bytes / sample_bytes nbit npol) in
    elim (cases_lt i (length bytes / sample_bytes nbit npol)) [
      | inl within ↦
          rw (get_or-map-range_with_len (λ k. sample_at nbit npol bytes k) 0
          (length bytes / sample_bytes nbit npol) i i 0 within (omega arith))
          (sample_below nbit npol bytes i bits small)
      | inr past ↦ rw (get_or_past (samples_of nbit npol bytes) i 0 (omega arith)) (omega arith)
    ]
