-- Rows that are made each at a place of its own.
use Rattle.std.proofs.Common.{◌≡◌, ◌≢◌, ℕ, suc, ◌+◌, ◌-◌, ◌*◌, ◌%◌, ◌^◌, ◌≤◌, ◌<◌, Bool, List, Some, slice_get, slice_index, arith, sym, ap, subst, ◌∙◌, refl, inl, inr}
use Rattle.std.proofs.Math.Nat.{mul-le-mul_right, suc-mul}
use Rattle.std.proofs.lemmas.Bool.{cases_lt, cases_eq}
use Rattle.fdmt_rows.specs.Rows.{wrapping_sum}
use Rattle.row_model.specs.declared.Merge.{Merge}
use Rattle.row_model.specs.declared.Rows.{Rows}
use Rattle.row_model.specs.declared.Source.TheVariants.{Channel, Sum}
use Rattle.row_model.specs.Sums.{Sums, AddUp}
use Rattle.row_schedule.specs.Steps.{AreApart}
use Rattle.row_schedule.specs.Layout.{tail_of}
use Rattle.row_schedule.specs.Making.{Puts}
use Rattle.row_schedule.specs.Moving.{IsHold}
use Rattle.row_schedule.specs.Running.{Stores, KeepsRow, kept_of}
use Rattle.row_schedule.specs.declared.kept.Hold.{Hold}
use Rattle.row_schedule.specs.Filling.{AddsLate, AddsSources, AreGiven, StandsAtPlace, own_place}
use Rattle.row_schedule.proofs.Going.{kept_here}
use Rattle.row_schedule.proofs.Values.{value_at, wraps}

-- the places of two rows have no place in common, and are all before the end
times_next : (n room : ℕ) → (n + 1) * room ≡ n * room + room
times_next n room = let e : n + 1 ≡ suc n = omega arith in rw (e, suc-mul n room) (omega arith)

pub place_before : (room q r : ℕ) → q < r → own_place room q + room ≤ own_place room r
place_before room q r lt =
    let most : (q + 1) * room ≤ r * room = mul-le-mul_right room (let e : q + 1 ≤ r = omega arith in e) in
    let next = times_next q room in
    omega arith

pub places_apart : (room spectra q r a b : ℕ) → spectra ≤ room → q ≢ r → a ≡ own_place room q → b ≡ own_place room r →
    AreApart a spectra b spectra
places_apart room spectra q r a b short other first second = elim (cases_lt q r) [
  | inl before ↦ let past = place_before room q r before in inl (omega arith)
  | inr after ↦
      let more : r < q = elim (cases_eq q r) [
        | inl same ↦ absurd (other same)
        | inr _ ↦ omega arith
      ] in
      let past = place_before room r q more in
      inr (omega arith)
]

-- the samples of a channel are there
pub channel_fits : (channels c chunk spectra long : ℕ) → c < channels → spectra ≤ chunk →
    channels * chunk ≤ long + (chunk - spectra) → c * chunk + spectra ≤ long
channel_fits channels c chunk spectra long lt short within =
    let most : (c + 1) * chunk ≤ channels * chunk =
    mul-le-mul_right chunk (let e : c + 1 ≤ channels = omega arith in e) in
    let next = times_next c chunk in
    omega arith

-- a row that stands at another place stays
pub others_stand : (room spectra q r u at : ℕ) (y : Sums) (old new : List ℕ) → at ≡ own_place room r →
    spectra ≤ room → q ≢ r →
    ((k : ℕ) → AreApart k 1 at spectra → slice_index new k ≡ slice_index old k) →
    StandsAtPlace room y u spectra old q → StandsAtPlace room y u spectra new q
others_stand room spectra q r u at y old new at_is short other stays stands i lt =
    stays (own_place room q + i) (elim (places_apart room spectra q r _ at short other refl at_is) [
      | inl before ↦ inl (omega arith)
      | inr after ↦ inr (omega arith)
    ])
    ∙ stands i lt

-- the first values of the upper one are those that are kept
pub adds_here : (rows : Rows) (narrow : List Bool) (st : Stores) (m : Merge) (r room spectra held at upper lower : ℕ)
    (hold : Hold) (kept old new : List ℕ) → IsHold rows narrow m.upper hold → kept ≡ kept_of hold.narrow st →
    held ≡ hold.at + (hold.size - m.late) → at ≡ own_place room r → upper ≡ own_place room m.upper →
    lower ≡ own_place room m.lower →
    AddsLate m.late (λ i. slice_index kept (held + i)) upper lower at spectra old new →
    AddsSources rows narrow m r room spectra st old new
adds_here rows narrow st m r room spectra held at upper lower hold kept old new is kept_is held_is at_is upper_is
    lower_is added =
    let late : ℕ = m.late in
    let there : AddsLate late (λ i. slice_index kept (held + i)) (own_place room m.upper) (own_place room m.lower)
    (own_place room r) spectra old new =
    subst (λ a. AddsLate late (λ i. slice_index kept (held + i)) (own_place room m.upper) (own_place room m.lower) a
    spectra old new) at_is
    (subst (λ b. AddsLate late (λ i. slice_index kept (held + i)) (own_place room m.upper) b at spectra old new) lower_is
    (subst (λ a. AddsLate late (λ i. slice_index kept (held + i)) a lower at spectra old new) upper_is added)) in
    record {
      early = λ i early lt.
          let size = is.size_is in
          let k : ℕ = tail_of rows m.upper - late + i in
          there.early i early lt
          ∙ ap (λ n. wrapping_sum n (slice_index old (own_place room m.lower + i)))
          (ap (λ p. slice_index kept p) (let e : held + i ≡ hold.at + k = omega arith in e)
          ∙ ap (λ xs. slice_index xs (hold.at + k)) kept_is
          ∙ kept_here rows narrow m.upper k hold hold.narrow st is refl);
      rest = there.rest;
      stays = there.stays;
    }

-- a row of two others stands at its place
pub sum_stands : (rows : Rows) (x : ℕ → ℕ → ℕ) (y : Sums) (u room spectra r : ℕ) (m : Merge)
    (narrow : List Bool) (st : Stores) (old new : List ℕ) →
    AddUp rows.sources.items x y → slice_get rows.sources.items r ≡ Some (Sum m) →
    m.late ≤ tail_of rows m.upper → KeepsRow rows narrow y u st m.upper → StandsAtPlace room y u spectra old m.upper →
    StandsAtPlace room y u spectra old m.lower → AddsSources rows narrow m r room spectra st old new →
    StandsAtPlace room y u spectra new r
sum_stands rows x y u room spectra r m narrow st old new adds is le keeps upper lower added i lt =
    let late : ℕ = m.late in
    let same : 0 + late ≡ late = omega arith in
    let below = lower i lt in
    let sum : y m.upper (u + i) late + y m.lower (u + i) 0 ≡ y r (u + i) 0 =
    sym (adds.sums r (u + i) 0 m is ∙ ap (λ l. y m.upper (u + i) l + y m.lower (u + i) 0) same) in
    let whole : (above : ℕ) → above ≡ y m.upper (u + i) late % 2 ^ 32 →
    wrapping_sum above (slice_index old (own_place room m.lower + i)) ≡ y r (u + i) 0 % 2 ^ 32 = λ above above_is.
    ap (λ n. wrapping_sum n (slice_index old (own_place room m.lower + i))) above_is
    ∙ ap (λ n. wrapping_sum (y m.upper (u + i) late % 2 ^ 32) n) below
    ∙ wraps (y m.upper (u + i) late) (y m.lower (u + i) 0)
    ∙ ap (λ n. n % 2 ^ 32) sum in
    elim (cases_lt i late) [
      | inl early ↦
          let k : ℕ = tail_of rows m.upper - late + i in
          added.early i early lt
          ∙ whole _ (keeps k (omega arith) ∙ value_at rows x y u m.upper i k late adds (omega arith) le)
      | inr past ↦
          let j : ℕ = i - late in
          let later : u + j + late ≡ u + i = omega arith in
          added.rest i past lt
          ∙ whole _ (upper j (omega arith)
          ∙ ap (λ n. n % 2 ^ 32) (sym (adds.shifts m.upper (u + j) 0 late)
          ∙ ap (λ v. y m.upper v (0 + late)) later ∙ ap (λ l. y m.upper (u + i) l) same))
    ]

-- and so does a row of samples
pub samples_stand : (rows : Rows) (x : ℕ → ℕ → ℕ) (y : Sums) (u room chunk spectra r c at from : ℕ)
    (samples : List ℕ) (narrow : List Bool) (st : Stores) (old new : List ℕ) →
    AreGiven rows narrow x y u chunk spectra samples st →
    slice_get rows.sources.items r ≡ Some (Channel c) → at ≡ own_place room r → from ≡ c * chunk →
    Puts old new at spectra (λ i. slice_index samples (from + i) % 2 ^ 32) → StandsAtPlace room y u spectra new r
samples_stand rows x y u room chunk spectra r c at from samples narrow st old new given is at_is from_is puts i lt =
    ap (λ p. slice_index new (p + i)) (sym at_is)
    ∙ puts.written i lt
    ∙ ap (λ p. slice_index samples (p + i) % 2 ^ 32) from_is
    ∙ ap (λ n. n % 2 ^ 32) (given.next c i (given.rows_are.channel r c is) lt ∙ sym (given.adds.samples r c (u + i) is))
