-- When a band is accepted, in natural numbers, and the bounds of an accepted observation.
use Rattle.std.proofs.Common.{◌≡◌, ℕ, ◌+◌, ◌-◌, ◌*◌, ◌/◌, ◌%◌, ◌^◌, ◌<◌, ◌≤◌, Bool, true, false, ◌&&◌, ◌||◌, ◌⊎◌, List, [], refl, inl, inr, arith, Result, Ok, ltb, leb, eqb, ◌∷◌}
use Rattle.std.specs.Prelude.{ℤ, pos, negsuc, ◌-ℤ◌, not, unsigned_abs, int_le}
use Rattle.std.specs.Result.{result_unwrap_or}
use Rattle.std.specs.Int.{int_div_euclid}
use Rattle.std.proofs.lemmas.Int.{ints}
use Rattle.std.proofs.lemmas.Bool.{cases_lt, and_parts}
use Rattle.std.proofs.lemmas.Bool.Decides.{nat_tests}
use Rattle.std.proofs.lemmas.Nat.{le-div, div_below}
use Rattle.std.proofs.Math.Nat.{mul-le-mul_right, div-lt_iff_lt-mul, le-div_iff_mul-le, le_of_mul-le-mul_right, lt_of_mul-lt-mul_right}
use Rattle.dada_model.specs.declared.key.Key.{Key}
use Rattle.dada_model.specs.declared.key.Key.TheVariants.{Nchan, Nbit, Npol, Tsamp, Freq, Bw, ObsOffset}
use Rattle.dada_model.specs.Fields.{Field}
use Rattle.dada_model.specs.Observation.{Observation, Refusal, TooNarrow, signed_edge, number_of, observation_in, is_within, is_in_row, too_narrow, observation_of}
use Rattle.dada_model.specs.Bounds.{ObservationInRange, IsBandWidth}
use Rattle.dada_model.specs.Laws.{HasNumberInRow, AcceptedByRows}
use Rattle.dada_model.proofs.Edges.{difference}
use Rattle.dada_model.proofs.Accepted.{accepted_is, accepted_at, accepted_wide, accepted_when, number_when, none_when}

-- ---- a floor over numbers with sign, against its bounds

floor_of : (a c d : ℕ) → c ≤ a → int_div_euclid (pos a -ℤ pos c) (pos d) ≡ pos ((a - c) / d)
floor_of a c d h = rw (difference a c h)

floor_below : (a c d : ℕ) → a < c → int_div_euclid (pos a -ℤ pos c) (pos d) ≡ negsuc ((c - a - 1) / d)
floor_below a c d h = let e : pos a -ℤ pos c ≡ negsuc (c - a - 1) = omega (arith, ints) in rw e

leb_le : (a b : ℕ) → leb a b ≡ true → a ≤ b
leb_le a b e = grind (arith, nat_tests)

le_leb : (a b : ℕ) → a ≤ b → leb a b ≡ true
le_leb a b h = grind (arith, nat_tests)

one_from_nat : (a c d : ℕ) → 0 < d → 1 ≤ (a - c) / d → c ≤ a → c + d ≤ a
one_from_nat a c d positive h low = let k : 1 * d ≤ a - c = (le-div_iff_mul-le positive).0 h in omega arith

one_from : (a c d : ℕ) → 0 < d → int_le (pos 1) (int_div_euclid (pos a -ℤ pos c) (pos d)) ≡ true → c + d ≤ a
one_from a c d positive e =
    elim (cases_lt a c) [
      | inl h ↦ let no : int_le (pos 1) (negsuc ((c - a - 1) / d)) ≡ true = rw (floor_below a c d h) at e in (cc)
      | inr h ↦ let yes : int_le (pos 1) (pos ((a - c) / d)) ≡ true = rw (floor_of a c d h) at e in
          one_from_nat a c d positive (leb_le 1 ((a - c) / d) yes) h
    ]

one_when : (a c d : ℕ) → 0 < d → c + d ≤ a → int_le (pos 1) (int_div_euclid (pos a -ℤ pos c) (pos d)) ≡ true
one_when a c d positive h =
    rw (floor_of a c d (omega arith)) (le_leb 1 ((a - c) / d) (le-div 1 (a - c) d positive (omega arith)))

most_from : (a c d m : ℕ) → 0 < d → c ≤ a → int_le (int_div_euclid (pos a -ℤ pos c) (pos d)) (pos m) ≡ true →
    a - c < (m + 1) * d
most_from a c d m positive low e =
    let yes : int_le (pos ((a - c) / d)) (pos m) ≡ true = rw (floor_of a c d low) at e in
    let below : (a - c) / d ≤ m = leb_le ((a - c) / d) m yes in
    (div-lt_iff_lt-mul positive).0 (omega arith)

most_when : (a c d m : ℕ) → 0 < d → c ≤ a → a - c < (m + 1) * d →
    int_le (int_div_euclid (pos a -ℤ pos c) (pos d)) (pos m) ≡ true
most_when a c d m positive low h =
    let below : (a - c) / d < m + 1 = div_below (a - c) d (m + 1) positive h in
    rw (floor_of a c d low) (le_leb ((a - c) / d) m (omega arith))

-- ---- the row of BW

eqb_zero : (n : ℕ) → not (eqb n 0) ≡ true → 0 < n
eqb_zero n e = grind (arith, nat_tests)

zero_eqb : (n : ℕ) → 0 < n → not (eqb n 0) ≡ true
zero_eqb n h = grind (arith, nat_tests)

module _ (o : Observation) (positive : 0 < o.channels) where
  foot_from : int_le (pos 1) (signed_edge o o.channels) ≡ true → o.width_hz + 2000 ≤ 2 * o.centre_hz
  unfolding signed_edge
  foot_from e =
      let whole = one_from (2 * o.centre_hz * o.channels + o.width_hz * o.channels) (2 * o.width_hz * o.channels)
      (2000 * o.channels) (omega arith) e in
      le_of_mul-le-mul_right {k = o.channels} (omega arith) positive

  foot_when : o.width_hz + 2000 ≤ 2 * o.centre_hz → int_le (pos 1) (signed_edge o o.channels) ≡ true
  unfolding signed_edge
  foot_when h =
      let whole : (o.width_hz + 2000) * o.channels ≤ 2 * o.centre_hz * o.channels = mul-le-mul_right o.channels h in
      one_when (2 * o.centre_hz * o.channels + o.width_hz * o.channels) (2 * o.width_hz * o.channels)
      (2000 * o.channels) (omega arith) (omega arith)

  top_from : int_le (signed_edge o 0) (pos 16777216) ≡ true → 2 * o.centre_hz + o.width_hz < 2000 * 16777217
  unfolding signed_edge
  top_from e =
      let whole = most_from (2 * o.centre_hz * o.channels + o.width_hz * o.channels) (2 * o.width_hz * 0)
      (2000 * o.channels) 16777216 (omega arith) (omega arith) e in
      lt_of_mul-lt-mul_right o.channels (omega arith)

  top_when : 2 * o.centre_hz + o.width_hz < 2000 * 16777217 → int_le (signed_edge o 0) (pos 16777216) ≡ true
  unfolding signed_edge
  top_when h =
      let wider : 2 * o.centre_hz + o.width_hz + 1 ≤ 2000 * 16777217 = omega arith in
      let whole : (2 * o.centre_hz + o.width_hz + 1) * o.channels ≤ 2000 * 16777217 * o.channels =
      mul-le-mul_right o.channels wider in
      most_when (2 * o.centre_hz * o.channels + o.width_hz * o.channels) (2 * o.width_hz * 0)
      (2000 * o.channels) 16777216 (omega arith) (omega arith) (omega arith)

  pub band_from : (z : ℤ) → is_in_row o Bw z ≡ true → IsBandWidth o (unsigned_abs z)
  band_from z e =
      let parts = and_parts (not (eqb (unsigned_abs z) 0))
      (int_le (pos 1) (signed_edge o o.channels) && int_le (signed_edge o 0) (pos 16777216)) e in
      let ends = and_parts (int_le (pos 1) (signed_edge o o.channels))
      (int_le (signed_edge o 0) (pos 16777216)) parts.1 in
      record { some = eqb_zero (unsigned_abs z) parts.0; foot = foot_from ends.0; top = top_from ends.1 }

  pub band_when : (z : ℤ) → IsBandWidth o (unsigned_abs z) → is_in_row o Bw z ≡ true
  band_when z band = rw (zero_eqb (unsigned_abs z) band.some, foot_when band.foot, top_when band.top) refl

-- ---- the bounds of an accepted observation

within : (low high : ℕ) (z : ℤ) → is_within (pos low) (pos high) z ≡ true →
    (low ≤ unsigned_abs z) × (unsigned_abs z ≤ high)
within low high (pos n) e = (grind (arith, nat_tests), grind (arith, nat_tests))
within low high (negsuc n) e = (cc)

bounded : (low high : ℕ) (n : Result ℤ Refusal) (z : ℤ) → n ≡ Ok z → is_within (pos low) (pos high) z ≡ true →
    (low ≤ unsigned_abs (result_unwrap_or n (pos 0))) × (unsigned_abs (result_unwrap_or n (pos 0)) ≤ high)
bounded low high n z e h = rw e (within low high z h)

or_cases : (b c : Bool) → (b || c) ≡ true → (b ≡ true) ⊎ (c ≡ true)
or_cases true c e = inl refl
or_cases false c e = inr e

-- 8 or 16 bits
record AreBits (bits : ℕ) : Type 0 where
  whole : bits % 8 ≡ 0
  few : 8 ≤ bits
  many : bits ≤ 16

same_bits : (bits k : ℕ) → k ≤ bits → bits ≤ k → (k ≡ 8) ⊎ (k ≡ 16) → AreBits bits
same_bits bits k from to (inl is) = let e : bits ≡ 8 = omega arith in
    rw e (record { whole = refl; few = omega arith; many = omega arith })
same_bits bits k from to (inr is) = let e : bits ≡ 16 = omega arith in
    rw e (record { whole = refl; few = omega arith; many = omega arith })

bits_of : (n : Result ℤ Refusal) (z : ℤ) → n ≡ Ok z → (is_within (pos 8) (pos 8) z || is_within (pos 16) (pos 16) z)
    ≡ true →
    AreBits (unsigned_abs (result_unwrap_or n (pos 0)))
bits_of n z e h =
    elim (or_cases (is_within (pos 8) (pos 8) z) (is_within (pos 16) (pos 16) z) h) [
      | inl eight ↦ let b = bounded 8 8 n z e eight in same_bits _ 8 b.0 b.1 (inl refl)
      | inr sixteen ↦ let b = bounded 16 16 n z e sixteen in same_bits _ 16 b.0 b.1 (inr refl)
    ]

band_of : (o : Observation) → 0 < o.channels → (n : Result ℤ Refusal) (z : ℤ) → n ≡ Ok z → is_in_row o Bw z ≡ true →
    IsBandWidth o (unsigned_abs (result_unwrap_or n (pos 0)))
band_of o positive n z e h = rw e (band_from o positive z h)

lt_ltb : (a b : ℕ) → a < b → ltb a b ≡ true
lt_ltb a b h = grind (arith, nat_tests)

le_ltb : (a b : ℕ) → b ≤ a → ltb a b ≡ false
le_ltb a b h = grind (arith, nat_tests)

wide_from : (o : Observation) → too_narrow o ≡ [] → 1000 * o.channels ≤ o.width_hz
wide_from o e =
    elim (cases_lt o.width_hz (1000 * o.channels)) [
      | inl h ↦ let narrow : too_narrow o ≡ TooNarrow o.width_hz o.channels ∷ [] =
          rw (lt_ltb o.width_hz (1000 * o.channels) h) refl in (cc)
      | inr h ↦ h
    ]

wide_when : (o : Observation) → 1000 * o.channels ≤ o.width_hz → too_narrow o ≡ []
wide_when o h = rw (le_ltb o.width_hz (1000 * o.channels) h) refl

-- each key's number, by its row
module _ (fields : List Field) (o : Observation) (accepted : observation_of fields ≡ Ok o) where
  in_row_of : (key : Key) → HasNumberInRow fields key
  in_row_of key = number_when fields key (accepted_at fields o accepted key)

  in_range : ObservationInRange (observation_in fields)
  unfolding observation_in
  in_range =
      let channels = bounded 2 4096 (number_of fields Nchan) _ (in_row_of Nchan).is (in_row_of Nchan).in_row in
      let bits = bits_of (number_of fields Nbit) _ (in_row_of Nbit).is (in_row_of Nbit).in_row in
      let polarisations = bounded 1 2 (number_of fields Npol) _ (in_row_of Npol).is (in_row_of Npol).in_row in
      let sample = bounded 1 (2 ^ 30) (number_of fields Tsamp) _ (in_row_of Tsamp).is (in_row_of Tsamp).in_row in
      let centre = bounded 1000 16000000000 (number_of fields Freq) _ (in_row_of Freq).is (in_row_of Freq).in_row in
      let offset = bounded 0 (10 ^ 15) (number_of fields ObsOffset) _ (in_row_of ObsOffset).is
      (in_row_of ObsOffset).in_row in
      let band = band_of (observation_in fields) (omega arith) (number_of fields Bw) _ (in_row_of Bw).is
      (in_row_of Bw).in_row in
      record {
        few_channels = channels.0;
        many_channels = channels.1;
        whole_bytes = bits.whole;
        few_bits = bits.few;
        many_bits = bits.many;
        few_polarisations = polarisations.0;
        many_polarisations = polarisations.1;
        short_sample = sample.0;
        long_sample = sample.1;
        low_centre = centre.0;
        high_centre = centre.1;
        foot = band.foot;
        top = band.top;
        wide = wide_from (observation_in fields) (accepted_wide fields o accepted);
        early = offset.1;
      }

  pub ObservationInRange-accepted : ObservationInRange o
  ObservationInRange-accepted = rw (accepted_is fields o accepted) in_range

  wide_accepted : 1000 * o.channels ≤ o.width_hz
  wide_accepted = let bounds = ObservationInRange-accepted in bounds.wide

pub accepted_by_rows : AcceptedByRows
accepted_by_rows fields o = (
  λ accepted. (accepted_is fields o accepted, in_row_of fields o accepted, wide_accepted fields o accepted),
  λ (same, rows, wide).
      let room : 1000 * (observation_in fields).channels ≤ (observation_in fields).width_hz = rw same at wide in
      rw same (accepted_when fields (λ key. none_when fields key (rows key)) (wide_when (observation_in fields) room)),
)
