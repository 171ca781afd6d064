-- A header that is accepted is that of a later file of its own observation.
use Rattle.std.proofs.Common.{◌≡◌, ℕ, ◌^◌, ◌≤◌, Bool, true, false, List, [], ◌∷◌, Option, Some, None, Result, Ok, Err, refl, sym, ap, ◌∙◌, arith, inl, inr, lit≤}
use Rattle.std.specs.Prelude.{ℤ, pos, negsuc, neg_ℤ, unsigned_abs, int_lt, int_le, nat_lt, ◌||◌, if◌then◌else◌}
use Rattle.std.specs.List.{cons_option}
use Rattle.std.specs.Result.{result_unwrap_or}
use Rattle.std.proofs.lemmas.Bool.{and_parts, and_from, or_cases, leb-true, le-leb}
use Rattle.std.proofs.lemmas.Bool.Decides.{nat_tests}
use Rattle.dada_model.specs.declared.key.Key.{Key}
use Rattle.dada_model.specs.declared.key.Key.TheVariants.{Nchan, Nbit, Npol, Ndim, Tsamp, Freq, Bw, ObsOffset}
use Rattle.dada_model.specs.Fields.{Field}
use Rattle.dada_model.specs.Observation.{Observation, Refusal, number_of, is_within, observation_in, observation_of, refusals, unless_refused}
use Rattle.dada_model.specs.Laws.{AcceptedByRows, AcceptedIsInRange, HasNumberInRow}
use Rattle.obs_plan.specs.declared.fault.ObsFault.{ObsFault}
use Rattle.obs_plan.specs.Offset.{has_value, offset_or_fault}
use Rattle.obs_plan.specs.declared.fault.ObsFault.TheVariants.{Differs, OutOfRange}
use Rattle.obs_plan.specs.Later.{profile_of, difference, unless_differs, later_offset_of}

-- an integer that is not too large has its own value
has_own : (z : ℤ) → unsigned_abs z ≤ 10 ^ 18 → has_value (Ok z) z ≡ true
has_own (pos n) few =
    and_from _ _ (and_from _ _ (le-leb n n (omega arith)) (le-leb n n (omega arith))) (le-leb n (10 ^ 18) few)
has_own (negsuc n) few =
    and_from _ _ (and_from _ _ (le-leb n n (omega arith)) (le-leb n n (omega arith))) (le-leb _ (10 ^ 18) few)

-- a number within bounds is its absolute value
pos_of : (z : ℤ) (low high : ℕ) → is_within (pos low) (pos high) z ≡ true →
    (z ≡ pos (unsigned_abs z)) × (unsigned_abs z ≤ high)
pos_of (pos n) low high within = (refl, leb-true n high (and_parts _ _ within).1)
pos_of (negsuc n) low high within = let never : false ≡ true = (and_parts (int_le (pos low) (negsuc n)) (int_le (negsuc
    n) (pos high)) within).0 in
    absurd cc

none_below : (n : ℕ) → nat_lt n 0 ≡ false
none_below n = grind (arith, nat_tests)

-- a number with its sign is made of its absolute value
signed : (z : ℤ) → (if int_lt z (pos 0) then neg_ℤ (pos (unsigned_abs z)) else pos (unsigned_abs z)) ≡ z
signed (pos n) = rw (none_below n) refl
signed (negsuc n) = refl

with_sign : (is_falling : Bool) (width : ℕ) (z : ℤ) → is_falling ≡ int_lt z (pos 0) → width ≡ unsigned_abs z →
    (if is_falling then neg_ℤ (pos width) else pos width) ≡ z
with_sign is_falling width z e f =
    ap (λ (b : Bool). if b then neg_ℤ (pos width) else pos width) e
    ∙ ap (λ (n : ℕ). if int_lt z (pos 0) then neg_ℤ (pos n) else pos n) f
    ∙ signed z

-- a key's number is no other than the value
none_differs : (fields : List Field) (key : Key) (z value : ℤ) → number_of fields key ≡ Ok z → z ≡ value →
    unsigned_abs z ≤ 10 ^ 18 → difference fields (key, value) ≡ None
none_differs fields key z value is same few =
    ap (λ (r : Result ℤ Refusal). if has_value r value then None else Some (Differs key)) is
    ∙ ap (λ (v : ℤ). if has_value (Ok z) v then None else Some (Differs key)) (sym same)
    ∙ ap (λ (b : Bool). if b then None else Some (Differs key)) (has_own z few)

-- the value that an observation has for a key is that of the number
in_observation : (fields : List Field) (key : Key) (z : ℤ) → number_of fields key ≡ Ok z →
    result_unwrap_or (number_of fields key) (pos 0) ≡ z
in_observation fields key z is = ap (λ (r : Result ℤ Refusal). result_unwrap_or r (pos 0)) is

-- a key whose row goes from one number to another
row_differs : (fields : List Field) (key : Key) (low high value : ℕ) (h : HasNumberInRow fields key) →
    is_within (pos low) (pos high) h.number ≡ true → high ≤ 10 ^ 18 → unsigned_abs h.number ≡ value →
    difference fields (key, pos value) ≡ None
row_differs fields key low high value h within few is =
    let p = pos_of h.number low high within in
    none_differs fields key h.number (pos value) h.is (p.0 ∙ ap pos is) (omega (arith, p.1))

all_seven : (a b c d e f g : Option ObsFault) (r : Result ℕ ObsFault) → a ≡ None → b ≡ None → c ≡ None → d ≡ None →
    e ≡ None → f ≡ None → g ≡ None →
    unless_differs (cons_option a (cons_option b (cons_option c (cons_option d (cons_option e (cons_option f
    (cons_option
    g [])))))))
    r ≡ r
all_seven a b c d e f g r i j k l m n o = rw (i, j, k, l, m, n, o) refl

offset_is : (z : ℤ) → is_within (pos 0) (pos (10 ^ 15)) z ≡ true → offset_or_fault (Ok z) ≡ Ok (unsigned_abs z)
offset_is z within = ap (λ (b : Bool). if b then Ok (unsigned_abs z) else Err (OutOfRange ObsOffset)) within

-- NBIT is 8 or 16
bits : (fields : List Field) (value : ℕ) (h : HasNumberInRow fields Nbit) →
    (is_within (pos 8) (pos 8) h.number || is_within (pos 16) (pos 16) h.number) ≡ true →
    unsigned_abs h.number ≡ value → difference fields (Nbit, pos value) ≡ None
bits fields value h row is = elim (or_cases _ _ row) [
  | inl eight ↦ row_differs fields Nbit 8 8 value h eight (lit≤ tt) is
  | inr sixteen ↦ row_differs fields Nbit 16 16 value h sixteen (lit≤ tt) is
]

one_is : (z : ℤ) → is_within (pos 1) (pos 1) z ≡ true → unsigned_abs z ≡ 1
one_is (pos n) row =
    let parts = and_parts _ _ row in
    omega (arith, leb-true 1 n parts.0, leb-true n 1 parts.1)
one_is (negsuc n) row = absurd cc

-- a field of an observation is the absolute value of a key's number
value_in : (fields : List Field) (o : Observation) (field : Observation → ℕ) (key : Key) (h : HasNumberInRow fields
    key) →
    o ≡ observation_in fields →
    field (observation_in fields) ≡ unsigned_abs (result_unwrap_or (number_of fields key) (pos 0)) →
    unsigned_abs h.number ≡ field o
value_in fields o field key h is has =
    sym (ap field is ∙ has ∙ ap unsigned_abs (in_observation fields key h.number h.is))

pub itself : AcceptedByRows → AcceptedIsInRange → (fields : List Field) (o : Observation) →
    observation_of fields ≡ Ok o → later_offset_of (profile_of o) fields ≡ Ok o.obs_offset
unfolding later_offset_of observation_in
itself rows range fields o accepted =
    let all = (rows fields o).0 accepted in
    let bounds = range fields o accepted in
    let is : o ≡ observation_in fields = all.0 in
    let value = λ (field : Observation → ℕ) (key : Key) (h : HasNumberInRow fields key). value_in fields o field key h
    is in
    let nchan = all.1 Nchan in
    let nbit = all.1 Nbit in
    let npol = all.1 Npol in
    let ndim = all.1 Ndim in
    let tsamp = all.1 Tsamp in
    let freq = all.1 Freq in
    let bw = all.1 Bw in
    let offset = all.1 ObsOffset in
    let width : o.width_hz ≡ unsigned_abs bw.number =
    ap (λ (p : Observation). p.width_hz) is ∙ ap unsigned_abs (in_observation fields Bw bw.number bw.is) in
    let falling : o.is_falling ≡ int_lt bw.number (pos 0) =
    ap (λ (p : Observation). p.is_falling) is ∙ ap (λ (z : ℤ). int_lt z (pos 0)) (in_observation fields Bw bw.number
    bw.is) in
    let few : unsigned_abs bw.number ≤ 10 ^ 18 = omega (arith, width, bounds.top, bounds.high_centre) in
    all_seven
    (difference fields (Nchan, pos o.channels))
    (difference fields (Nbit, pos o.nbit))
    (difference fields (Npol, pos o.npol))
    (difference fields (Ndim, pos 1))
    (difference fields (Tsamp, pos o.sample_ns))
    (difference fields (Freq, pos o.centre_hz))
    (difference fields (Bw, (profile_of o).bw_hz))
    (offset_or_fault (number_of fields ObsOffset))
    (row_differs fields Nchan 2 4096 o.channels nchan nchan.in_row (lit≤ tt) (value (λ p. p.channels) Nchan nchan refl))
    (bits fields o.nbit nbit nbit.in_row (value (λ p. p.nbit) Nbit nbit refl))
    (row_differs fields Npol 1 2 o.npol npol npol.in_row (lit≤ tt) (value (λ p. p.npol) Npol npol refl))
    (row_differs fields Ndim 1 1 1 ndim ndim.in_row (lit≤ tt) (one_is ndim.number ndim.in_row))
    (row_differs fields Tsamp 1 (2 ^ 30) o.sample_ns tsamp tsamp.in_row (lit≤ tt) (value (λ p. p.sample_ns) Tsamp tsamp
    refl))
    (row_differs fields Freq 1000 16000000000 o.centre_hz freq freq.in_row (lit≤ tt) (value (λ p. p.centre_hz) Freq
    freq refl))
    (none_differs fields Bw bw.number (profile_of o).bw_hz bw.is (sym (with_sign o.is_falling o.width_hz bw.number
    falling width)) few)
    ∙ ap offset_or_fault offset.is
    ∙ offset_is offset.number offset.in_row
    ∙ ap Ok (value (λ p. p.obs_offset) ObsOffset offset refl)

-- an observation is that of the numbers
pub accepted_is : (fields : List Field) (o : Observation) → observation_of fields ≡ Ok o → o ≡ observation_in fields
unfolding observation_of
accepted_is fields o accepted = unless_is (observation_in fields) o (refusals fields) accepted
  where
    unless_is : (p o : Observation) (rs : List Refusal) → unless_refused p rs ≡ Ok o → o ≡ p
    unless_is p o [] e = sym (cc)
    unless_is p o (r ∷ rs) e = absurd cc
