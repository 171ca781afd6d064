-- A later header that says the same as the first one has its observation.
use Rattle.std.proofs.Common.{◌≡◌, ℕ, ◌^◌, ltb, Bool, true, false, ◌||◌, List, [], ◌∷◌, Option, Some, None, Result, Ok, Err, refl, sym, ap, ◌∙◌, arith}
use Rattle.std.specs.Prelude.{ℤ, pos, negsuc, neg_ℤ, unsigned_abs, int_le, int_lt, if◌then◌else◌, filter_map}
use Rattle.std.specs.Result.{result_unwrap_or}
use Rattle.std.specs.List.{AllByRecursion, cons_option}
use Rattle.std.proofs.lemmas.Bool.{leb-true, and_parts}
use Rattle.std.proofs.lemmas.Bool.Decides.{nat_tests}
use Rattle.dada_model.specs.declared.key.Key.{Key}
use Rattle.dada_model.specs.declared.key.Key.TheVariants.{Nchan, Nbit, Npol, Ndim, Tsamp, Freq, Bw, ObsOffset}
use Rattle.dada_model.specs.Fields.{Field}
use Rattle.dada_model.specs.Observation.{Refusal, number_of, observation_in, observation_of, is_within}
use Rattle.dada_model.specs.Laws.{AcceptedByRows, HasNumberInRow}
use Rattle.obs_plan.specs.declared.fault.ObsFault.{ObsFault}
use Rattle.obs_plan.specs.declared.fault.ObsFault.TheVariants.{Differs, OutOfRange}
use Rattle.obs_plan.specs.Offset.{has_value, offset_or_fault}
use Rattle.obs_plan.specs.Later.{difference, later_offset_of, profile_of, profile_values, unless_differs}
use Rattle.beam_set.specs.Later.{LaterHeadersAgree}

-- ---- numbers

-- two numbers of which neither is above the other are one
both_ways : (a b : ℤ) → int_le a b ≡ true → int_le b a ≡ true → a ≡ b
both_ways (pos m) (pos n) up down =
    let x = leb-true m n up in
    let y = leb-true n m down in
    ap (λ (k : ℕ). pos k) (omega arith)
both_ways (negsuc m) (negsuc n) up down =
    let x = leb-true n m up in
    let y = leb-true m n down in
    ap (λ (k : ℕ). negsuc k) (omega arith)
both_ways a b up down = (cc)

within_one : (a z : ℤ) → is_within a a z ≡ true → z ≡ a
within_one a z h =
    let parts = and_parts (int_le a z) (int_le z a) h in
    both_ways z a parts.1 parts.0

-- a number at or above a natural number is its absolute value
from_natural : (n : ℕ) (z : ℤ) → int_le (pos n) z ≡ true → z ≡ pos (unsigned_abs z)
from_natural n (pos m) h = refl
from_natural n (negsuc m) h = (cc)

within_natural : (n : ℕ) (high z : ℤ) → is_within (pos n) high z ≡ true → z ≡ pos (unsigned_abs z)
within_natural n high z h = from_natural n z (and_parts (int_le (pos n) z) (int_le z high) h).0

either_natural : (m n : ℕ) (a b z : ℤ) (p q : Bool) → p ≡ is_within (pos m) a z → q ≡ is_within (pos n) b z →
    p || q ≡ true → z ≡ pos (unsigned_abs z)
either_natural m n a b z true q is_p is_q h = within_natural m a z (sym is_p)
either_natural m n a b z false true is_p is_q h = within_natural n b z (sym is_q)
either_natural m n a b z false false is_p is_q h = (cc)

-- a number is its absolute value with its sign
signed : (z : ℤ) → z ≡ (if int_lt z (pos 0) then neg_ℤ (pos (unsigned_abs z)) else pos (unsigned_abs z))
signed (pos m) =
    let no : ltb m 0 ≡ false = grind (arith, nat_tests) in
    rw no refl
signed (negsuc m) = refl

-- ---- what a later header says

told : (b : Bool) (key : Key) → (if b then None else Some (Differs key)) ≡ None → b ≡ true
told true key h = refl
told false key h = (cc)

value_is : (number : Result ℤ Refusal) (value : ℤ) → has_value number value ≡ true → number ≡ Ok value
value_is (Ok z) value h =
    let parts = and_parts (is_within value value z) _ h in
    ap (λ (x : ℤ). Ok x) (within_one value z parts.0)
value_is (Err refusal) value h = (cc)

none_of : {B : Type 0} (o : Option B) (rest : List B) → cons_option o rest ≡ [] → (o ≡ None) × (rest ≡ [])
none_of None rest e = (refl, e)
none_of (Some b) rest e = (cc)

no_fault : (faults : List ObsFault) (offset : Result ℕ ObsFault) (n : ℕ) → unless_differs faults offset ≡ Ok n →
    (faults ≡ []) × (offset ≡ Ok n)
no_fault [] offset n h = (refl, h)
no_fault (first ∷ more) offset n h = (cc)

in_row : (b : Bool) (m n : ℕ) → (if b then Ok m else Err (OutOfRange ObsOffset)) ≡ Ok n → (b ≡ true) × (m ≡ n)
in_row true m n h = (refl, cc)
in_row false m n h = (cc)

offset_is : (number : Result ℤ Refusal) (n : ℕ) → offset_or_fault number ≡ Ok n → number ≡ Ok (pos n)
offset_is (Ok z) n h =
    let at = in_row (is_within (pos 0) (pos (10 ^ 15)) z) (unsigned_abs z) n h in
    ap (λ (x : ℤ). Ok x) (within_natural 0 (pos (10 ^ 15)) z at.0 ∙ ap (λ (k : ℕ). pos k) at.1)
offset_is (Err refusal) n h = (cc)

module _ (later : List Field) where
  number_is : (key : Key) (value : ℤ) → difference later (key, value) ≡ None → number_of later key ≡ Ok value
  number_is key value h = value_is (number_of later key) value (told (has_value (number_of later key) value) key h)

  -- it has the number of each value
  abbrev Says : Key × ℤ → Type 0
  Says e = number_of later e.0 ≡ Ok e.1

  all_agree : (values : List (Key × ℤ)) → filter_map (difference later) values ≡ [] → AllByRecursion Says values
  all_agree [] h = tt
  all_agree (e ∷ more) h =
      let both = none_of (difference later e) (filter_map (difference later) more) h in
      (number_is e.0 e.1 both.0, all_agree more both.1)

-- ---- both headers

module _ (law : AcceptedByRows) (first later : List Field) (accepted : observation_of first ≡ Ok (observation_in first))
    (agrees : later_offset_of (profile_of (observation_in first)) later ≡ Ok (observation_in first).obs_offset) where
  abbrev row : (key : Key) → HasNumberInRow first key
  row = ((law first (observation_in first)).0 accepted).1

  -- the value of a key in the first header
  abbrev number : Key → ℤ
  number key = (row key).number

  no_faults : (filter_map (difference later) (profile_values (profile_of (observation_in first))) ≡ [])
      × (offset_or_fault (number_of later ObsOffset) ≡ Ok (observation_in first).obs_offset)
  unfolding later_offset_of
  no_faults = no_fault _ _ _ agrees

  -- a natural number that the later header says is that of the first one
  same_natural : (key : Key) → number key ≡ pos (unsigned_abs (number key)) →
      number_of later key ≡ Ok (pos (unsigned_abs (result_unwrap_or (number_of first key) (pos 0)))) →
      number_of later key ≡ number_of first key
  same_natural key natural said = said ∙ rw ((row key).is, sym natural) refl

  said : AllByRecursion (Says later) (profile_values (profile_of (observation_in first)))
  said = all_agree later (profile_values (profile_of (observation_in first))) no_faults.0

  same_number : (key : Key) → number_of later key ≡ number_of first key
  unfolding observation_in
  same_number Nchan = same_natural Nchan (within_natural 2 _ (number Nchan) (row Nchan).in_row) said.0
  same_number Nbit = same_natural Nbit (either_natural 8 16 _ _ (number Nbit) _ _ refl refl (row Nbit).in_row) said.1.0
  same_number Npol = same_natural Npol (within_natural 1 _ (number Npol) (row Npol).in_row) said.1.1.0
  same_number Ndim = said.1.1.1.0 ∙ ap (λ (z : ℤ). Ok z) (sym (within_one (pos 1) (number Ndim) (row Ndim).in_row))
      ∙ sym (row Ndim).is
  same_number Tsamp = same_natural Tsamp (within_natural 1 _ (number Tsamp) (row Tsamp).in_row) said.1.1.1.1.0
  same_number Freq = same_natural Freq (within_natural 1000 _ (number Freq) (row Freq).in_row) said.1.1.1.1.1.0
  same_number Bw = said.1.1.1.1.1.1.0 ∙ rw ((row Bw).is, sym (signed (number Bw))) refl
  same_number ObsOffset = same_natural ObsOffset (within_natural 0 _ (number ObsOffset) (row ObsOffset).in_row)
      (offset_is (number_of later ObsOffset) _ no_faults.1)

  same_observation : observation_in later ≡ observation_in first
  unfolding observation_in
  same_observation = rw (
    same_number Nchan,
    same_number Nbit,
    same_number Npol,
    same_number Tsamp,
    same_number Freq,
    same_number Bw,
    same_number ObsOffset,
  ) refl

  row_later : (key : Key) → HasNumberInRow later key
  row_later key = record {
    number = number key;
    is = same_number key ∙ (row key).is;
    in_row = rw same_observation (row key).in_row;
  }

  agreed : observation_of later ≡ Ok (observation_in first)
  agreed = (law later (observation_in first)).1
      (sym same_observation, row_later, ((law first (observation_in first)).0 accepted).2)

pub later_agree : AcceptedByRows → LaterHeadersAgree
later_agree law o first later accepted agrees =
    let is = ((law first o).0 accepted).0 in
    rw is (agreed law first later (rw is at accepted) (rw is at agrees))
