-- The number of a key by the value of its field.
use Rattle.std.proofs.Common.{◌≡◌, ◌≤◌, ◌^◌, arith, List, ℕ, refl, sym, subst, Option, Some, None, Ok, Err, SFits, w64}
use Rattle.std.specs.Prelude.{ℤ, pos, unsigned_abs}
use Rattle.std.specs.Int.{cast_signed, cast_unsigned}
use Rattle.std.proofs.lemmas.Int.{to_z-of_z}
use Rattle.psr_base.specs.declared.fixed.NumberFault.{NumberFault}
use Rattle.psr_base.specs.declared.fixed.NumberFault.TheVariants.{BadNumber as NotNumber, TooLarge}
use Rattle.psr_base.specs.Fixed.{ExplainsNumber}
use Rattle.dada_model.specs.declared.key.Key.{Key}
use Rattle.dada_model.specs.declared.key.Key.TheVariants.{Npol, Ndim, ObsOffset}
use Rattle.dada_model.specs.Number.{number_value}
use Rattle.dada_model.specs.Fields.{Field, value_of}
use Rattle.dada_model.specs.Observation.{Missing, BadNumber, keyword, decimals, default, number_of}

pub got : (fields : List Field) (key : Key) (name : List ℕ) (value : Option (List ℕ)) → name ≡ keyword key →
    value ≡ value_of name fields → value_of (keyword key) fields ≡ value
got fields key name value e h = rw (← e) (sym h)

module _ (fields : List Field) (key : Key) where
  pub number_of-text : (text : List ℕ) (z : ℤ) → value_of (keyword key) fields ≡ Some text →
      number_value (decimals key) text ≡ Some z → number_of fields key ≡ Ok z
  unfolding number_of
  number_of-text text z e v = rw e (rw v refl)

  pub number_of-bad : (text : List ℕ) → value_of (keyword key) fields ≡ Some text →
      number_value (decimals key) text ≡ None → number_of fields key ≡ Err (BadNumber key)
  unfolding number_of
  number_of-bad text e v = rw e (rw v refl)

  pub number_of-default : (z : ℤ) → value_of (keyword key) fields ≡ None → default key ≡ Some z →
      number_of fields key ≡ Ok z
  unfolding number_of
  number_of-default z e d = rw e (rw d refl)

  pub number_of-missing : value_of (keyword key) fields ≡ None → default key ≡ None →
      number_of fields key ≡ Err (Missing key)
  unfolding number_of
  number_of-missing e d = rw e (rw d refl)

default_is : (k : ℕ) (z : ℤ) → k ≤ 10 ^ 18 → Some (pos k) ≡ Some z → unsigned_abs z ≤ 10 ^ 18
default_is k z small e = let same : pos k ≡ z = cc in rw (← same) small

pub default_small : (key : Key) (z : ℤ) → default key ≡ Some z → unsigned_abs z ≤ 10 ^ 18
default_small Npol z e = default_is 1 z (omega arith) e
default_small Ndim z e = default_is 1 z (omega arith) e
default_small ObsOffset z e = default_is 0 z (omega arith) e
default_small _ z e = (cc)

-- why a text isn't read
pub told_bad : (k : ℕ) (text : List ℕ) (fault : NumberFault) (place : ℕ) → fault ≡ NotNumber place →
    ExplainsNumber k text fault → number_value k text ≡ None
told_bad k text fault place e h = let P : NumberFault → Type 0 = ExplainsNumber k text in (subst P e h).0

pub told_large : (k : ℕ) (text : List ℕ) (fault : NumberFault) → fault ≡ TooLarge → ExplainsNumber k text fault →
    ExplainsNumber k text TooLarge
told_large k text fault e h = let P : NumberFault → Type 0 = ExplainsNumber k text in subst P e h

-- a number that was read is held as it is
pub held : (P : ℤ → Type 0) (z : ℤ) → SFits w64 z → P z → P (cast_signed w64 (cast_unsigned w64 z))
held P z fits h = subst P (sym (to_z-of_z w64 z fits)) h
