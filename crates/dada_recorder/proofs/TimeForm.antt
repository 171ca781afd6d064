-- The form of a time in UTC, byte by byte.
use Rattle.std.proofs.Common.{◌≡◌, ◌≢◌, ℕ, zero, suc, ◌+◌, ◌<◌, Bool, true, false, List, [], ◌∷◌, length, get_or, drop, refl, ap, arith, inl, inr, Option, Some, None}
use Rattle.std.proofs.lemmas.Bool.{cases_eq}
use Rattle.std.specs.Prelude.{◌&&◌, codes}
use Rattle.std.proofs.lemmas.List.{drop_all}
use Rattle.std.proofs.Math.Bool.{and-false}
use Rattle.stream_model.specs.Recorded.{stands_for, has_form, is_time, time_refusal, BadTime}

-- texts of another length don't have it
other_length : (form text : List ℕ) → length text ≢ length form → has_form form text ≡ false
other_length [] [] apart = absurd (apart refl)
other_length [] (byte ∷ bytes) apart = refl
other_length (letter ∷ form) [] apart = refl
other_length (letter ∷ form) (byte ∷ bytes) apart =
    rw (other_length form bytes (λ same. apart (ap suc same)), and-false) refl

pub no_time : (text : List ℕ) → length text ≢ 19 → is_time text ≡ false
unfolding is_time
no_time text apart = other_length (codes "0000-00-00-00:00:00") text apart

-- what is left of the form and of the text, from a place on
pub from_place : (form text : List ℕ) (i : ℕ) (d e : ℕ) → i < length form → i < length text →
    has_form (drop i form) (drop i text)
    ≡ (stands_for (get_or form i d) (get_or text i e) && has_form (drop (i + 1) form) (drop (i + 1) text))
from_place [] text i d e low within = absurd (omega arith)
from_place (letter ∷ form) [] i d e low within = absurd (omega arith)
from_place (letter ∷ form) (byte ∷ text) zero d e low within = refl
from_place (letter ∷ form) (byte ∷ text) (suc i) d e low within =
    let next : suc i + 1 ≡ suc (i + 1) = omega arith in
    rw next (from_place form text i d e (omega arith) (omega arith))

pub at_first : (text : List ℕ) → has_form (codes "0000-00-00-00:00:00") text ≡ is_time text
unfolding is_time
at_first text = refl

-- a byte that doesn't stand there ends it, and one that does leaves the rest
pub stops_at : (form text : List ℕ) (i d e : ℕ) (all : Bool) → i < length form → i < length text →
    has_form (drop i form) (drop i text) ≡ all → stands_for (get_or form i d) (get_or text i e) ≡ false → false ≡ all
stops_at form text i d e all low within is not = rw (from_place form text i d e low within, not) at is

pub goes_on : (form text : List ℕ) (i d e : ℕ) (all : Bool) → i < length form → i < length text →
    has_form (drop i form) (drop i text) ≡ all → stands_for (get_or form i d) (get_or text i e) ≡ true →
    has_form (drop (i + 1) form) (drop (i + 1) text) ≡ all
goes_on form text i d e all low within is stands = rw (from_place form text i d e low within, stands) at is

pub none_left : (form text : List ℕ) (all : Bool) → length text ≡ length form →
    has_form (drop (length form) form) (drop (length form) text) ≡ all → true ≡ all
none_left form text all same is =
    rw (drop_all (length form) form (omega arith), drop_all (length form) text (omega (arith, same))) at is

-- a time has nineteen bytes
pub time_length : (found : Option (List ℕ)) (text : List ℕ) → found ≡ Some text → time_refusal found ≡ None →
    length text ≡ 19
time_length found text is none = elim (cases_eq (length text) 19) [
  | inl same ↦ same
  | inr apart ↦
      let bad : Some BadTime ≡ None = rw (is, no_time text apart) at none in
      absurd cc
]
