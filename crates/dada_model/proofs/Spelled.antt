-- A text has a value exactly where it spells a number.
use Rattle.std.proofs.Common.{◌≡◌, ℕ, ◌+◌, ◌<◌, true, false, ◌&&◌, cond, eqb, ltb, Bool, List, [], ◌∷◌, ◌++◌, length, get_or, drop, refl, sym, ap, ◌∙◌, arith, length-append, Some, None, ◌⊎◌, inl, inr, append-nil}
use Rattle.std.specs.Prelude.{All, ℤ, codes}
use Rattle.std.specs.Char.{IsAsciiDigit, is_ascii_digit}
use Rattle.std.specs.List.{before_first, after_first, position_or_len}
use Rattle.std.specs.Str.{all_ascii_digits}
use Rattle.std.specs.Str.Parse.{starts_with_minus, without_leading_sign}
use Rattle.std.proofs.lemmas.Bool.{and_parts, cases_lt}
use Rattle.std.proofs.lemmas.Bool.Decides.{nat_tests}
use Rattle.std.proofs.lemmas.List.{drop_all, take_all}
use Rattle.std.proofs.lemmas.List.Elements.{All-head, All-cons, All-take}
use Rattle.std.proofs.lemmas.List.Sums.{position_or_len_is, split_at_first, passes_at_first}
use Rattle.std.proofs.Math.ListN.{get_or-append}
use Rattle.std.proofs.Math.Seq.{get_or-append_seam, take-append_seam, drop-append-add}
use Rattle.dada_model.specs.Number.{is_point, whole_part, fraction_part, digits_of_number, number_value}
use Rattle.dada_model.specs.Laws.{IsSign, Spells, spelled_value, NumbersAreSpelled}
use Rattle.dada_model.proofs.Numbers.{all_digits, no_point, no_minus, no_plus, some_digits, whole_of, fraction_of, value_by, value_by_is, minus_first}

-- ---- from what is spelled

All-front : (xs ys : List ℕ) → All IsAsciiDigit (xs ++ ys) → All IsAsciiDigit xs
All-front xs ys h = rw (take-append_seam xs ys) at (All-take IsAsciiDigit (length xs) (xs ++ ys) h)

-- digits, a point and more
module _ (whole more : List ℕ) (digits : All IsAsciiDigit whole) where
  point_at : position_or_len is_point (whole ++ (46 ∷ more)) ≡ length whole
  point_at = position_or_len_is is_point (whole ++ (46 ∷ more)) (length whole) 0 (simp length-append (omega arith))
      (λ k small. rw (get_or-append whole (46 ∷ more) 0 k small) (no_point (get_or whole k 0) (digits k 0 small)))
      (λ small. rw (get_or-append_seam whole 46 more 0) refl)

  before_point : before_first is_point (whole ++ (46 ∷ more)) ≡ whole
  before_point = rw point_at (take-append_seam whole (46 ∷ more))

  after_point : after_first is_point (whole ++ (46 ∷ more)) ≡ more
  after_point = rw point_at (drop-append-add whole (46 ∷ more) 1)

-- a body begins with neither sign
record IsBody (body : List ℕ) : Type 0 where
  no_minus_first : eqb (get_or body 0 0) 45 ≡ false
  no_plus_first : eqb (get_or body 0 0) 43 ≡ false

body_of_digits : (whole : List ℕ) → 0 < length whole → All IsAsciiDigit whole → IsBody whole
body_of_digits [] some digits = absurd (omega arith)
body_of_digits (x ∷ xs) some digits = let first = All-head IsAsciiDigit x xs digits in
    record { no_minus_first = no_minus x first; no_plus_first = no_plus x first }

body_of_point : (whole more : List ℕ) → All IsAsciiDigit whole → IsBody (whole ++ (46 ∷ more))
body_of_point [] more digits = record { no_minus_first = refl; no_plus_first = refl }
body_of_point (x ∷ xs) more digits = let first = All-head IsAsciiDigit x xs digits in
    record { no_minus_first = no_minus x first; no_plus_first = no_plus x first }

signed_body : (negative : Bool) (sign body : List ℕ) → IsSign negative sign → IsBody body →
    (starts_with_minus (sign ++ body) ≡ negative) × (without_leading_sign (sign ++ body) ≡ body)
signed_body true sign body e h = rw e (refl, refl)
signed_body false sign body (inl e) h = rw (e, h.no_minus_first, h.no_plus_first) (refl, refl)
signed_body false sign body (inr e) h = rw e (refl, refl)

module _ (k : ℕ) (text : List ℕ) (negative : Bool) (whole fraction : List ℕ) where
  value_from : starts_with_minus text ≡ negative → whole_part text ≡ whole → fraction_part text ≡ fraction →
      0 < length (whole ++ fraction) → All IsAsciiDigit (whole ++ fraction) →
      number_value k text ≡ Some (spelled_value k negative whole fraction)
  unfolding value_by
  value_from sign w f some digits =
      let shape : number_value k text ≡ value_by negative (whole ++ fraction) fraction k =
      rw (← sign, ← w, ← f) (value_by_is k text) in
      let value : value_by negative (whole ++ fraction) fraction k ≡ Some (spelled_value k negative whole fraction) =
      rw (some_digits (whole ++ fraction) some, all_digits (whole ++ fraction) digits) refl in
      shape ∙ value

  value_of_spelled : Spells text negative whole fraction →
      number_value k text ≡ Some (spelled_value k negative whole fraction)
  value_of_spelled s =
      let digits = All-front whole fraction s.digits in
      elim s.spelled [
        | inl e ↦
            let parts = signed_body negative s.sign (whole ++ (46 ∷ fraction)) s.signed
            (body_of_point whole fraction digits) in
            let bare : without_leading_sign text ≡ whole ++ (46 ∷ fraction) = ap without_leading_sign e ∙ parts.1 in
            value_from (ap starts_with_minus e ∙ parts.0) (ap (before_first is_point) bare
            ∙ before_point whole fraction digits) (ap (after_first is_point) bare
            ∙ after_point whole fraction digits) s.some s.digits
        | inr (e, none) ↦
            let same : whole ++ fraction ≡ whole = ap (λ (xs : List ℕ). whole ++ xs) none ∙ append-nil whole in
            let some : 0 < length whole = rw same at s.some in
            let parts = signed_body negative s.sign whole s.signed (body_of_digits whole some digits) in
            let bare : without_leading_sign text ≡ whole = ap without_leading_sign e ∙ parts.1 in
            value_from (ap starts_with_minus e ∙ parts.0) (ap (before_first is_point) bare ∙ whole_of whole digits)
            (ap (after_first is_point) bare ∙ fraction_of whole digits ∙ sym none) s.some s.digits
      ]

-- ---- to what is spelled

bool_cases : (b : Bool) → (b ≡ true) ⊎ (b ≡ false)
bool_cases true = inl refl
bool_cases false = inr refl

digit_from : (byte : ℕ) → is_ascii_digit byte ≡ true → IsAsciiDigit byte
digit_from byte e = (grind (arith, nat_tests), grind (arith, nat_tests))

digits_from : (text : List ℕ) → all_ascii_digits text ≡ true → All IsAsciiDigit text
digits_from [] e = λ k d h. absurd (omega arith)
digits_from (x ∷ xs) e =
    let parts = and_parts (is_ascii_digit x) (all_ascii_digits xs) e in
    All-cons IsAsciiDigit x xs (digit_from x parts.0) (digits_from xs parts.1)

some_from : (n : ℕ) → ltb 0 n ≡ true → 0 < n
some_from n e = grind (arith, nat_tests)

value_if : (passes : Bool) (v z : ℤ) → cond passes (Some v) None ≡ Some z → (passes ≡ true) × (z ≡ v)
value_if true v z e = (refl, (cc))
value_if false v z e = (cc)

is_point_byte : (byte : ℕ) → is_point byte ≡ true → byte ≡ 46
is_point_byte byte e = grind (arith, nat_tests)

is_plus : (byte : ℕ) → eqb byte 43 ≡ true → byte ≡ 43
is_plus byte e = grind (arith, nat_tests)

plus_first : (text : List ℕ) → eqb (get_or text 0 0) 43 ≡ true → text ≡ 43 ∷ drop 1 text
plus_first [] e = (cc)
plus_first (x ∷ xs) e = ap (λ (byte : ℕ). byte ∷ xs) (is_plus x e)

sign_of : (text : List ℕ) → (sign : List ℕ) × IsSign (starts_with_minus text) sign
    × (text ≡ sign ++ without_leading_sign text)
sign_of text =
    elim (bool_cases (starts_with_minus text)) [
      | inl e ↦ (codes "-", rw e refl, rw e (minus_first text e))
      | inr e ↦ elim (bool_cases (eqb (get_or text 0 0) 43)) [
        | inl p ↦ (codes "+", rw e (inr refl), rw (e, p) (plus_first text p))
        | inr p ↦ ([], rw e (inl refl), rw (e, p) refl)
      ]
    ]

body_parts : (body : List ℕ) → (body ≡ before_first is_point body ++ (46 ∷ after_first is_point body))
    ⊎ ((body ≡ before_first is_point body) × (after_first is_point body ≡ []))
body_parts body =
    elim (cases_lt (position_or_len is_point body) (length body)) [
      | inl h ↦
          let point = is_point_byte (get_or body (position_or_len is_point body) 0)
          (passes_at_first is_point body 0 h) in
          inl (rw point at (split_at_first is_point body 0 h))
      | inr h ↦ inr (
        sym (take_all (position_or_len is_point body) body h),
        drop_all (position_or_len is_point body + 1) body (omega arith),
      )
    ]

spelled_of_value : (k : ℕ) (text : List ℕ) (z : ℤ) → number_value k text ≡ Some z →
    (negative : Bool) × (whole : List ℕ) × (fraction : List ℕ) × Spells text negative whole fraction
    × (z ≡ spelled_value k negative whole fraction)
unfolding value_by
spelled_of_value k text z e =
    let found = value_if (ltb 0 (length (digits_of_number text)) && all_ascii_digits (digits_of_number text))
    (spelled_value k (starts_with_minus text) (whole_part text) (fraction_part text)) z (sym (value_by_is k text)
    ∙ e) in
    let tests = and_parts (ltb 0 (length (digits_of_number text))) (all_ascii_digits (digits_of_number text)) found.0 in
    let signed = sign_of text in
    let spells : Spells text (starts_with_minus text) (whole_part text) (fraction_part text) = record {
      sign = signed.0;
      signed = signed.1;
      digits = digits_from (digits_of_number text) tests.1;
      some = some_from (length (digits_of_number text)) tests.0;
      spelled = elim (body_parts (without_leading_sign text)) [
        | inl b ↦ inl (signed.2 ∙ ap (λ (xs : List ℕ). signed.0 ++ xs) b)
        | inr (b, none) ↦ inr (signed.2 ∙ ap (λ (xs : List ℕ). signed.0 ++ xs) b, none)
      ];
    } in
    (starts_with_minus text, whole_part text, fraction_part text, spells, found.1)

pub numbers_are_spelled : NumbersAreSpelled
numbers_are_spelled k text z = (
  spelled_of_value k text z,
  λ (negative, whole, fraction, spells, e). rw e (value_of_spelled k text negative whole fraction spells),
)
