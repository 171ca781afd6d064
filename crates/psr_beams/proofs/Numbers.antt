-- Numbers of 1 to 5 digits, as they are read and as they are computed.
use Rattle.std.proofs.Common.{◌≡◌, ℕ, ◌<◌, ◌≤◌, Bool, true, false, ◌&&◌, List, [], ◌∷◌, length, refl, sym, ap, subst, ◌∙◌, Some, None, arith}
use Rattle.std.specs.Prelude.{All, if◌then◌else◌, nat_le, nat_lt}
use Rattle.std.specs.Char.{IsAsciiDigit, is_ascii_digit}
use Rattle.std.specs.Str.{all_ascii_digits}
use Rattle.std.specs.Str.Parse.{digits_value}
use Rattle.std.proofs.lemmas.Bool.{and_parts}
use Rattle.std.proofs.lemmas.Bool.Decides.{nat_tests}
use Rattle.std.proofs.lemmas.List.Elements.{All-head, All-tail, All-cons, All-nil}
use Rattle.dada_model.specs.Number.{IsWholeNumber}
use Rattle.psr_beams.specs.Words.{is_short_number, number_between}

-- ---- digits

all_pass : (text : List ℕ) → All IsAsciiDigit text → all_ascii_digits text ≡ true
all_pass [] h = refl
all_pass (x ∷ xs) h =
    let first = All-head IsAsciiDigit x xs h in
    let digit : is_ascii_digit x ≡ true = grind (arith, nat_tests) in
    rw digit (all_pass xs (All-tail IsAsciiDigit x xs h))

pass_all : (text : List ℕ) → all_ascii_digits text ≡ true → All IsAsciiDigit text
pass_all [] e = All-nil IsAsciiDigit
pass_all (x ∷ xs) e =
    let parts = and_parts (is_ascii_digit x) (all_ascii_digits xs) e in
    let first = parts.0 in
    let digit : IsAsciiDigit x = grind (arith, nat_tests) in
    All-cons IsAsciiDigit x xs digit (pass_all xs parts.1)

lt-true : (a b : ℕ) → nat_lt a b ≡ true → a < b
lt-true a b e = grind (arith, nat_tests)

le-true : (a b : ℕ) → nat_le a b ≡ true → a ≤ b
le-true a b e = grind (arith, nat_tests)

not_true : (b : Bool) → (b ≡ true → ⊥) → b ≡ false
not_true true not = absurd (not refl)
not_true false not = refl

-- ---- a text

is_short : (text : List ℕ) → IsWholeNumber 5 text → is_short_number text ≡ true
is_short text is =
    let digits = all_pass text is.2 in let some = is.0 in let few = is.1 in
    rw digits (grind (arith, nat_tests))

short_is : (text : List ℕ) → is_short_number text ≡ true → IsWholeNumber 5 text
short_is text e =
    let some = nat_lt 0 (length text) in
    let few = nat_le (length text) 5 in
    let last = and_parts (some && few) (all_ascii_digits text) e in
    let first = and_parts some few last.0 in
    (lt-true 0 (length text) first.0, le-true (length text) 5 first.1, pass_all text last.1)

module _ (least most : ℕ) (text : List ℕ) where
  abbrev value : ℕ
  value = digits_value 10 text

  abbrev in_range : Bool
  in_range = nat_le least value && nat_le value most

  -- by what the tests tell
  by_tests : (form range : Bool) → is_short_number text ≡ form → in_range ≡ range →
      (if form && range then Some value else None) ≡ number_between least most text
  unfolding number_between
  by_tests form range a b = sym (ap (λ f. if f && in_range then Some value else None) a
      ∙ ap (λ r. if form && r then Some value else None) b)

  pub said : (n : ℕ) → IsWholeNumber 5 text → n ≡ digits_value 10 text → least ≤ n → n ≤ most →
      Some n ≡ number_between least most text
  said n is same low high =
      let range : in_range ≡ true = grind (arith, nat_tests) in
      ap (λ k. Some k) same ∙ by_tests true true (is_short text is) range

  pub formless : (IsWholeNumber 5 text → ⊥) → None ≡ number_between least most text
  formless not = by_tests false in_range (not_true (is_short_number text) (λ e. not (short_is text e))) refl

  pub outside : (n : ℕ) → IsWholeNumber 5 text → n ≡ digits_value 10 text → (least ≤ n → n ≤ most → ⊥) →
      None ≡ number_between least most text
  outside n is same not = by_tests true false (is_short text is) (not_true in_range (λ e.
      let parts = and_parts (nat_le least value) (nat_le value most) e in
      not (subst (λ k. least ≤ k) (sym same) (le-true least value parts.0))
      (subst (λ k. k ≤ most) (sym same) (le-true value most parts.1))))
