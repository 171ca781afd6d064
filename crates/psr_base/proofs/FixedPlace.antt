-- Where a text stops being the beginning of a number.
use Rattle.std.proofs.Common.{◌≡◌, ◌≢◌, ℕ, ◌+◌, ◌-◌, ◌<◌, ◌≤◌, zero, suc, true, false, ◌&&◌, cond, eqb, ltb, Bool, List, [], ◌∷◌, ◌++◌, length, take, drop, refl, sym, ap, ◌∙◌, subst, arith, append_assoc, append-nil, length-append, Some, None, inl, inr}
use Rattle.std.specs.Prelude.{All, ℤ, codes, slice_get}
use Rattle.std.specs.Char.{IsAsciiDigit, is_ascii_digit}
use Rattle.std.specs.List.{before_first, after_first, position_or_len}
use Rattle.std.specs.Str.{all_ascii_digits}
use Rattle.std.specs.Str.Parse.{without_leading_sign}
use Rattle.std.proofs.lemmas.Bool.Decides.{nat_tests}
use Rattle.std.proofs.lemmas.List.Elements.{All-head, All-tail, All-cons, All-append}
use Rattle.std.proofs.Math.Seq.{take-append_seam, take-append-add, take-length}
use Rattle.dada_model.specs.Number.{is_point, digits_of_number, is_number, number_value}
use Rattle.dada_model.specs.Laws.{IsSign, Spells, spelled_value, NumbersAreSpelled}
use Rattle.psr_base.specs.Fixed.{BeginsNumber, StopsAt}
use Rattle.psr_base.specs.Spelling.{BeginsWithout, BeginsWithoutDigit, SplitsSign, SplitsNumber}

-- ---- texts that are no number

-- what follows the sign
bare_body : (body : List ℕ) → BeginsWithout body 43 → BeginsWithout body 45 → without_leading_sign body ≡ body
bare_body [] plus minus = refl
bare_body (x ∷ xs) plus minus =
    let no_plus : x ≢ 43 = plus (omega arith) in
    let no_minus : x ≢ 45 = minus (omega arith) in
    let p : eqb x 43 ≡ false = grind (arith, nat_tests) in
    let m : eqb x 45 ≡ false = grind (arith, nat_tests) in
    rw (m, p) refl

unsigned_is : (negative : Bool) (sign body : List ℕ) → IsSign negative sign →
    (sign ≡ [] → BeginsWithout body 43 × BeginsWithout body 45) → without_leading_sign (sign ++ body) ≡ body
unsigned_is true sign body e bare = rw e refl
unsigned_is false sign body (inl e) bare = let b = bare e in rw e (bare_body body b.0 b.1)
unsigned_is false sign body (inr e) bare = rw e refl

no_point : (byte : ℕ) → IsAsciiDigit byte → is_point byte ≡ false
no_point byte h = grind (arith, nat_tests)

before_cons : (x : ℕ) (ys : List ℕ) → is_point x ≡ false → before_first is_point (x ∷ ys) ≡ x ∷ before_first is_point ys
before_cons x ys e = let next : 1 + position_or_len is_point ys ≡ suc (position_or_len is_point ys) = omega arith in
    rw (e, next) refl

after_cons : (x : ℕ) (ys : List ℕ) → is_point x ≡ false → after_first is_point (x ∷ ys) ≡ after_first is_point ys
after_cons x ys e = let next : 1 + position_or_len is_point ys + 1 ≡ suc (position_or_len is_point ys + 1) =
    omega arith in rw (e, next) refl

before_more : (whole more : List ℕ) → All IsAsciiDigit whole →
    before_first is_point (whole ++ more) ≡ whole ++ before_first is_point more
before_more [] more h = refl
before_more (x ∷ xs) more h =
    before_cons x (xs ++ more) (no_point x (All-head IsAsciiDigit x xs h))
    ∙ ap (λ (ys : List ℕ). x ∷ ys) (before_more xs more (All-tail IsAsciiDigit x xs h))

after_more : (whole more : List ℕ) → All IsAsciiDigit whole →
    after_first is_point (whole ++ more) ≡ after_first is_point more
after_more [] more h = refl
after_more (x ∷ xs) more h =
    after_cons x (xs ++ more) (no_point x (All-head IsAsciiDigit x xs h))
    ∙ after_more xs more (All-tail IsAsciiDigit x xs h)

no_digit : (byte : ℕ) → ¬ IsAsciiDigit byte → is_ascii_digit byte ≡ false
no_digit byte h = grind (arith, nat_tests)

and_false : (b : Bool) → (b && false) ≡ false
and_false true = refl
and_false false = refl

stray : (xs : List ℕ) (byte : ℕ) (ys : List ℕ) → ¬ IsAsciiDigit byte → all_ascii_digits (xs ++ (byte ∷ ys)) ≡ false
stray [] byte ys h = rw (no_digit byte h) refl
stray (x ∷ xs) byte ys h = rw (stray xs byte ys h) (and_false (is_ascii_digit x))

no_number : (text : List ℕ) → all_ascii_digits (digits_of_number text) ≡ false → is_number text ≡ false
no_number text h = rw h (and_false (ltb 0 (length (digits_of_number text))))

-- digits, or a point, are no sign
digits_begin : (whole tail : List ℕ) → All IsAsciiDigit whole →
    BeginsWithout (whole ++ (46 ∷ tail)) 43 × BeginsWithout (whole ++ (46 ∷ tail)) 45
digits_begin [] tail h = (λ _. omega arith, λ _. omega arith)
digits_begin (x ∷ xs) tail h = let digit = All-head IsAsciiDigit x xs h in
    (λ _ e. omega (arith, digit, e), λ _ e. omega (arith, digit, e))

-- a byte that is neither a digit nor a point after digits, and one that is no digit after a point and digits
module _ (negative : Bool) (sign whole : List ℕ) (signed : IsSign negative sign) (digits : All IsAsciiDigit whole)
    (byte : ℕ) (other : ¬ IsAsciiDigit byte) (others : List ℕ) where
  stray_after_whole : byte ≢ 46 →
      (sign ≡ [] → BeginsWithout (whole ++ (byte ∷ others)) 43 × BeginsWithout (whole ++ (byte ∷ others)) 45) →
      is_number (sign ++ (whole ++ (byte ∷ others))) ≡ false
  stray_after_whole no_point_here bare =
      let body = whole ++ (byte ∷ others) in
      let point : is_point byte ≡ false = grind (arith, nat_tests) in
      let first : before_first is_point (byte ∷ others) ≡ byte ∷ before_first is_point others =
      before_cons byte others point in
      let front : before_first is_point body ≡ whole ++ (byte ∷ before_first is_point others) =
      before_more whole (byte ∷ others) digits ∙ ap (λ (ys : List ℕ). whole ++ ys) first in
      let all : digits_of_number
      (sign ++ body) ≡ whole ++ (byte ∷ (before_first is_point others ++ after_first is_point body)) =
      ap (λ (ys : List ℕ). before_first is_point ys ++ after_first is_point ys)
      (unsigned_is negative sign body signed bare)
      ∙ ap (λ (ys : List ℕ). ys ++ after_first is_point body) front
      ∙ append_assoc whole (byte ∷ before_first is_point others) (after_first is_point body) in
      no_number (sign ++ body) (ap all_ascii_digits all
      ∙ stray whole byte (before_first is_point others ++ after_first is_point body) other)

  stray_after_point : (fraction : List ℕ) → is_number (sign ++ (whole ++ (46 ∷ (fraction ++ (byte ∷ others))))) ≡ false
  stray_after_point fraction =
      let tail = fraction ++ (byte ∷ others) in
      let body = whole ++ (46 ∷ tail) in
      let back : after_first is_point body ≡ tail = after_more whole (46 ∷ tail) digits in
      let all : digits_of_number (sign ++ body) ≡ (before_first is_point body ++ fraction) ++ (byte ∷ others) =
      ap (λ (ys : List ℕ). before_first is_point ys ++ after_first is_point ys)
      (unsigned_is negative sign body signed (λ e. digits_begin whole tail digits))
      ∙ ap (λ (ys : List ℕ). before_first is_point body ++ ys) back
      ∙ sym (append_assoc (before_first is_point body) fraction (byte ∷ others)) in
      no_number (sign ++ body) (ap all_ascii_digits all
      ∙ stray (before_first is_point body ++ fraction) byte others other)

-- a sign, or a sign and a point
bare_sign : (negative : Bool) (sign : List ℕ) → IsSign negative sign →
    (is_number sign ≡ false) × (is_number (sign ++ (46 ∷ [])) ≡ false)
bare_sign true sign e = rw e (refl, refl)
bare_sign false sign (inl e) = rw e (refl, refl)
bare_sign false sign (inr e) = rw e (refl, refl)

-- ---- a plus

pub plus_first : (text : List ℕ) (byte : ℕ) → Some byte ≡ slice_get text 0 → byte ≡ 43 →
    SplitsSign text false (take (length text - 1) (drop 1 text))
plus_first [] byte e is = (cc)
plus_first (x ∷ xs) byte e is =
    let first : x ≡ 43 = let same : Some byte ≡ Some x = e in cc in
    let all : length (x ∷ xs) - 1 ≡ length xs = omega arith in
    record {
      sign = codes "+";
      signed = inr refl;
      joined = rw (all, take-length xs, first) refl;
      bare = λ none. (cc);
    }

-- ---- texts that begin a number

tested : (passes : Bool) (v z : ℤ) → cond passes (Some v) None ≡ Some z → passes ≡ true
tested true v z e = refl
tested false v z e = (cc)

is_number_when : (text : List ℕ) (z : ℤ) → number_value 0 text ≡ Some z → is_number text ≡ true
unfolding number_value
is_number_when text z e = tested (is_number text) _ z e

pub no_value : (k : ℕ) (text : List ℕ) → is_number text ≡ false → number_value k text ≡ None
unfolding number_value
no_value k text e = rw e refl

spelled_is_number : NumbersAreSpelled → (text : List ℕ) (negative : Bool) (whole fraction : List ℕ) →
    Spells text negative whole fraction → is_number text ≡ true
spelled_is_number law text negative whole fraction spells =
    is_number_when text (spelled_value 0 negative whole fraction)
    ((law 0 text (spelled_value 0 negative whole fraction)).1 (negative, whole, fraction, spells, refl))

zero_is_digit : All IsAsciiDigit (48 ∷ [])
zero_is_digit = λ k d within.
    All-cons IsAsciiDigit 48 [] (omega arith, omega arith) (λ i e less. absurd (omega arith)) k d within

module _ (law : NumbersAreSpelled) (negative : Bool) (sign : List ℕ) (signed : IsSign negative sign) (whole : List ℕ)
    (digits : All IsAsciiDigit whole) where
  begins_whole : BeginsNumber (sign ++ whole)
  begins_whole =
      let more = whole ++ (48 ∷ []) in
      let spells : Spells ((sign ++ whole) ++ (48 ∷ [])) negative more [] = record {
        sign = sign;
        signed = signed;
        digits = rw (append-nil more) (All-append IsAsciiDigit whole (48 ∷ []) digits zero_is_digit);
        some = simp length-append (omega arith);
        spelled = inr (append_assoc sign whole (48 ∷ []), refl);
      } in
      (48 ∷ [], spelled_is_number law ((sign ++ whole) ++ (48 ∷ [])) negative more [] spells)

  begins_point : (fraction : List ℕ) → All IsAsciiDigit fraction → BeginsNumber (sign ++ (whole ++ (46 ∷ fraction)))
  begins_point fraction after =
      let more = fraction ++ (48 ∷ []) in
      let text = (sign ++ (whole ++ (46 ∷ fraction))) ++ (48 ∷ []) in
      let spells : Spells text negative whole more = record {
        sign = sign;
        signed = signed;
        digits = All-append IsAsciiDigit whole more digits
            (All-append IsAsciiDigit fraction (48 ∷ []) after zero_is_digit);
        some = simp length-append (omega arith);
        spelled = inl (append_assoc sign (whole ++ (46 ∷ fraction)) (48 ∷ [])
            ∙ ap (λ (ys : List ℕ). sign ++ ys) (append_assoc whole (46 ∷ fraction) (48 ∷ [])));
      } in
      (48 ∷ [], spelled_is_number law text negative whole more spells)

-- ---- the place

-- nothing that goes on with the rest's first byte is a number
abbrev IsStray : List ℕ → List ℕ → Type 0
IsStray front rest = (byte : ℕ) (more others : List ℕ) → rest ≡ byte ∷ more →
    is_number (front ++ (byte ∷ others)) ≡ false

not_begun : (front rest : List ℕ) (n : ℕ) → IsStray front rest → 0 < n → n ≤ length rest →
    ¬ BeginsNumber (front ++ take n rest)
not_begun front [] n stray some within = absurd (omega arith)
not_begun front (x ∷ xs) zero stray some within = absurd (omega arith)
not_begun front (x ∷ xs) (suc n) stray some within = λ (more, number).
    let none = stray x xs (take n xs ++ more) refl in
    let same : (front ++ (x ∷ take n xs)) ++ more ≡ front ++ (x ∷ (take n xs ++ more)) =
    append_assoc front (x ∷ take n xs) more in
    absurd (let yes : is_number (front ++ (x ∷ (take n xs ++ more))) ≡ true = rw same at number in
    let both : true ≡ false = sym yes ∙ none in cc)

stops_after : (front rest : List ℕ) → BeginsNumber front → IsStray front rest → StopsAt (front ++ rest) (length front)
stops_after front rest begins stray = record {
  within = simp length-append (omega arith);
  begins = rw (take-append_seam front rest) begins;
  longest = λ n past within.
      let more = n - length front in
      let whole : n ≡ length front + more = omega arith in
      let size = length-append front rest in
      let cut : take n (front ++ rest) ≡ front ++ take more rest = ap (λ m. take m (front ++ rest)) whole
      ∙ take-append-add front rest more in
      rw cut (not_begun front rest more stray (omega arith) (omega arith));
}

both_empty : (xs ys : List ℕ) → (0 < length (xs ++ ys) → ⊥) → (xs ≡ []) × (ys ≡ [])
both_empty [] [] h = (refl, refl)
both_empty [] (y ∷ ys) h = absurd (h (omega arith))
both_empty (x ∷ xs) ys h = absurd (h (omega arith))

first_byte : (text : List ℕ) (byte : ℕ) (more : List ℕ) (b : ℕ) → text ≡ byte ∷ more → BeginsWithout text b → byte ≢ b
first_byte text byte more b e h = let P : List ℕ → Type 0 = λ ys. BeginsWithout ys b in subst P e h (omega arith)

begin_again : (whole : List ℕ) (byte : ℕ) (more others : List ℕ) (b : ℕ) → BeginsWithout (whole ++ (byte ∷ more)) b →
    BeginsWithout (whole ++ (byte ∷ others)) b
begin_again [] byte more others b h = λ some. h (omega arith)
begin_again (x ∷ xs) byte more others b h = λ some. h (omega arith)

same_begin : (text whole : List ℕ) (byte : ℕ) (more others : List ℕ) (b : ℕ) → text ≡ whole ++ (byte ∷ more) →
    BeginsWithout text b → BeginsWithout (whole ++ (byte ∷ others)) b
same_begin text whole byte more others b e h = let P : List ℕ → Type 0 = λ ys. BeginsWithout ys b in
    begin_again whole byte more others b (subst P e h)

-- what the parts of a text say of its place
record HasFront (text rest : List ℕ) : Type 0 where
  front : List ℕ
  joined : text ≡ front ++ rest
  begins : BeginsNumber front
  stray : IsStray front rest

module _ (law : NumbersAreSpelled) (text : List ℕ) (negative : Bool) (whole fraction rest : List ℕ)
    (s : SplitsNumber text negative whole fraction rest) where
  other : (byte : ℕ) (more : List ℕ) → rest ≡ byte ∷ more → ¬ IsAsciiDigit byte
  other byte more e = let P : List ℕ → Type 0 = BeginsWithoutDigit in subst P e s.point.stops (omega arith)

  front_of : HasFront text rest
  front_of =
      let sign = s.sign.sign in
      let unsigned = s.unsigned in
      elim s.point.joined [
        | inl e ↦
            let body : unsigned ≡ whole ++ (46 ∷ (fraction ++ rest)) = s.digits.joined
            ∙ ap (λ (ys : List ℕ). whole ++ ys) e in
            record {
              front = sign ++ (whole ++ (46 ∷ fraction));
              joined = s.sign.joined
                  ∙ ap (λ (ys : List ℕ). sign ++ ys) (body ∙ sym (append_assoc whole (46 ∷ fraction) rest))
                  ∙ sym (append_assoc sign (whole ++ (46 ∷ fraction)) rest);
              begins = begins_point law negative sign s.sign.signed whole s.digits.digits_are fraction
                  s.point.digits_are;
              stray = λ byte more others e.
                  let none = stray_after_point negative sign whole s.sign.signed s.digits.digits_are byte
                  (other byte more e) others fraction in
                  ap is_number (append_assoc sign (whole ++ (46 ∷ fraction)) (byte ∷ others)
                  ∙ ap (λ (ys : List ℕ). sign ++ ys) (append_assoc whole (46 ∷ fraction) (byte ∷ others))) ∙ none;
            }
        | inr (e, none, bare) ↦
            let body : unsigned ≡ whole ++ rest = s.digits.joined ∙ ap (λ (ys : List ℕ). whole ++ ys) e in
            record {
              front = sign ++ whole;
              joined = s.sign.joined ∙ ap (λ (ys : List ℕ). sign ++ ys) body ∙ sym (append_assoc sign whole rest);
              begins = begins_whole law negative sign s.sign.signed whole s.digits.digits_are;
              stray = λ byte more others first.
                  let with_byte : unsigned ≡ whole ++ (byte ∷ more) = body ∙ ap (λ (ys : List ℕ). whole ++ ys) first in
                  let no_point_here = first_byte rest byte more 46 first bare in
                  let no_sign : sign ≡ [] →
                  BeginsWithout (whole ++ (byte ∷ others)) 43 × BeginsWithout (whole ++ (byte ∷ others)) 45 =
                  λ e. let b = s.sign.bare e in (
                    same_begin unsigned whole byte more others 43 with_byte b.0,
                    same_begin unsigned whole byte more
                        others 45 with_byte b.1,
                  ) in
                  let none = stray_after_whole negative sign whole s.sign.signed s.digits.digits_are byte
                  (other byte more first) others no_point_here no_sign in
                  ap is_number (append_assoc sign whole (byte ∷ others)) ∙ none;
            }
      ]

  stops_at : StopsAt text (length text - length rest)
  stops_at =
      let f = front_of in
      let both : length text ≡ length f.front + length rest = ap length f.joined ∙ length-append f.front rest in
      let place : length text - length rest ≡ length f.front = omega arith in
      let P : ℕ → Type 0 = StopsAt text in
      let Q : List ℕ → Type 0 = λ ys. StopsAt ys (length f.front) in
      subst P (sym place) (subst Q (sym f.joined) (stops_after f.front rest f.begins f.stray))

  pub spells_of : rest ≡ [] → 0 < length (whole ++ fraction) → Spells text negative whole fraction
  spells_of none some =
      let sign = s.sign.sign in
      record {
        sign = sign;
        signed = s.sign.signed;
        digits = All-append IsAsciiDigit whole fraction s.digits.digits_are s.point.digits_are;
        some = some;
        spelled = elim s.point.joined [
          | inl e ↦
              let last : fraction ++ rest ≡ fraction = ap (λ (ys : List ℕ). fraction ++ ys) none
              ∙ append-nil fraction in
              inl (s.sign.joined ∙ ap (λ (ys : List ℕ). sign ++ ys) (s.digits.joined
              ∙ ap (λ (ys : List ℕ). whole ++ ys) (e ∙ ap (λ (ys : List ℕ). 46 ∷ ys) last)))
          | inr (e, no_fraction, bare) ↦
              let last : whole ++ s.after_whole ≡ whole = ap (λ (ys : List ℕ). whole ++ ys) (e ∙ none)
              ∙ append-nil whole in
              inr (s.sign.joined ∙ ap (λ (ys : List ℕ). sign ++ ys) (s.digits.joined ∙ last), no_fraction)
        ];
      }

  not_number : (r : List ℕ) → rest ≡ r → (rest ≡ [] → 0 < length (whole ++ fraction) → ⊥) → is_number text ≡ false
  not_number [] e missing =
      let sign = s.sign.sign in
      let empty = both_empty whole fraction (missing e) in
      let after : s.unsigned ≡ s.after_whole = s.digits.joined ∙ ap (λ (ys : List ℕ). ys ++ s.after_whole) empty.0 in
      let bare = bare_sign negative sign s.sign.signed in
      elim s.point.joined [
        | inl point ↦
            let last : s.unsigned ≡ 46 ∷ [] = after ∙ point ∙ ap (λ (ys : List ℕ). 46 ∷ (ys ++ rest)) empty.1
            ∙ ap (λ (ys : List ℕ). 46 ∷ ys) e in
            ap is_number (s.sign.joined ∙ ap (λ (ys : List ℕ). sign ++ ys) last) ∙ bare.1
        | inr (none, no_fraction, first) ↦
            let last : s.unsigned ≡ [] = after ∙ none ∙ e in
            ap is_number (s.sign.joined ∙ ap (λ (ys : List ℕ). sign ++ ys) last ∙ append-nil sign) ∙ bare.0
      ]
  not_number (x ∷ more) e missing =
      let f = front_of in
      ap is_number (f.joined ∙ ap (λ (ys : List ℕ). f.front ++ ys) e) ∙ f.stray x more more e

  pub refused : (k : ℕ) → (rest ≡ [] → 0 < length (whole ++ fraction) → ⊥) →
      (number_value k text ≡ None) × StopsAt text (length text - length rest)
  refused k missing = (no_value k text (not_number rest refl missing), stops_at)
