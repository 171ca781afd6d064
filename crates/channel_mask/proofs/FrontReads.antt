-- A text that is read byte by byte stops where it stops being the front of a mask text.
use Rattle.std.proofs.Common.{◌≡◌, ℕ, ◌<◌, ◌≤◌, Bool, true, false, ◌&&◌, not, List, [], ◌∷◌, ◌++◌, length, get_or, take, drop, drop-cons, zero, suc, slice_index, refl, sym, ap, subst, ◌∙◌, codes, Option, Some, None, lit≤, arith}
use Rattle.std.specs.Prelude.{nat_le, nat_lt, ◌==◌, option_and_then}
use Rattle.std.specs.Char.{is_ascii_digit}
use Rattle.std.specs.Option.{option_map_or}
use Rattle.std.specs.Str.{bytes_eq}
use Rattle.std.proofs.lemmas.Bool.{le-leb, lt-ltb, ltb-true, cond_both, false≢true}
use Rattle.std.proofs.lemmas.Slice.Eq.{bytes_eq-Decides}
use Rattle.channel_mask.specs.declared.front.Front.{Front}
use Rattle.channel_mask.specs.declared.front.Front.TheVariants.{Start, Letters, Digits}
use Rattle.channel_mask.specs.Texts.{is_comma, is_hyphen, is_mask_text}
use Rattle.channel_mask.specs.Fronts.{StopsAt, with_byte, with_bytes, after_digits, bytes_taken, is_whole, stop_of}
use Rattle.channel_mask.proofs.Goes.{goes_on, goes_on_step, after_step, IsFront, whole_number, nothing_left}

-- ---- where nothing follows

ends_letters : (count : ℕ) → bytes_eq [] (drop count (codes "none")) ≡ nat_le 4 count
ends_letters zero = refl
ends_letters (suc zero) = refl
ends_letters (suc (suc zero)) = refl
ends_letters (suc (suc (suc zero))) = refl
ends_letters (suc (suc (suc (suc k)))) =
    ap (λ letters. bytes_eq [] letters) (nothing_left k) ∙ sym (le-leb 4 (suc (suc (suc (suc k)))) (omega arith))

ends_digits : (count : ℕ) (is_second : Bool) → count ≤ 9 → goes_on (Digits count is_second) [] ≡ nat_lt 0 count
ends_digits zero true few = refl
ends_digits zero false few = refl
ends_digits (suc k) true few =
    ap (λ b. (true && (b && true)) && true) (whole_number (suc k) (omega arith) few)
    ∙ sym (lt-ltb 0 (suc k) (omega arith))
ends_digits (suc k) false few =
    ap (λ b. (true && (b && true)) && true) (whole_number (suc k) (omega arith) few)
    ∙ sym (lt-ltb 0 (suc k) (omega arith))

ends : (front : Front) → IsFront front → goes_on front [] ≡ is_whole front
ends Start is = refl
ends (Letters count) is = ends_letters count
ends (Digits count is_second) is = ends_digits count is_second is

-- ---- some bytes make each front a mask text

finished : (front : Front) → IsFront front → (rest : List ℕ) × (goes_on front rest ≡ true)
finished Start is = (codes "0", refl)
finished (Letters count) is =
    let letters = drop count (codes "none") in
    (letters, (bytes_eq-Decides letters letters).1 refl)
finished (Digits zero true) is = (codes "0", refl)
finished (Digits zero false) is = (codes "0", refl)
finished (Digits (suc k) is_second) is =
    ([], ends_digits (suc k) is_second is ∙ lt-ltb 0 (suc k) (omega arith))

-- ---- a front with a byte more is one

abbrev IsFrontIfSome : Option Front → Type 0
IsFrontIfSome None = Unit {0}
IsFrontIfSome (Some front) = IsFront front

after_digits_fits : (count : ℕ) (is_second : Bool) (byte : ℕ) → count ≤ 9 →
    IsFrontIfSome (after_digits count is_second byte)
after_digits_fits count is_second byte few =
    cond_both (is_ascii_digit byte) _ _ IsFrontIfSome
    (λ digit. cond_both (nat_lt count 9) _ _ IsFrontIfSome
    (λ room. let below = ltb-true count 9 room in omega arith) (λ full. tt))
    (λ other. cond_both (count == 0) _ _ IsFrontIfSome (λ none. tt)
    (λ some. cond_both (is_comma byte) _ _ IsFrontIfSome (λ is. lit≤ tt)
    (λ no_comma. cond_both (is_hyphen byte && not is_second) _ _ IsFrontIfSome (λ is. lit≤ tt) (λ neither. tt))))

with_byte_fits : (front : Front) (byte : ℕ) → IsFront front → IsFrontIfSome (with_byte front byte)
with_byte_fits Start byte is =
    cond_both (byte == 110) _ _ IsFrontIfSome (λ n. tt) (λ other. after_digits_fits 0 false byte (lit≤ tt))
with_byte_fits (Letters count) byte is =
    cond_both (nat_lt count 4 && byte == slice_index (codes "none") count) _ _ IsFrontIfSome
    (λ letter. tt) (λ other. tt)
with_byte_fits (Digits count is_second) byte is = after_digits_fits count is_second byte is

still_front : (front : Front) (byte : ℕ) → IsFront front →
    (next : Front) → with_byte front byte ≡ Some next → IsFront next
still_front front byte is next e = subst IsFrontIfSome e (with_byte_fits front byte is)

-- ---- all of a text

abbrev IsFrontOf : Front → List ℕ → Type 0
IsFrontOf front text = (rest : List ℕ) × (goes_on front (text ++ rest) ≡ true)

record StopsFrom (front : Front) (text : List ℕ) (place : ℕ) : Type 0 where
  within : place ≤ length text
  begins : IsFrontOf front (take place text)
  longest : (n : ℕ) → place < n → n ≤ length text → ¬ IsFrontOf front (take n text)

module _ (front : Front) (byte : ℕ) (text : List ℕ) (is : IsFront front) where
  -- what a text that goes on says of what is left
  left : (step : Option Front) → with_byte front byte ≡ step → (m : ℕ) → IsFrontOf front (byte ∷ take m text) →
      (rest : List ℕ) × (after_step step (take m text ++ rest) ≡ true)
  left step e m (rest, goes) = (
    rest,
    sym (goes_on_step front byte (take m text ++ rest) is
        ∙ ap (λ s. after_step s (take m text ++ rest)) e) ∙ goes,
  )

  longest_none : with_byte front byte ≡ None → (n : ℕ) → 0 < n → ¬ IsFrontOf front (take n (byte ∷ text))
  longest_none e zero some begins = absurd (omega arith)
  longest_none e (suc m) some begins = false≢true (left None e m begins).1

  longest_some : (next : Front) → with_byte front byte ≡ Some next → (place : ℕ) →
      ((m : ℕ) → place < m → m ≤ length text → ¬ IsFrontOf next (take m text)) →
      (n : ℕ) → suc place < n → n ≤ length (byte ∷ text) → ¬ IsFrontOf front (take n (byte ∷ text))
  longest_some next e place longest zero more few begins = absurd (omega arith)
  longest_some next e place longest (suc m) more few begins =
      longest m (omega arith) (omega arith) (left (Some next) e m begins)

  by_step : (step : Option Front) → with_byte front byte ≡ step →
      ((next : Front) → step ≡ Some next → StopsFrom next text (bytes_taken next text)) →
      StopsFrom front (byte ∷ text) (option_map_or (λ next. suc (bytes_taken next text)) step 0)
  by_step None e more = record {
    within = omega arith;
    begins = finished front is;
    longest = λ n some few. longest_none e n some;
  }
  by_step (Some next) e more =
      let from = more next refl in
      record {
        within = let within = from.within in omega arith;
        begins = (
          from.begins.0,
          goes_on_step front byte (take (bytes_taken next text) text ++ from.begins.0) is
              ∙ ap (λ s. after_step s (take (bytes_taken next text) text ++ from.begins.0)) e ∙ from.begins.1,
        );
        longest = longest_some next e (bytes_taken next text) from.longest;
      }

  whole_step : (step : Option Front) →
      ((next : Front) → step ≡ Some next →
      goes_on next text ≡ option_map_or is_whole (with_bytes next text) false) →
      after_step step text ≡ option_map_or is_whole (option_and_then (λ next. with_bytes next text) step) false
  whole_step None more = refl
  whole_step (Some next) more = more next refl

stops_from : (front : Front) (text : List ℕ) → IsFront front → StopsFrom front text (bytes_taken front text)
stops_from front [] is = record {
  within = omega arith;
  begins = finished front is;
  longest = λ n some few. absurd (omega arith);
}
stops_from front (byte ∷ text) is =
    by_step front byte text is (with_byte front byte) refl
    (λ next e. stops_from next text (still_front front byte is next e))

pub stops : (text : List ℕ) → StopsAt text (stop_of text)
stops text =
    let from = stops_from Start text tt in
    record { within = from.within; begins = from.begins; longest = from.longest }

whole_from : (front : Front) (text : List ℕ) → IsFront front →
    goes_on front text ≡ option_map_or is_whole (with_bytes front text) false
whole_from front [] is = ends front is
whole_from front (byte ∷ text) is =
    goes_on_step front byte text is
    ∙ whole_step front byte text is (with_byte front byte)
    (λ next e. whole_from next text (still_front front byte is next e))

pub whole : (text : List ℕ) → is_mask_text text ≡ option_map_or is_whole (with_bytes Start text) false
whole text = whole_from Start text tt

-- ---- a byte at which a text stops

pub no_more_bytes : (front : Front) (text : List ℕ) (place : ℕ) → place < length text →
    with_byte front (get_or text place 0) ≡ None →
    (with_bytes front (drop place text) ≡ None) × (bytes_taken front (drop place text) ≡ 0)
no_more_bytes front text place within none =
    let cut = drop-cons text place 0 within in
    let rest = drop (suc place) text in (
      ap (with_bytes front) cut ∙ ap (option_and_then (λ next. with_bytes next rest)) none,
      ap (bytes_taken front) cut ∙ ap (λ step. option_map_or (λ next. suc (bytes_taken next rest)) step 0) none,
    )
