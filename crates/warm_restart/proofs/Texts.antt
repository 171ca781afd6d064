-- What a checkpoint text says, and what is computed of it.
use Rattle.std.proofs.Common.{◌≡◌, ℕ, ◌<◌, ◌≤◌, true, false, ◌&&◌, List, [], ◌∷◌, ◌++◌, length, refl, sym, ap, subst, ◌∙◌, arith, Option, Some, None, Bool, append_assoc}
use Rattle.std.specs.Prelude.{All, if◌then◌else◌, codes, nat_le, nat_lt}
use Rattle.std.specs.Fmt.{decimal}
use Rattle.std.specs.Char.{IsAsciiDigit, is_ascii_digit}
use Rattle.std.specs.List.{before_first, after_first}
use Rattle.std.specs.Str.{all_ascii_digits, bytes_eq}
use Rattle.std.specs.Str.Parse.{digits_value, AllDigits}
use Rattle.std.proofs.lemmas.Bool.{le-leb}
use Rattle.std.proofs.lemmas.Bool.Decides.{nat_tests}
use Rattle.std.proofs.lemmas.Fmt.{decimal_is_IsNumeral, length-decimal-le}
use Rattle.std.proofs.lemmas.List.{length-append}
use Rattle.std.proofs.lemmas.List.Elements.{All-head, All-tail, All-cons, All-nil, All-weaker}
use Rattle.std.proofs.lemmas.Slice.Eq.{bytes_eq-Decides}
use Rattle.std.proofs.lemmas.Str.Parse.{digit_from_value}
use Rattle.warm_restart.specs.declared.checkpoint.Checkpoint.{Checkpoint}
use Rattle.warm_restart.specs.Counts.{greatest_count, most_digits, IsCount, is_count, IsUntil, until_of}
use Rattle.warm_restart.specs.Checkpoint.{check_text, Lacks, IsCheckpointText, is_space, is_line_feed, place_word, pulses_word, checkpoint_of}
use Rattle.warm_restart.specs.Laws.{TextsSayOne, LinesAreReadBack}
use Rattle.warm_restart.proofs.Splits.{before_at, after_at}

-- ---- digits

digit_passes : (byte : ℕ) → IsAsciiDigit byte → is_ascii_digit byte ≡ true
digit_passes byte h = grind (arith, nat_tests)

passes_digit : (byte : ℕ) → is_ascii_digit byte ≡ true → IsAsciiDigit byte
passes_digit byte h = grind (arith, nat_tests)

no_space : (byte : ℕ) → IsAsciiDigit byte → is_space byte ≡ false
no_space byte h = grind (arith, nat_tests)

no_line_feed : (byte : ℕ) → IsAsciiDigit byte → is_line_feed byte ≡ false
no_line_feed byte h = grind (arith, nat_tests)

all_pass : (text : List ℕ) → All IsAsciiDigit text → all_ascii_digits text ≡ true
all_pass [] h = refl
all_pass (x ∷ xs) h =
    rw (digit_passes x (All-head IsAsciiDigit x xs h)) (all_pass xs (All-tail IsAsciiDigit x xs h))

both : (a b : Bool) → a && b ≡ true → (a ≡ true) × (b ≡ true)
both true b e = (refl, e)
both false b e = absurd cc

pass_all : (text : List ℕ) → all_ascii_digits text ≡ true → All IsAsciiDigit text
pass_all [] e = All-nil IsAsciiDigit
pass_all (x ∷ xs) e =
    let parts = both (is_ascii_digit x) (all_ascii_digits xs) e in
    All-cons IsAsciiDigit x xs (passes_digit x parts.0) (pass_all xs parts.1)

-- ---- counts

le-true : (a b : ℕ) → nat_le a b ≡ true → a ≤ b
le-true a b e = grind (arith, nat_tests)

lt-true : (a b : ℕ) → nat_lt a b ≡ true → a < b
lt-true a b e = grind (arith, nat_tests)

pub lacks_space : (text : List ℕ) (n : ℕ) → IsCount text n → Lacks 32 text
lacks_space text n is k h e = let digit = is.digits.2 k 0 h in omega arith

spaceless : (text : List ℕ) (n : ℕ) → IsCount text n → All (λ x. is_space x ≡ false) text
spaceless text n is = All-weaker IsAsciiDigit (λ byte. is_space byte ≡ false) no_space text is.digits.2

feedless : (text : List ℕ) (n : ℕ) → IsCount text n → All (λ x. is_line_feed x ≡ false) text
feedless text n is = All-weaker IsAsciiDigit (λ byte. is_line_feed byte ≡ false) no_line_feed text is.digits.2

count_passes : (text : List ℕ) (n : ℕ) → IsCount text n → is_count text ≡ true
count_passes text n is =
    let digits = all_pass text is.digits.2 in let some = is.digits.0 in let few = is.digits.1 in
    let bound : digits_value 10 text ≤ greatest_count = subst (λ (m : ℕ). m ≤ greatest_count) is.value is.bound in
    rw digits (grind (arith, nat_tests))

passes_count : (text : List ℕ) → is_count text ≡ true → IsCount text (digits_value 10 text)
passes_count text e =
    let some = nat_lt 0 (length text) in
    let few = nat_le (length text) most_digits in
    let bound = nat_le (digits_value 10 text) greatest_count in
    let last = both (some && few && all_ascii_digits text) bound e in
    let digits = both (some && few) (all_ascii_digits text) last.0 in
    let lengths = both some few digits.0 in
    record {
      digits = (
        lt-true 0 (length text) lengths.0,
        le-true (length text) most_digits lengths.1,
        pass_all text digits.1,
      );
      value = refl;
      bound = le-true (digits_value 10 text) greatest_count last.1;
    }

-- ---- the words of a text

place_is : (place pulses : List ℕ) (p : ℕ) → IsCount place p → place_word (check_text place pulses) ≡ place
place_is place pulses p is =
    ap (λ (t : List ℕ). before_first is_space (t ++ codes "\n")) (append_assoc place (codes " ") pulses)
    ∙ (ap (before_first is_space) (append_assoc place (32 ∷ pulses) (codes "\n"))
    ∙ before_at is_space 32 place (pulses ++ codes "\n") (spaceless place p is) refl)

pulses_are : (place pulses : List ℕ) (p c : ℕ) → IsCount place p → IsCount pulses c →
    pulses_word (check_text place pulses) ≡ pulses
pulses_are place pulses p c is are =
    ap (λ (t : List ℕ). before_first is_line_feed (after_first is_space (t ++ codes "\n")))
    (append_assoc place (codes " ") pulses)
    ∙ (ap (λ (t : List ℕ). before_first is_line_feed (after_first is_space t))
    (append_assoc place (32 ∷ pulses) (codes "\n"))
    ∙ (ap (before_first is_line_feed)
    (after_at is_space 32 place (pulses ++ codes "\n") (spaceless place p is) refl)
    ∙ before_at is_line_feed 10 pulses [] (feedless pulses c are) refl))

-- ---- what is computed

-- the same over any two words
abbrev by_words : List ℕ → List ℕ → List ℕ → Option Checkpoint
by_words text place pulses =
    if bytes_eq text (check_text place pulses) && is_count place && is_count pulses
    then Some (record { place = digits_value 10 place; pulses = digits_value 10 pulses })
    else None

by_words_is : (text : List ℕ) → checkpoint_of text ≡ by_words text (place_word text) (pulses_word text)
unfolding checkpoint_of
by_words_is text = refl

-- where all three tests pass
chosen : (a b c : Bool) (x : Checkpoint) → a ≡ true → b ≡ true → c ≡ true →
    (if a && b && c then Some x else None) ≡ Some x
chosen a b c x ea eb ec = rw (ea, eb, ec) refl

passed : (a : Bool) (x y : Checkpoint) → (if a then Some x else None) ≡ Some y → (a ≡ true) × (x ≡ y)
passed true x y e = (refl, cc)
passed false x y e = absurd cc

said : (text : List ℕ) (checkpoint : Checkpoint) → IsCheckpointText text checkpoint →
    checkpoint_of text ≡ Some checkpoint
said text checkpoint is =
    let place_equal : place_word text ≡ is.place =
    ap place_word is.line ∙ place_is is.place is.pulses checkpoint.place is.place_is in
    let pulses_equal : pulses_word text ≡ is.pulses =
    ap pulses_word is.line
    ∙ pulses_are is.place is.pulses checkpoint.place checkpoint.pulses is.place_is is.pulses_are in
    by_words_is text
    ∙ (ap (λ (w : List ℕ). by_words text w (pulses_word text)) place_equal
    ∙ (ap (by_words text is.place) pulses_equal
    ∙ (chosen _ _ _ _ ((bytes_eq-Decides text (check_text is.place is.pulses)).1 is.line)
    (count_passes is.place checkpoint.place is.place_is)
    (count_passes is.pulses checkpoint.pulses is.pulses_are)
    ∙ ap Some (same checkpoint (digits_value 10 is.place) (digits_value 10 is.pulses) is.place_is.value
    is.pulses_are.value))))
  where
    same : (c : Checkpoint) (p q : ℕ) → c.place ≡ p → c.pulses ≡ q → record { place = p; pulses = q } ≡ c
    same c p q e f =
        ap (λ (n : ℕ). record { place = n; pulses = q }) (sym e)
        ∙ ap (λ (n : ℕ). record { place = c.place; pulses = n }) (sym f)

heard : (text : List ℕ) (checkpoint : Checkpoint) → checkpoint_of text ≡ Some checkpoint →
    IsCheckpointText text checkpoint
heard text checkpoint e =
    let place = place_word text in
    let pulses = pulses_word text in
    let same = bytes_eq text (check_text place pulses) in
    let found = passed (same && is_count place && is_count pulses)
    (record { place = digits_value 10 place; pulses = digits_value 10 pulses }) checkpoint
    (sym (by_words_is text) ∙ e) in
    let last = both (same && is_count place) (is_count pulses) found.0 in
    let first = both same (is_count place) last.0 in
    let P : Checkpoint → Type 0 = λ c. IsCheckpointText text c in
    subst P found.1 (record {
      place = place;
      pulses = pulses;
      line = (bytes_eq-Decides text (check_text place pulses)).0 first.0;
      place_is = passes_count place first.1;
      pulses_are = passes_count pulses last.1;
    })

few_bytes : (text : List ℕ) (checkpoint : Checkpoint) → IsCheckpointText text checkpoint → length text ≤ 38
few_bytes text checkpoint is =
    let first = is.place_is.digits.1 in let second = is.pulses_are.digits.1 in
    let whole = ap (length {A = ℕ}) is.line in
    let sizes = simp length-append at whole in
    omega arith

-- ---- the word UNTIL

picked : (a b : Bool) (x : ℕ) → a ≡ true → b ≡ true → (if a && b then Some x else None) ≡ Some x
picked a b x ea eb = rw (ea, eb) refl

kept : (a : Bool) (x y : ℕ) → (if a then Some x else None) ≡ Some y → (a ≡ true) × (x ≡ y)
kept true x y e = (refl, cc)
kept false x y e = absurd cc

until_said : (word : List ℕ) (n : ℕ) → IsUntil word n → until_of word ≡ Some n
unfolding until_of
until_said word n is =
    picked (is_count word) (nat_le 1 (digits_value 10 word)) (digits_value 10 word)
    (count_passes word n is.count) (le-leb 1 (digits_value 10 word) (at_least_one is.count.value))
    ∙ ap Some (sym is.count.value)
  where
    at_least_one : {m : ℕ} → n ≡ m → 1 ≤ m
    at_least_one e = let some = is.some in omega arith

until_heard : (word : List ℕ) (n : ℕ) → until_of word ≡ Some n → IsUntil word n
unfolding until_of
until_heard word n e =
    let some = nat_le 1 (digits_value 10 word) in
    let found = kept (is_count word && some) (digits_value 10 word) n e in
    let parts = both (is_count word) some found.0 in
    let P : ℕ → Type 0 = λ m. IsUntil word m in
    subst P found.1 (record {
      count = passes_count word parts.0;
      some = le-true 1 (digits_value 10 word) parts.1;
    })

pub say_one : TextsSayOne
say_one = record {
  computed = λ text checkpoint. (said text checkpoint, heard text checkpoint);
  short = few_bytes;
  until = λ word n. (until_said word n, until_heard word n);
}

-- ---- what is written is read back

all_by_value : (ds : List ℕ) → AllDigits 10 ds → All IsAsciiDigit ds
all_by_value [] h = All-nil IsAsciiDigit
all_by_value (d ∷ ds) h = All-cons IsAsciiDigit d ds (digit_from_value d h.0) (all_by_value ds h.1)

decimal_count : (n : ℕ) → n ≤ greatest_count → IsCount (decimal n) n
decimal_count n bound =
    let numeral = decimal_is_IsNumeral n (omega arith) in record {
      digits = (
        numeral.0.0,
        length-decimal-le 15 n (omega arith) (omega arith) (omega arith),
        all_by_value (decimal n) numeral.0.1,
      );
      value = sym numeral.1;
      bound = bound;
    }

pub read_back : LinesAreReadBack
read_back = record {
  line = λ checkpoint can. record {
    place = decimal checkpoint.place;
    pulses = decimal checkpoint.pulses;
    line = refl;
    place_is = decimal_count checkpoint.place can.place;
    pulses_are = decimal_count checkpoint.pulses can.pulses;
  };
}
