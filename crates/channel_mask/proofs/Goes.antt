-- Which bytes make a front a mask text, and what one byte of them leaves.
use Rattle.std.proofs.Common.{◌≡◌, ℕ, ◌+◌, ◌<◌, ◌≤◌, ⊎_elim, Bool, true, false, ◌&&◌, not, cond, List, [], ◌∷◌, length, drop, zero, suc, refl, sym, ap, ◌∙◌, codes, slice_index, lit≤, Option, Some, None, zero-add, arith}
use Rattle.std.specs.Prelude.{nat_le, nat_lt, ◌==◌}
use Rattle.std.specs.Char.{is_ascii_digit}
use Rattle.std.specs.List.{list_all, slice_split, onto_first}
use Rattle.std.specs.Option.{option_map_or}
use Rattle.std.specs.Str.{all_ascii_digits, bytes_eq}
use Rattle.std.proofs.lemmas.Bool.{lt-ltb, le-ltb, ne_eqb, le-leb, lt-leb, eqb-true, ltb-false, cases_lt, and_from}
use Rattle.std.proofs.lemmas.List.Splits.{length-slice_split}
use Rattle.channel_mask.specs.declared.front.Front.{Front}
use Rattle.channel_mask.specs.declared.front.Front.TheVariants.{Start, Letters, Digits}
use Rattle.channel_mask.specs.Texts.{is_comma, is_hyphen, parts_of, is_number, is_item, is_mask_text}
use Rattle.channel_mask.specs.Fronts.{after_letters, one_digit_more, after_number, after_digits, with_byte}

-- ---- parts of a text

abbrev pub first_of : List (List ℕ) → List ℕ
first_of [] = []
first_of (part ∷ more) = part

abbrev pub rest_of : List (List ℕ) → List (List ℕ)
rest_of [] = []
rest_of (part ∷ more) = more

parts_there : (parts : List (List ℕ)) → 0 < length parts → parts ≡ first_of parts ∷ rest_of parts
parts_there [] some = absurd (omega arith)
parts_there (part ∷ more) some = refl

-- there is one part or more
pub some_parts : (p : ℕ → Bool) (text : List ℕ) →
    slice_split p text ≡ first_of (slice_split p text) ∷ rest_of (slice_split p text)
some_parts p text =
    let count = length-slice_split p text in
    parts_there (slice_split p text) (omega arith)

pub onto_parts : (b : ℕ) (parts : List (List ℕ)) → onto_first b parts ≡ (b ∷ first_of parts) ∷ rest_of parts
onto_parts b [] = refl
onto_parts b (part ∷ more) = refl

-- ---- what may follow a front

-- digits after so many of a number
abbrev pub number_goes_on : ℕ → List ℕ → Bool
number_goes_on count text =
    nat_lt 0 (count + length text) && (nat_le (count + length text) 9 && all_ascii_digits text)

-- the numbers of an item from the one that has begun on
abbrev pub most_parts : Bool → ℕ
most_parts true = 1
most_parts false = 2

abbrev pub parts_go_on : ℕ → Bool → List (List ℕ) → Bool
parts_go_on count is_second parts = nat_le (length parts) (most_parts is_second)
    && (number_goes_on count (first_of parts) && list_all is_number (rest_of parts))

abbrev pub items_go_on : ℕ → Bool → List (List ℕ) → Bool
items_go_on count is_second items =
    parts_go_on count is_second (parts_of (first_of items)) && list_all is_item (rest_of items)

abbrev pub digits_go_on : ℕ → Bool → List ℕ → Bool
digits_go_on count is_second rest = items_go_on count is_second (slice_split is_comma rest)

-- whether bytes make a front a mask text
abbrev pub goes_on : Front → List ℕ → Bool
goes_on Start rest = is_mask_text rest
goes_on (Letters count) rest = bytes_eq rest (drop count (codes "none"))
goes_on (Digits count is_second) rest = digits_go_on count is_second rest

-- a number has no more than 9 digits
abbrev pub IsFront : Front → Type 0
IsFront Start = Unit {0}
IsFront (Letters count) = Unit {0}
IsFront (Digits count is_second) = count ≤ 9

-- ---- an item that begins

all_numbers : (parts : List (List ℕ)) → 0 < length parts →
    list_all is_number parts ≡ (number_goes_on 0 (first_of parts) && list_all is_number (rest_of parts))
all_numbers [] some = absurd (omega arith)
all_numbers (part ∷ more) some =
    ap (λ n. (nat_lt 0 n && (nat_le n 9 && all_ascii_digits part)) && list_all is_number more)
    (sym (zero-add (length part)))

parts_counted : (item : List ℕ) → 0 < length (parts_of item)
parts_counted item = let count = length-slice_split is_hyphen item in omega arith

item_begins : (item : List ℕ) → is_item item ≡ parts_go_on 0 false (parts_of item)
item_begins item =
    ap (λ b. nat_le (length (parts_of item)) 2 && b) (all_numbers (parts_of item) (parts_counted item))

items_begin : (items : List (List ℕ)) → 0 < length items → list_all is_item items ≡ items_go_on 0 false items
items_begin [] some = absurd (omega arith)
items_begin (item ∷ more) some = ap (λ b. b && list_all is_item more) (item_begins item)

pub text_begins : (text : List ℕ) → list_all is_item (slice_split is_comma text) ≡ digits_go_on 0 false text
text_begins text =
    let count = length-slice_split is_comma text in
    items_begin (slice_split is_comma text) (omega arith)

-- ---- one byte more

-- what goes on after a step
abbrev pub after_step : Option Front → List ℕ → Bool
after_step step rest = option_map_or (λ next. goes_on next rest) step false

none_digits : (a s f n r : Bool) → ((a && ((s && (f && false)) && n)) && r) ≡ false
none_digits false s f n r = refl
none_digits true false f n r = refl
none_digits true true false n r = refl
none_digits true true true n r = refl

none_few : (a s d n r : Bool) → ((a && ((s && (false && d)) && n)) && r) ≡ false
none_few false s d n r = refl
none_few true false d n r = refl
none_few true true d n r = refl

false_first : (a b : Bool) → ((a && false) && b) ≡ false
false_first true b = refl
false_first false b = refl

pub whole_number : (count : ℕ) → 0 < count → count ≤ 9 → number_goes_on count [] ≡ true
whole_number count some few =
    and_from _ _ (lt-ltb 0 (count + 0) (omega arith)) (and_from _ _ (le-leb (count + 0) 9 (omega arith)) refl)

-- a byte that is no digit after a whole number
passed : (count : ℕ) (is_second : Bool) (byte : ℕ) → 0 < count → is_ascii_digit byte ≡ false →
    after_digits count is_second byte ≡ after_number is_second byte
passed count is_second byte some other =
    let nonzero = ne_eqb count 0 (λ e. omega arith) in
    ap (λ b. cond b (one_digit_more count is_second) (cond (count == 0) None (after_number is_second byte))) other
    ∙ ap (λ b. cond b None (after_number is_second byte)) nonzero

-- a comma
comma : (count : ℕ) (is_second : Bool) (rest : List ℕ) → count ≤ 9 →
    digits_go_on count is_second (44 ∷ rest) ≡ after_step (after_digits count is_second 44) rest
comma zero true rest few = refl
comma zero false rest few = refl
comma (suc k) true rest few =
    ap (λ b. (true && (b && true)) && list_all is_item (slice_split is_comma rest))
    (whole_number (suc k) (omega arith) few) ∙ text_begins rest
    ∙ sym (ap (λ step. after_step step rest) (passed (suc k) true 44 (omega arith) refl))
comma (suc k) false rest few =
    ap (λ b. (true && (b && true)) && list_all is_item (slice_split is_comma rest))
    (whole_number (suc k) (omega arith) few) ∙ text_begins rest
    ∙ sym (ap (λ step. after_step step rest) (passed (suc k) false 44 (omega arith) refl))

-- a hyphen
less_one : (n : ℕ) → nat_le (suc n) 2 ≡ nat_le n 1
less_one n =
    ⊎_elim (λ h. lt-leb (suc n) 2 (omega arith) ∙ sym (lt-leb n 1 h))
    (λ h. le-leb (suc n) 2 (omega arith) ∙ sym (le-leb n 1 h)) (cases_lt 1 n)

hyphen : (count : ℕ) (is_second : Bool) (rest : List ℕ) → count ≤ 9 →
    digits_go_on count is_second (45 ∷ rest) ≡ after_step (after_digits count is_second 45) rest
hyphen zero is_second rest few =
    let items = slice_split is_comma rest in
    ap (items_go_on zero is_second) (onto_parts 45 items)
    ∙ false_first (nat_le (suc (length (parts_of (first_of items)))) (most_parts is_second))
    (list_all is_item (rest_of items))
hyphen (suc k) true rest few =
    let items = slice_split is_comma rest in
    let parts = parts_of (first_of items) in
    let some = parts_counted (first_of items) in
    ap (items_go_on (suc k) true) (onto_parts 45 items)
    ∙ ap (λ b. (b && (number_goes_on (suc k) [] && list_all is_number parts)) && list_all is_item (rest_of items))
    (lt-leb (suc (length parts)) 1 (omega arith))
    ∙ sym (ap (λ step. after_step step rest) (passed (suc k) true 45 (omega arith) refl))
hyphen (suc k) false rest few =
    let items = slice_split is_comma rest in
    let parts = parts_of (first_of items) in
    ap (items_go_on (suc k) false) (onto_parts 45 items)
    ∙ ap (λ b. (nat_le (suc (length parts)) 2 && (b && list_all is_number parts)) && list_all is_item (rest_of items))
    (whole_number (suc k) (omega arith) few)
    ∙ ap (λ b. (b && list_all is_number parts) && list_all is_item (rest_of items)) (less_one (length parts))
    ∙ ap (λ b. (nat_le (length parts) 1 && b) && list_all is_item (rest_of items))
    (all_numbers parts (parts_counted (first_of items)))
    ∙ sym (ap (λ step. after_step step rest) (passed (suc k) false 45 (omega arith) refl))

-- any other byte goes on with the number
module _ (count : ℕ) (is_second : Bool) (byte : ℕ) (rest : List ℕ) (no_comma : is_comma byte ≡ false)
    (no_hyphen : is_hyphen byte ≡ false) where
  abbrev items : List (List ℕ)
  items = slice_split is_comma rest

  abbrev parts : List (List ℕ)
  parts = parts_of (first_of items)

  -- a byte more in the first part
  abbrev with_parts : List (List ℕ) → Bool
  with_parts ps = parts_go_on count is_second ps && list_all is_item (rest_of items)

  taken_apart : digits_go_on count is_second (byte ∷ rest)
      ≡ with_parts ((byte ∷ first_of parts) ∷ rest_of parts)
  taken_apart =
      ap (items_go_on count is_second)
      (ap (λ b. cond b ([] ∷ items) (onto_first byte items)) no_comma ∙ onto_parts byte items)
      ∙ ap with_parts (ap (λ b. cond b ([] ∷ parts) (onto_first byte parts)) no_hyphen ∙ onto_parts byte parts)

  abbrev digits_there : Bool → Bool → Bool → Bool
  digits_there some few digits = (nat_le (suc (length (rest_of parts))) (most_parts is_second)
      && ((some && (few && digits)) && list_all is_number (rest_of parts))) && list_all is_item (rest_of items)

  abbrev size : ℕ
  size = count + suc (length (first_of parts))

  abbrev rest_digits : Bool
  rest_digits = all_ascii_digits (first_of parts)

  -- a digit
  by_room : (room : Bool) → nat_lt count 9 ≡ room →
      digits_there (nat_lt 0 size) (nat_le size 9) rest_digits
      ≡ after_step (cond room (Some (Digits (count + 1) is_second)) None) rest
  by_room true room =
      let more : size ≡ count + 1 + length (first_of parts) = omega arith in
      ap (λ n. digits_there (nat_lt 0 n) (nat_le n 9) rest_digits) more
      ∙ ap (λ n. (nat_le n (most_parts is_second) && (number_goes_on (count + 1) (first_of parts)
      && list_all is_number (rest_of parts))) && list_all is_item (rest_of items))
      (sym (ap length (some_parts is_hyphen (first_of items))))
  by_room false room =
      let full = ltb-false count 9 room in
      ap (λ b. digits_there (nat_lt 0 size) b rest_digits) (lt-leb size 9 (omega arith))
      ∙ none_few (nat_le (suc (length (rest_of parts))) (most_parts is_second)) (nat_lt 0 size) rest_digits
      (list_all is_number (rest_of parts)) (list_all is_item (rest_of items))

  none_goes : (b : Bool) → after_step (cond b None (after_number is_second byte)) rest ≡ false
  none_goes true = refl
  none_goes false =
      ap (λ b. after_step (cond b (Some (Digits 0 false)) (cond (is_hyphen byte && not is_second)
      (Some (Digits 0 true)) None)) rest) no_comma
      ∙ ap (λ b. after_step (cond (b && not is_second) (Some (Digits 0 true)) None) rest) no_hyphen

  by_digit : (digit : Bool) → is_ascii_digit byte ≡ digit →
      digits_there (nat_lt 0 size) (nat_le size 9) (digit && rest_digits)
      ≡ after_step (cond digit (one_digit_more count is_second) (cond (count == 0) None
      (after_number is_second byte))) rest
  by_digit true is = by_room (nat_lt count 9) refl
  by_digit false is =
      none_digits (nat_le (suc (length (rest_of parts))) (most_parts is_second)) (nat_lt 0 size) (nat_le size 9)
      (list_all is_number (rest_of parts)) (list_all is_item (rest_of items))
      ∙ sym (none_goes (count == 0))

  other : digits_go_on count is_second (byte ∷ rest) ≡ after_step (after_digits count is_second byte) rest
  other = taken_apart ∙ by_digit (is_ascii_digit byte) refl

-- any byte
digits_step : (count : ℕ) (is_second : Bool) (byte : ℕ) (rest : List ℕ) → count ≤ 9 →
    digits_go_on count is_second (byte ∷ rest) ≡ after_step (after_digits count is_second byte) rest
digits_step count is_second byte rest few = by_comma (is_comma byte) refl
  where
    by_hyphen : (h : Bool) → is_comma byte ≡ false → is_hyphen byte ≡ h →
        digits_go_on count is_second (byte ∷ rest) ≡ after_step (after_digits count is_second byte) rest
    by_hyphen true no_comma is =
        let e = eqb-true byte 45 is in
        rw e (hyphen count is_second rest few)
    by_hyphen false no_comma is = other count is_second byte rest no_comma is

    by_comma : (c : Bool) → is_comma byte ≡ c →
        digits_go_on count is_second (byte ∷ rest) ≡ after_step (after_digits count is_second byte) rest
    by_comma true is =
        let e = eqb-true byte 44 is in
        rw e (comma count is_second rest few)
    by_comma false is = by_hyphen (is_hyphen byte) is refl

-- ---- the letters of `none`

letter : (is : Bool) (count : ℕ) (rest : List ℕ) →
    (is && bytes_eq rest (drop (count + 1) (codes "none")))
    ≡ after_step (cond is (Some (Letters (count + 1))) None) rest
letter true count rest = refl
letter false count rest = refl

pub nothing_left : (k : ℕ) → drop {A = ℕ} k [] ≡ []
nothing_left zero = refl
nothing_left (suc k) = refl

letters_step : (count byte : ℕ) (rest : List ℕ) →
    bytes_eq (byte ∷ rest) (drop count (codes "none")) ≡ after_step (after_letters count byte) rest
letters_step zero byte rest = letter (byte == 110) 0 rest
letters_step (suc zero) byte rest = letter (byte == 111) 1 rest
letters_step (suc (suc zero)) byte rest = letter (byte == 110) 2 rest
letters_step (suc (suc (suc zero))) byte rest = letter (byte == 101) 3 rest
letters_step (suc (suc (suc (suc k)))) byte rest =
    let count = suc (suc (suc (suc k))) in
    ap (λ letters. bytes_eq (byte ∷ rest) letters) (nothing_left k)
    ∙ sym (ap (λ b. after_step (cond (b && byte == slice_index (codes "none") count) (Some (Letters (count + 1)))
    None) rest) (le-ltb count 4 (omega arith)))

-- ---- the first byte

plain_text : (byte : ℕ) (rest : List ℕ) → bytes_eq (byte ∷ rest) (codes "none") ≡ false →
    is_mask_text (byte ∷ rest) ≡ after_step (after_digits 0 false byte) rest
plain_text byte rest other =
    ap (λ b. list_all is_item (cond b [] (slice_split is_comma (byte ∷ rest)))) other
    ∙ text_begins (byte ∷ rest) ∙ digits_step 0 false byte rest (lit≤ tt)

start_n : (rest : List ℕ) → is_mask_text (110 ∷ rest) ≡ after_step (with_byte Start 110) rest
start_n rest = by_word (bytes_eq rest (codes "one")) refl
  where
    by_word : (is : Bool) → bytes_eq rest (codes "one") ≡ is →
        is_mask_text (110 ∷ rest) ≡ bytes_eq rest (codes "one")
    by_word true is =
        ap (λ b. list_all is_item (cond b [] (slice_split is_comma (110 ∷ rest)))) is ∙ sym is
    by_word false is = plain_text 110 rest is ∙ sym is

start_step : (byte : ℕ) (rest : List ℕ) → is_mask_text (byte ∷ rest) ≡ after_step (with_byte Start byte) rest
start_step byte rest = by_letter (byte == 110) refl
  where
    by_letter : (is : Bool) → (byte == 110) ≡ is →
        is_mask_text (byte ∷ rest) ≡ after_step (with_byte Start byte) rest
    by_letter true is =
        let e = eqb-true byte 110 is in
        rw e (start_n rest)
    by_letter false is =
        plain_text byte rest (ap (λ b. b && bytes_eq rest (codes "one")) is)
        ∙ sym (ap (λ b. after_step (cond b (Some (Letters 1)) (after_digits 0 false byte)) rest) is)

pub goes_on_step : (front : Front) (byte : ℕ) (rest : List ℕ) → IsFront front →
    goes_on front (byte ∷ rest) ≡ after_step (with_byte front byte) rest
goes_on_step Start byte rest is = start_step byte rest
goes_on_step (Letters count) byte rest is = letters_step count byte rest
goes_on_step (Digits count is_second) byte rest is = digits_step count is_second byte rest is
