-- What is read as a header, in parts; and reading it back.
use Rattle.std.proofs.Common.{◌≡◌, ℕ, zero, suc, ◌+◌, ◌-◌, ◌<◌, ◌≤◌, Bool, true, false, cond, not, eqb, ltb, leb, ◌&&◌, List, [], ◌∷◌, ◌++◌, length, get_or, take, replicate, refl, sym, ap, ◌∙◌, arith, Option, Some, None, Result, Ok, Err, ℤ, pos, negsuc}
use Rattle.std.specs.Prelude.{All, codes}
use Rattle.std.specs.List.{position_or_len, list_any}
use Rattle.std.proofs.lemmas.Bool.Decides.{nat_tests}
use Rattle.std.proofs.lemmas.Bool.{ltb-false, le-ltb, leb-true, and_parts, or_parts}
use Rattle.std.proofs.lemmas.List.{length-take, length-append, length-replicate, take-take, take_all, get_or-take}
use Rattle.std.proofs.lemmas.List.Elements.{All-head, All-tail, All-cons, All-from_get_or, All-weaker}
use Rattle.std.proofs.lemmas.List.Sums.{fails_before_first}
use Rattle.std.proofs.lemmas.List.Folds.{list_any_none}
use Rattle.dada_model.specs.Number.{number_value}
use Rattle.dada_model.specs.Fields.{words_of, without_comment, fields_of, value_of, HeaderText, HeaderRefusal, ShortHeader, before_nul, allowed_size, size_of_value, header_size, header_text, is_above_ascii, header_with_text, header_of_size, header_of, header_bytes}
use Rattle.dada_model.specs.ChangeLaws.{IsReadBack, IsHeader}

-- ---- a header in parts

is_nul : ℕ → Bool
is_nul byte = eqb byte 0

-- the size that the text gives
unfoldable pub text_size : List ℕ → Option ℕ
text_size text = size_of_value (value_of (codes "HDR_SIZE") (fields_of (take 4096 text)))

-- what a header that was read is made of
pub record IsRead (bytes : List ℕ) (header : HeaderText) : Type 0 where
  pub long : 4096 ≤ length bytes
  pub size : header_size bytes ≡ Some header.size
  pub whole : header.size ≤ length bytes
  pub text : header.text ≡ header_text header.size bytes
  pub ascii : list_any is_above_ascii header.text ≡ false

not_err : {A B : Type 0} (b : Bool) (e : B) (r : Result A B) (a : A) → cond b (Err e) r ≡ Ok a →
    (b ≡ false) × (r ≡ Ok a)
not_err true e r a h = (cc)
not_err false e r a h = (refl, h)

same_header : (b : Bool) (e : HeaderRefusal) (size : ℕ) (text : List ℕ) (header : HeaderText) →
    let r : Result HeaderText HeaderRefusal = cond b (Err e) (Ok (record { size = size; text = text })) in
    r ≡ Ok header → (b ≡ false) × (size ≡ header.size) × (text ≡ header.text)
same_header true e size text header h = (cc)
same_header false e size text header h =
    let same : record { size = size; text = text } ≡ header = (cc) in
    (refl, ap (λ (x : HeaderText). x.size) same, ap (λ (x : HeaderText). x.text) same)

read_with_size : (bytes : List ℕ) (found : Option ℕ) (header : HeaderText) → header_of_size bytes found ≡ Ok header →
    (found ≡ Some header.size) × (header.size ≤ length bytes) × (header.text ≡ header_text header.size bytes) ×
    (list_any is_above_ascii header.text ≡ false)
read_with_size bytes None header h = (cc)
read_with_size bytes (Some size) header h =
    let long = not_err (ltb (length bytes) size) (ShortHeader (length bytes)) (header_with_text size
    (header_text size bytes)) header h in
    let parts = same_header (list_any is_above_ascii (header_text size bytes)) _ size
    (header_text size bytes) header long.1 in
    let low : size ≤ length bytes = ltb-false (length bytes) size long.0 in
    (ap Some parts.1, rw (← parts.1) low, sym parts.2 ∙ ap (λ n. header_text n bytes) parts.1, rw (← parts.2) parts.0)

pub read_parts : (bytes : List ℕ) (header : HeaderText) → header_of bytes ≡ Ok header → IsRead bytes header
unfolding header_of
read_parts bytes header h =
    let long = not_err (ltb (length bytes) 4096) (ShortHeader (length bytes)) (header_of_size bytes
    (header_size bytes)) header h in
    let parts = read_with_size bytes (header_size bytes) header long.1 in
    record {
      long = ltb-false (length bytes) 4096 long.0;
      size = parts.0;
      whole = parts.1;
      text = parts.2;
      ascii =
          parts.3;
    }

pub read_from_parts : (bytes : List ℕ) (header : HeaderText) → IsRead bytes header → header_of bytes ≡ Ok header
unfolding header_of
read_from_parts bytes header h =
    let ascii : list_any is_above_ascii (header_text header.size bytes) ≡ false = rw (← h.text) h.ascii in
    let same : record { size = header.size; text = header_text header.size bytes } ≡ header =
    ap (λ (t : List ℕ). record { size = header.size; text = t }) (sym h.text) in
    rw (le-ltb (length bytes) 4096 h.long, h.size, le-ltb (length bytes) header.size h.whole, ascii) (ap Ok same)

-- ---- the size

allowed_range : (b : Bool) (n size : ℕ) → (b ≡ true → (4096 ≤ n) × (n ≤ 65536)) → cond b (Some n) None ≡ Some size →
    (4096 ≤ size) × (size ≤ 65536)
allowed_range false n size range e = (cc)
allowed_range true n size range e = let same : n ≡ size = (cc) in rw (← same) (range refl)

number_range : (number : Option ℤ) (size : ℕ) → allowed_size number ≡ Some size → (4096 ≤ size) × (size ≤ 65536)
number_range None size e = (cc)
number_range (Some (pos n)) size e =
    allowed_range (leb 4096 n && leb n 65536) n size (λ t. let both =
    and_parts (leb 4096 n) (leb n 65536) t in (leb-true 4096 n both.0, leb-true n 65536 both.1)) e
number_range (Some (negsuc n)) size e = (cc)

value_range : (value : Option (List ℕ)) (size : ℕ) → size_of_value value ≡ Some size → (4096 ≤ size) × (size ≤ 65536)
value_range None size e = let same : 4096 ≡ size = (cc) in (omega arith, omega arith)
value_range (Some text) size e = number_range (number_value 0 text) size e

pub size_range : (bytes : List ℕ) (size : ℕ) → header_size bytes ≡ Some size → (4096 ≤ size) × (size ≤ 65536)
unfolding header_size
size_range bytes size e = value_range _ size e

-- ---- texts without NUL

abbrev pub IsTextByte : ℕ → Type 0
IsTextByte byte = (0 < byte) × (byte < 128)

no_nul : (byte : ℕ) → IsTextByte byte → eqb byte 0 ≡ false
no_nul byte h = grind (arith, nat_tests)

before_nul-cons : (b : Bool) (x : ℕ) (xs ys : List ℕ) (n : ℕ) → take n xs ≡ ys →
    take (cond (not b) (1 + n) 0) (x ∷ xs) ≡ cond b [] (x ∷ ys)
before_nul-cons true x xs ys n e = refl
before_nul-cons false x xs ys n e = let one : 1 + n ≡ suc n = omega arith in rw one (ap (λ (t : List ℕ). x ∷ t) e)

pub before_nul-text : (text : List ℕ) (n : ℕ) → All IsTextByte text → before_nul (text ++ replicate n 0) ≡ text
before_nul-text [] zero h = refl
before_nul-text [] (suc n) h = refl
before_nul-text (x ∷ text) n h =
    let first : eqb x 0 ≡ false = no_nul x (All-head IsTextByte x text h) in
    let after = before_nul-text text n (All-tail IsTextByte x text h) in
    before_nul-cons (eqb x 0) x (text ++ replicate n 0) text _ after ∙ ap (λ b. cond b [] (x ∷ text)) first

take_cond : (n : ℕ) (b : Bool) (x : ℕ) (xs : List ℕ) → take (suc n) (cond b [] (x ∷ xs)) ≡ cond b [] (x ∷ take n xs)
take_cond n true x xs = refl
take_cond n false x xs = refl

pub before_nul-take : (n : ℕ) (bytes : List ℕ) → before_nul (take n bytes) ≡ take n (before_nul bytes)
before_nul-take zero bytes = refl
before_nul-take (suc n) [] = refl
before_nul-take (suc n) (x ∷ bytes) =
    before_nul-cons (eqb x 0) x (take n bytes) (take n (before_nul bytes)) _ (before_nul-take n bytes)
    ∙ sym (ap (take (suc n)) (before_nul-cons (eqb x 0) x bytes (before_nul bytes) _ refl)
    ∙ take_cond n (eqb x 0) x (before_nul bytes))

text_byte : (byte : ℕ) → eqb byte 0 ≡ false → is_above_ascii byte ≡ false → IsTextByte byte
text_byte byte h k = grind (arith, nat_tests)

none_above : (bytes : List ℕ) → list_any is_above_ascii bytes ≡ false → All (λ byte. is_above_ascii byte ≡ false) bytes
none_above [] h = λ i d low. absurd (omega arith)
none_above (x ∷ bytes) h =
    let parts = or_parts (is_above_ascii x) (list_any is_above_ascii bytes) h in
    All-cons (λ byte. is_above_ascii byte ≡ false) x bytes parts.0 (none_above bytes parts.1)

pub size_of_text : (bytes : List ℕ) (size : ℕ) → 4096 ≤ size → header_size bytes ≡ text_size (header_text size bytes)
unfolding header_size text_size
size_of_text bytes size low =
    let front : take 4096 (take size bytes) ≡ take 4096 bytes = take-take 4096 size bytes low in
    let same : before_nul (take 4096 bytes) ≡ take 4096 (before_nul (take size bytes)) =
    rw (← front) (before_nul-take 4096 (take size bytes)) in
    ap (λ t. size_of_value (value_of (codes "HDR_SIZE") (fields_of t))) same

-- ---- headers that are read back

-- what a text is that is read back
pub record IsKeptText (header : HeaderText) : Type 0 where
  pub bytes : All IsTextByte header.text
  pub fits : length header.text ≤ header.size
  pub size : text_size header.text ≡ Some header.size
  pub range : (4096 ≤ header.size) × (header.size ≤ 65536)

pub kept_from_read : (bytes : List ℕ) (header : HeaderText) → IsRead bytes header → IsKeptText header
kept_from_read bytes header h =
    let range = size_range bytes header.size h.size in
    let block = take header.size bytes in
    let short = length-take header.size bytes in
    let cut = length-take (position_or_len is_nul block) block in
    let plain : All (λ byte. eqb byte 0 ≡ false) (before_nul block) =
    All-from_get_or (λ byte. eqb byte 0 ≡ false) (before_nul block) 0
    (λ i low. let count = length-take (position_or_len
    (λ byte. eqb byte 0) block) block in let below : i < position_or_len (λ byte. eqb byte 0) block =
    omega arith in
    rw (get_or-take (position_or_len (λ byte. eqb byte 0) block) block i 0 below) (fails_before_first
    (λ byte. eqb byte 0) block i 0 below)) in
    let plain_text : All (λ byte. eqb byte 0 ≡ false) header.text = rw h.text plain in
    let ascii = none_above header.text h.ascii in
    let count : length header.text ≤ header.size = rw h.text (let c =
    length-take (position_or_len (λ byte. eqb byte 0) block) block in omega arith) in
    record {
      bytes = All-from_get_or IsTextByte header.text 0 (λ i low. text_byte (get_or header.text i 0)
          (plain_text i 0 low) (ascii i 0 low));
      fits = count;
      size = ap text_size h.text ∙ sym (size_of_text bytes header.size range.0) ∙ h.size;
      range = range;
    }

not_above : (byte : ℕ) → IsTextByte byte → is_above_ascii byte ≡ false
not_above byte h = grind (arith, nat_tests)

length-header_bytes : (header : HeaderText) → length header.text ≤ header.size →
    length (header_bytes header) ≡ header.size
unfolding header_bytes
length-header_bytes header fits =
    let zeros : List ℕ = replicate (header.size - length header.text) 0 in
    let whole : length header.text + (header.size - length header.text) ≡ header.size = omega arith in
    length-append header.text zeros ∙ ap (λ n. length header.text + n) (length-replicate {A =
    ℕ} (header.size - length header.text) 0) ∙ whole

pub read_back : (header : HeaderText) → IsKeptText header → IsReadBack header
unfolding header_bytes
read_back header h =
    let bytes = header_bytes header in
    let count = length-header_bytes header h.fits in
    let whole : take header.size bytes ≡ bytes = take_all header.size bytes (omega arith) in
    let text : header_text header.size bytes ≡ header.text = ap before_nul whole
    ∙ before_nul-text header.text (header.size - length header.text) h.bytes in
    let ascii = list_any_none is_above_ascii header.text (All-weaker IsTextByte
    (λ byte. is_above_ascii byte ≡ false) not_above header.text h.bytes) in
    let range = h.range in
    read_from_parts bytes header (record {
      long = omega arith;
      size = size_of_text bytes header.size range.0 ∙ ap text_size text ∙ h.size;
      whole = omega arith;
      text = sym text;
      ascii = ascii;
    })

pub headers_read_back : (bytes : List ℕ) (header : HeaderText) → header_of bytes ≡ Ok header → IsReadBack header
headers_read_back bytes header h = read_back header (kept_from_read bytes header (read_parts bytes header h))

pub kept_from_read_back : (header : HeaderText) → IsReadBack header → IsKeptText header
kept_from_read_back header h = kept_from_read (header_bytes header) header (read_parts (header_bytes header) header h)

pub header_from_read_back : (header : HeaderText) → IsReadBack header → IsHeader header
header_from_read_back header h = let kept = kept_from_read_back header h in record {
  text = kept.bytes;
  fits =
      kept.fits;
  least = kept.range.0;
  most = kept.range.1;
}

empty_size : text_size [] ≡ Some 4096
unfolding text_size value_of fields_of words_of without_comment
empty_size = refl

pub blank_read_back : IsReadBack (record { size = 4096; text = [] })
blank_read_back = read_back (record { size = 4096; text = [] }) (record {
  bytes = λ i d low. absurd (omega arith);
  fits = omega arith;
  size = empty_size;
  range = (omega arith, omega arith);
})

-- ---- files with the same beginning

pub same_front : (bytes file : List ℕ) (header : HeaderText) → header_of bytes ≡ Ok header →
    take header.size file ≡ take header.size bytes → header_of file ≡ Ok header
same_front bytes file header h same =
    let parts = read_parts bytes header h in
    let range = size_range bytes header.size parts.size in
    let counts = ap length same in
    let count_file = length-take header.size file in
    let count_bytes = length-take header.size bytes in
    let whole : header.size ≤ length file = let w = parts.whole in omega arith in
    let text : header_text header.size bytes ≡ header_text header.size file = ap before_nul (sym same) in
    read_from_parts file header (record {
      long = omega arith;
      size = size_of_text file header.size range.0 ∙ ap text_size (sym text)
          ∙ sym (size_of_text bytes header.size range.0) ∙ parts.size;
      whole = whole;
      text = parts.text ∙ text;
      ascii = parts.ascii;
    })
