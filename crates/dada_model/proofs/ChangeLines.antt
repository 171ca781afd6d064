-- Lines that change one by one, each in its place.
use Rattle.std.proofs.Common.{◌≡◌, ◌≢◌, ℕ, ◌+◌, ◌-◌, ◌<◌, ◌≤◌, ◌⊎◌, inl, inr, Bool, true, false, cond, eqb, List, [], ◌∷◌, ◌++◌, length, get_or, take, refl, sym, ap, ◌∙◌, arith, append_assoc, Option, Some, None}
use Rattle.std.specs.Prelude.{All, bytes_eq}
use Rattle.std.specs.List.{onto_first, join_with_byte}
use Rattle.std.proofs.lemmas.Bool.Decides.{nat_tests}
use Rattle.std.proofs.lemmas.Bool.{cases_lt}
use Rattle.std.proofs.lemmas.List.{take-append-drop, length-take, length-append, length-replicate, get_or_append_left, get_or-append_right}
use Rattle.std.proofs.lemmas.List.Elements.{All-nil, All-head, All-tail, All-cons, All-append, All-weaker}
use Rattle.std.proofs.lemmas.Slice.Eq.{bytes_eq-Decides}
use Rattle.dada_model.specs.Fields.{without_comment, Field, lines_of, field_of_line}
use Rattle.dada_model.specs.Change.{IsWordByte, IsWord, spaces, has_keyword, has_key, with_value, blanked_line}
use Rattle.dada_model.specs.FieldLaws.{value_if, IsLine}
use Rattle.dada_model.proofs.Lines.{IsSomeList, lines_of-alone, lines_of-cons}
use Rattle.dada_model.proofs.FieldLines.{IsFieldLine, front_of, regrouped, bare_of, comment_of, field_from_parts, parts_of_field, front_has_no_key, with_value_is, field_with_new, length-with_value, blank_has_no_key, length-blanked_line, All-with_value, All-blanked_line}

-- ---- lists of lines

abbrev pub AllLines : (List ℕ → Type 0) → List (List ℕ) → Type 0
AllLines P [] = Unit {0}
AllLines P (line ∷ lines) = P line × AllLines P lines

all_onto : (P : ℕ → Type 0) (x : ℕ) (lines : List (List ℕ)) → P x → AllLines (All P) lines →
    AllLines (All P) (onto_first x lines)
all_onto P x [] h all = (All-cons P x [] h (All-nil P), tt)
all_onto P x (line ∷ lines) h all = (All-cons P x line h all.0, all.1)

all_cond : (P : ℕ → Type 0) (b : Bool) (x : ℕ) (lines : List (List ℕ)) → (b ≡ false → P x) →
    AllLines (All P) lines → AllLines (All P) (cond b ([] ∷ lines) (onto_first x lines))
all_cond P true x lines h all = (All-nil P, all)
all_cond P false x lines h all = all_onto P x lines (h refl) all

-- what holds of each byte but line feeds holds in the lines
pub all_lines : (P : ℕ → Type 0) (text : List ℕ) → All (λ x. eqb x 10 ≡ false → P x) text →
    AllLines (All P) (lines_of text)
all_lines P [] h = (All-nil P, tt)
all_lines P (x ∷ text) h = all_cond P (eqb x 10) x (lines_of text) (All-head (λ x. eqb x 10 ≡ false →
    P x) x text h) (all_lines P text (All-tail (λ x. eqb x 10 ≡ false → P x) x text h))

pub lines_are_lines : (text : List ℕ) → AllLines IsLine (lines_of text)
lines_are_lines text = all_lines (λ x. eqb x 10 ≡ false) text (λ i d h e. e)

pub all_joined : (P : ℕ → Type 0) (lines : List (List ℕ)) → P 10 → AllLines (All P) lines →
    All P (join_with_byte 10 lines)
all_joined P [] h all = All-nil P
all_joined P (line ∷ []) h all = all.0
all_joined P (line ∷ next ∷ lines) h all = All-append P line (10 ∷ join_with_byte 10 (next ∷ lines)) all.0
    (All-cons P 10 (join_with_byte 10 (next ∷ lines)) h (all_joined P (next ∷ lines) h all.1))

pub lines_of-joined : (lines : List (List ℕ)) → IsSomeList lines → AllLines IsLine lines →
    lines_of (join_with_byte 10 lines) ≡ lines
lines_of-joined [] some all = absurd some
lines_of-joined (line ∷ []) some all = lines_of-alone line all.0
lines_of-joined (line ∷ next ∷ lines) some all = lines_of-cons line (join_with_byte 10 (next ∷ lines)) all.0
    ∙ ap (λ (ls : List (List ℕ)). line ∷ ls) (lines_of-joined (next ∷ lines) tt all.1)

-- ---- the keys of a line

-- the value of a key in a line, or another value
abbrev pub value_or : List ℕ → List ℕ → Option (List ℕ) → Option (List ℕ)
value_or key line other = cond (has_key key line) (value_if (field_of_line line)) other

pub bytes_eq-true : (xs ys : List ℕ) → bytes_eq xs ys ≡ true → xs ≡ ys
bytes_eq-true xs ys e = (bytes_eq-Decides xs ys).0 e

pub bytes_eq-same : (xs : List ℕ) → bytes_eq xs xs ≡ true
bytes_eq-same xs = (bytes_eq-Decides xs xs).1 refl

keyword_is : (key : List ℕ) (found : Option Field) → has_keyword key found ≡ true →
    (field : Field) × (found ≡ Some field) × (field.keyword ≡ key)
keyword_is key None e = (cc)
keyword_is key (Some field) e = (field, refl, bytes_eq-true field.keyword key e)

pub field_of_key : (key line : List ℕ) → has_key key line ≡ true →
    (field : Field) × (field_of_line line ≡ Some field) × (field.keyword ≡ key)
unfolding has_key
field_of_key key line e = keyword_is key (field_of_line line) e

pub has_key-field : (key line keyword value : List ℕ) → field_of_line line ≡ Some (record {
  keyword =
      keyword;
  value = value;
}) → has_key key line ≡ bytes_eq keyword key
unfolding has_key
has_key-field key line keyword value e = ap (has_keyword key) e

bytes_apart : (xs ys : List ℕ) (b : Bool) → bytes_eq xs ys ≡ b → ys ≢ xs → b ≡ false
bytes_apart xs ys false e apart = refl
bytes_apart xs ys true e apart = absurd (apart (sym (bytes_eq-true xs ys e)))

pub key_apart : (key other line keyword value : List ℕ) → field_of_line line ≡ Some (record {
  keyword =
      keyword;
  value = value;
}) → keyword ≡ key → other ≢ key → has_key other line ≡ false
key_apart key other line keyword value e same apart =
    has_key-field other line keyword value e ∙ ap (λ k. bytes_eq k other) same
    ∙ bytes_apart key other (bytes_eq key other) refl apart

pub has_no_other : (key other line : List ℕ) → has_key key line ≡ true → other ≢ key → has_key other line ≡ false
has_no_other key other line e apart = let field =
    field_of_key key line e in key_apart key other line field.0.keyword field.0.value field.1 field.2 apart

-- ---- one line

-- a line that changes in its place: the values of other keys stay, also where the line is cut; and bytes change only
-- before the comment, where the line is a field with the key
pub record IsChangedLine (key line new : List ℕ) : Type 0 where
  pub old_line : IsLine line
  pub new_line : IsLine new
  pub same_length : length new ≡ length line
  pub others : (other : List ℕ) → other ≢ key → (n : ℕ) (value : Option (List ℕ)) →
      value_or other (take n new) value ≡ value_or other (take n line) value
  pub bytes : (i : ℕ) → i < length line → (get_or new i 0 ≡ get_or line i 0) ⊎ ((has_key key line ≡ true) ×
      (i < length (without_comment line)))

pub unchanged_line : (key line : List ℕ) → IsLine line → IsChangedLine key line line
unchanged_line key line is = record {
  old_line = is;
  new_line = is;
  same_length = refl;
  others =
      λ other apart n value. refl;
  bytes = λ i low. inl refl;
}

both_apart : (other line new : List ℕ) (n : ℕ) (value : Option (List ℕ)) → has_key other line ≡ false →
    has_key other new ≡ false → value_or other (take n new) value ≡ value_or other (take n line) value
both_apart other line new n value old_apart new_apart =
    ap (λ b. cond b (value_if (field_of_line (take n new))) value) (front_has_no_key other new n new_apart)
    ∙ sym (ap (λ b. cond b (value_if (field_of_line (take n line))) value) (front_has_no_key other line n old_apart))

line_byte : (byte : ℕ) → IsWordByte byte → eqb byte 10 ≡ false
line_byte byte h = grind (arith, nat_tests)

pub IsLine-word : (word : List ℕ) → IsWord word → IsLine word
IsLine-word word h = All-weaker IsWordByte (λ byte. eqb byte 10 ≡ false) line_byte word h.bytes

blank_bytes : (line : List ℕ) (i : ℕ) → i < length line → length (without_comment line) ≤ i →
    get_or (blanked_line line) i 0 ≡ get_or line i 0
unfolding blanked_line
blank_bytes line i low high =
    let n = length (without_comment line) in
    let pad : length (spaces n) ≡ n = length-replicate {A = ℕ} n 32 in
    let cut = length-take n line in
    let front : length (take n line) ≡ n = omega arith in
    get_or-append_right (spaces n) (comment_of line) n i 0 pad high
    ∙ sym (ap (λ t. get_or t i 0) (sym (take-append-drop n line))
    ∙ get_or-append_right (take n line) (comment_of line) n i 0 front high)

pub blank_line : (key line : List ℕ) → IsLine line → has_key key line ≡ true →
    IsChangedLine key line (blanked_line line)
blank_line key line is e = record {
  old_line = is;
  new_line = All-blanked_line (λ byte. eqb byte 10 ≡ false) line refl is;
  same_length = length-blanked_line line;
  others = λ other apart n value. both_apart other line (blanked_line line) n value
      (has_no_other key other line e apart) (blank_has_no_key other line);
  bytes = λ i low. elim (cases_lt i (length (without_comment line))) as (λ _. (get_or
      (blanked_line line) i 0 ≡ get_or line i 0) ⊎ ((has_key key line ≡ true) × (i < length
      (without_comment line)))) [
        | inl before ↦ inr (e, before)
        | inr after ↦ inl (blank_bytes line i low after)
      ];
}

value_bytes : (line keyword value new : List ℕ) (h : IsFieldLine line keyword value) (i : ℕ) →
    length new ≤ length value → (i < length (front_of h)) ⊎ (length (front_of h) + length value ≤ i) →
    get_or (with_value new line) i 0 ≡ get_or line i 0
value_bytes line keyword value new h i fits (inl before) =
    let pad = spaces (length value - length new) in
    ap (λ t. get_or t i 0) (with_value_is line keyword value new h
    ∙ regrouped h.lead keyword h.gap (new ++ (pad ++ h.after)))
    ∙ get_or_append_left (front_of h) (new ++ (pad ++ h.after)) 0 i before
    ∙ sym (ap (λ t. get_or t i 0) (h.line_is ∙ regrouped h.lead keyword h.gap (value ++ h.after))
    ∙ get_or_append_left (front_of h) (value ++ h.after) 0 i before)
value_bytes line keyword value new h i fits (inr after) =
    let pad = spaces (length value - length new) in
    let pad_length : length pad ≡ length value - length new = length-replicate {A = ℕ} (length value - length new) 32 in
    let new_pad = length-append new pad in
    let new_front = length-append (front_of h) (new ++ pad) in
    let old_front = length-append (front_of h) value in
    let n = length (front_of h) + length value in
    let new_count : length (front_of h ++ (new ++ pad)) ≡ n = omega arith in
    ap (λ t. get_or t i 0) (with_value_is line keyword value new h
    ∙ regrouped h.lead keyword h.gap (new ++ (pad ++ h.after))
    ∙ ap (λ t. front_of h ++ t) (sym (append_assoc new pad h.after))
    ∙ sym (append_assoc (front_of h) (new ++ pad) h.after))
    ∙ get_or-append_right (front_of h ++ (new ++ pad)) h.after n i 0 new_count after
    ∙ sym (ap (λ t. get_or t i 0) (h.line_is ∙ regrouped h.lead keyword h.gap (value ++ h.after)
    ∙ sym (append_assoc (front_of h) value h.after)) ∙ get_or-append_right
    (front_of h ++ value) h.after n i 0 old_front after)

before_comment : (line keyword value : List ℕ) (h : IsFieldLine line keyword value) →
    length (front_of h) + length value ≤ length (without_comment line)
before_comment line keyword value h =
    let tail = without_comment h.after in
    let whole : length (without_comment line) ≡ length (front_of h ++ (value ++ tail)) =
    ap length (bare_of line keyword value h ∙ regrouped h.lead keyword h.gap (value ++ tail)) in
    let one = length-append (front_of h) (value ++ tail) in
    let two = length-append value tail in
    omega arith

overwritten_bytes : (key line keyword value new : List ℕ) (h : IsFieldLine line keyword value) (i : ℕ) →
    length new ≤ length value → has_key key line ≡ true →
    (get_or (with_value new line) i 0 ≡ get_or line i 0) ⊎ ((has_key key line ≡ true) × (i < length
    (without_comment line)))
overwritten_bytes key line keyword value new h i fits e =
    let most = before_comment line keyword value h in
    elim (cases_lt i (length (front_of h))) as (λ _. (get_or (with_value new line) i 0 ≡ get_or line i 0) ⊎
    ((has_key key line ≡ true) × (i < length (without_comment line)))) [
      | inl before ↦ inl (value_bytes line keyword value new h i fits (inl before))
      | inr inside ↦ elim (cases_lt i (length (front_of h) + length value)) as (λ _. (get_or
          (with_value new line) i 0 ≡ get_or line i 0) ⊎ ((has_key key line ≡ true) × (i < length
          (without_comment line)))) [
            | inl within ↦ inr (e, omega arith)
            | inr after ↦ inl (value_bytes line keyword value new h i fits (inr after))
          ]
    ]

pub overwritten_line : (key line new : List ℕ) (field : Field) → IsLine line → has_key key line ≡ true →
    field_of_line line ≡ Some field → IsWord new → length new ≤ length field.value →
    IsChangedLine key line (with_value new line)
overwritten_line key line new field is e found word fits =
    let h = parts_of_field line field found in
    let named = field_of_key key line e in
    let same_field : named.0 ≡ field = (cc (named.1)) in
    let keyword : field.keyword ≡ key = sym (ap (λ (f : Field). f.keyword) same_field) ∙ named.2 in
    let after = field_from_parts (with_value new line) field.keyword new
    (field_with_new line field.keyword field.value new h word) in
    record {
      old_line = is;
      new_line = All-with_value (λ byte. eqb byte 10 ≡ false) new line refl (IsLine-word new word) is;
      same_length = length-with_value line field.keyword field.value new h fits;
      others = λ other apart n value. both_apart other line (with_value new line) n value
          (has_no_other key other line e apart) (key_apart key other
          (with_value new line) field.keyword new after keyword apart);
      bytes = λ i low. overwritten_bytes key line field.keyword field.value new h i fits e;
    }
