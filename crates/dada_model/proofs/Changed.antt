-- The laws of a change.
use Rattle.std.proofs.Common.{◌≡◌, ◌≢◌, ℕ, zero, suc, inl, inr, Bool, true, false, cond, eqb, List, [], ◌∷◌, ◌++◌, length, take, refl, sym, ap, ◌∙◌, arith, append_assoc, Option, Some, None}
use Rattle.std.specs.Prelude.{bytes_eq}
use Rattle.std.specs.List.{join_with_byte, cons_option}
use Rattle.std.proofs.lemmas.Bool.{cases_lt, both_ways}
use Rattle.std.proofs.lemmas.List.{append-nil, take-append-le}
use Rattle.std.proofs.lemmas.List.Elements.{All-nil, All-cons, All-append, All-take}
use Rattle.std.proofs.Math.Seq.{take-append-add}
use Rattle.dada_model.specs.Fields.{is_white, words_of, without_comment, Field, lines_of, field_of_line, fields_of, value_of}
use Rattle.dada_model.specs.Change.{IsWord, spaces, has_key, field_line}
use Rattle.dada_model.specs.FieldLaws.{value_if, IsLine}
use Rattle.dada_model.proofs.Lines.{IsSomeList, lines_of-alone, lines_of-cons, fields_of-lines, value_of-onto, value_of-none, value_of-alone, value_of-cons}
use Rattle.dada_model.proofs.FieldLines.{IsFieldLine, bare_word, AreWhite-spaces, field_from_parts, front_has_no_key}
use Rattle.dada_model.proofs.ChangeLines.{AllLines, has_key-field, key_apart, bytes_eq-same, IsLine-word}
use Rattle.dada_model.proofs.ChangeTexts.{past, is_ended, ended_after, line_not_ended}

-- ---- the fields of two texts in a row

empty_fields : fields_of [] ≡ []
unfolding fields_of words_of without_comment
empty_fields = refl

fields_of-line : (line : List ℕ) → IsLine line → fields_of line ≡ cons_option (field_of_line line) []
fields_of-line line is = fields_of-lines line (line ∷ []) (lines_of-alone line is)

fields_of-more : (line more : List ℕ) → IsLine line → fields_of (line ++ (10 ∷ more)) ≡ cons_option
    (field_of_line line) (fields_of more)
fields_of-more line more is =
    fields_of-lines (line ++ (10 ∷ more)) (line ∷ lines_of more) (lines_of-cons line more is)
    ∙ ap (cons_option (field_of_line line)) (sym (fields_of-lines more (lines_of more) refl))

onto_append : (field : Option Field) (fs gs : List Field) → cons_option field (fs ++ gs) ≡ cons_option field fs ++ gs
onto_append None fs gs = refl
onto_append (Some field) fs gs = refl

pub fields_of-append : (lines : List (List ℕ)) (tail : List ℕ) → IsSomeList lines → AllLines IsLine lines →
    fields_of (join_with_byte 10 lines ++ (10 ∷ tail)) ≡ fields_of (join_with_byte 10 lines) ++ fields_of tail
fields_of-append [] tail some all = absurd some
fields_of-append (line ∷ []) tail some all =
    fields_of-more line tail all.0 ∙ onto_append (field_of_line line) [] (fields_of tail)
    ∙ ap (λ fs. fs ++ fields_of tail) (sym (fields_of-line line all.0))
fields_of-append (line ∷ next ∷ lines) tail some all =
    let rest = join_with_byte 10 (next ∷ lines) in
    ap fields_of (append_assoc line (10 ∷ rest) (10 ∷ tail))
    ∙ fields_of-more line (rest ++ (10 ∷ tail)) all.0
    ∙ ap (cons_option (field_of_line line)) (fields_of-append (next ∷ lines) tail tt all.1)
    ∙ onto_append (field_of_line line) (fields_of rest) (fields_of tail)
    ∙ ap (λ fs. fs ++ fields_of tail) (sym (fields_of-more line rest all.0))

pub fields_of-append_ended : (lines : List (List ℕ)) (tail : List ℕ) → IsSomeList lines → AllLines IsLine lines →
    is_ended (join_with_byte 10 lines) ≡ true →
    fields_of (join_with_byte 10 lines ++ tail) ≡ fields_of (join_with_byte 10 lines) ++ fields_of tail
fields_of-append_ended [] tail some all ended = absurd some
fields_of-append_ended ([] ∷ []) tail some all ended = ap (λ fs. fs ++ fields_of tail) (sym empty_fields)
fields_of-append_ended ((x ∷ line) ∷ []) tail some all ended =
    absurd (both_ways (is_ended (x ∷ line)) (line_not_ended x line all.0) ended)
fields_of-append_ended (line ∷ next ∷ lines) tail some all ended =
    let rest = join_with_byte 10 (next ∷ lines) in
    ap fields_of (append_assoc line (10 ∷ rest) tail)
    ∙ fields_of-more line (rest ++ tail) all.0
    ∙ ap (cons_option (field_of_line line)) (fields_of-append_ended (next ∷ lines) tail tt all.1 (sym
    (ended_after line rest) ∙ ended))
    ∙ onto_append (field_of_line line) (fields_of rest) (fields_of tail)
    ∙ ap (λ fs. fs ++ fields_of tail) (sym (fields_of-more line rest all.0))

-- ---- the value among two lists of fields

none_of_cond : (b : Bool) (value : List ℕ) (rest : Option (List ℕ)) → cond b (Some value) rest ≡ None →
    (b ≡ false) × (rest ≡ None)
none_of_cond true value rest e = (cc)
none_of_cond false value rest e = (refl, e)

pub value_of-skip : (key : List ℕ) (fs gs : List Field) → value_of key fs ≡ None →
    value_of key (fs ++ gs) ≡ value_of key gs
value_of-skip key [] gs e = refl
value_of-skip key (field ∷ fs) gs e =
    let parts = none_of_cond (bytes_eq field.keyword key) field.value (value_of key fs) (sym (value_of-onto key
    (Some field) fs) ∙ e) in
    value_of-onto key (Some field) (fs ++ gs) ∙ ap (λ b. cond b (Some field.value) (value_of key
    (fs ++ gs))) parts.0 ∙ value_of-skip key fs gs parts.1

pub value_of-before : (key : List ℕ) (fs gs : List Field) → value_of key gs ≡ None →
    value_of key (fs ++ gs) ≡ value_of key fs
value_of-before key [] gs e = e ∙ sym (value_of-none key)
value_of-before key (field ∷ fs) gs e =
    value_of-onto key (Some field) (fs ++ gs) ∙ ap (cond (bytes_eq field.keyword key) (Some field.value))
    (value_of-before key fs gs e) ∙ sym (value_of-onto key (Some field) fs)

-- ---- the line of a new field

unfoldable pub new_line : List ℕ → List ℕ → List ℕ
new_line key value = key ++ (32 ∷ value)

pub field_line_is : (key value : List ℕ) → field_line key value ≡ new_line key value ++ (10 ∷ [])
unfolding new_line
field_line_is key value = sym (append_assoc key (32 ∷ value) (10 ∷ []))

unfoldable pub new_field : (key value : List ℕ) → IsWord key → IsWord value → IsFieldLine (new_line key value) key value
unfolding new_line
new_field key value k v = record {
  lead = [];
  gap = spaces 1;
  after = [];
  line_is = ap (λ t. key ++ (32 ∷ t)) (sym (append-nil value));
  lead_white = All-nil (λ byte. is_white byte ≡ true);
  gap_white = AreWhite-spaces 1;
  gap_some = omega arith;
  keyword_some = k.some;
  keyword_bare = bare_word key k;
  value_some = v.some;
  value_bare = bare_word value v;
  ends = tt;
}

pub new_is_line : (key value : List ℕ) → IsWord key → IsWord value → IsLine (new_line key value)
unfolding new_line
new_is_line key value k v =
    All-append (λ byte. eqb byte 10 ≡ false) key (32 ∷ value) (IsLine-word key k) (All-cons
    (λ byte. eqb byte 10 ≡ false) 32 value refl (IsLine-word value v))

pub new_has_key : (key value : List ℕ) → IsWord key → IsWord value → has_key key (new_line key value) ≡ true
new_has_key key value k v = has_key-field key (new_line key value) key value (field_from_parts
    (new_line key value) key value (new_field key value k v)) ∙ bytes_eq-same key

pub new_value : (key value : List ℕ) → IsWord key → IsWord value →
    value_of key (fields_of (field_line key value)) ≡ Some value
new_value key value k v =
    let line = new_line key value in
    ap (λ t. value_of key (fields_of t)) (field_line_is key value)
    ∙ value_of-cons key line [] (new_is_line key value k v)
    ∙ ap (λ b. cond b (value_if (field_of_line line)) (value_of key (fields_of []))) (new_has_key key value k v)
    ∙ ap value_if (field_from_parts line key value (new_field key value k v))

take-nil : (n : ℕ) → take {A = ℕ} n [] ≡ []
take-nil zero = refl
take-nil (suc n) = refl

pub new_has_no_other : (key value other : List ℕ) (n : ℕ) → IsWord key → IsWord value → other ≢ key →
    value_of other (fields_of (take n (field_line key value))) ≡ None
new_has_no_other key value other n k v apart =
    let line = new_line key value in
    let is = new_is_line key value k v in
    let none : has_key other line ≡ false = key_apart key other line key value (field_from_parts line key value
    (new_field key value k v)) refl apart in
    ap (λ t. value_of other (fields_of (take n t))) (field_line_is key value)
    ∙ (elim (cases_lt (length line) n) as (λ _. value_of other (fields_of (take n (line ++ (10 ∷ [])))) ≡ None) [
      | inl low ↦ let m = past n (length line) low in
          ap (λ i. value_of other (fields_of (take i (line ++ (10 ∷ []))))) m.1
          ∙ ap (λ t. value_of other (fields_of t)) (take-append-add line (10 ∷ []) (suc m.0)
          ∙ ap (λ t. line ++ (10 ∷ t)) (take-nil m.0))
          ∙ value_of-cons other line [] is
          ∙ ap (λ b. cond b (value_if (field_of_line line)) (value_of other (fields_of []))) none
          ∙ ap (value_of other) empty_fields ∙ value_of-none other
      | inr high ↦
          ap (λ t. value_of other (fields_of t)) (take-append-le n line (10 ∷ []) high)
          ∙ value_of-alone other (take n line) (All-take (λ byte. eqb byte 10 ≡ false) n line is)
          ∙ ap (λ b. cond b (value_if (field_of_line (take n line))) None) (front_has_no_key other line n none)
    ])
