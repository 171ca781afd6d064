-- One line of a text after another: what was searched, and what was changed.
use Rattle.std.proofs.Common.{◌≡◌, ◌≢◌, ℕ, ◌+◌, ◌-◌, ◌<◌, ◌≤◌, false, cond, List, [], ◌∷◌, ◌++◌, length, take, drop, sym, ap, ◌∙◌, arith, append_assoc, inl, inr, Some, None}
use Rattle.std.specs.Prelude.{slice_range}
use Rattle.std.proofs.lemmas.List.{append-nil, length-take-le, length-append, length-drop, take_at, take-append-drop, take-append-le, drop-append-le}
use Rattle.std.proofs.lemmas.Bool.{cases_eq}
use Rattle.std.proofs.Math.Seq.{take-append-add, drop-append-add}
use Rattle.dada_model.specs.Fields.{field_of_line, fields_of, value_of}
use Rattle.dada_model.specs.Change.{spaces, has_key, with_value_between, with_value, overwritten}
use Rattle.dada_model.specs.FieldLaws.{value_if, GoesByLine}
use Rattle.dada_header.specs.declared.words.Place.{Place}
use Rattle.dada_header.specs.Lines.{IsLineEnd}
use Rattle.dada_header.specs.Places.{at, IsValueAt, IsFirstValueAt}

-- ---- a part of a text

pub at_within : (front line tail : List ℕ) (from : ℕ) (place : Place) → length front ≡ from →
    place.start ≤ place.end → place.end ≤ length line →
    at (record { start = from + place.start; end = from + place.end }) (front ++ (line ++ tail)) ≡ at place line
at_within front line tail from place count ordered within =
    let width : from + place.end - (from + place.start) ≡ place.end - place.start = omega arith in
    let rest : drop (from + place.start) (front ++ (line ++ tail)) ≡ drop place.start (line ++ tail) =
    rw (← count) (drop-append-add front (line ++ tail) place.start) in
    let inner : drop place.start (line ++ tail) ≡ drop place.start line ++ tail =
    drop-append-le place.start line tail (omega arith) in
    let left = length-drop place.start line in
    let short : place.end - place.start ≤ length (drop place.start line) = omega arith in
    ap (λ n. take n (drop (from + place.start) (front ++ (line ++ tail)))) width
    ∙ ap (take (place.end - place.start)) (rest ∙ inner)
    ∙ take-append-le (place.end - place.start) (drop place.start line) tail short

pub with_value-within : (front line tail value : List ℕ) (from start end : ℕ) → length front ≡ from → start ≤ end →
    end ≤ length line →
    with_value_between (from + start) (from + end) value (front ++ (line ++ tail)) ≡ front ++
    (with_value_between start end value line ++ tail)
with_value-within front line tail value from start end count ordered within =
    let first : take (from + start) (front ++ (line ++ tail)) ≡ front ++ take start line =
    (rw (← count) (take-append-add front (line ++ tail) start))
    ∙ ap (λ t. front ++ t) (take-append-le start line tail (omega arith)) in
    let last : drop (from + end) (front ++ (line ++ tail)) ≡ drop end line ++ tail =
    (rw (← count) (drop-append-add front (line ++ tail) end)) ∙ drop-append-le end line tail within in
    let width : from + end - (from + start) - length value ≡ end - start - length value = omega arith in
    let pad = spaces (end - start - length value) in
    rw (first, last, width) (
    append_assoc front (take start line) (value ++ (pad ++ (drop end line ++ tail)))
    ∙ ap (λ t. front ++ t) (
    ap (λ t. take start line ++ t) (ap (λ t. value ++ t) (sym (append_assoc pad (drop end line) tail))
    ∙ sym (append_assoc value (pad ++ drop end line) tail))
    ∙ sym (append_assoc (take start line) (value ++ (pad ++ drop end line)) tail)))

-- ---- the search for the first value

-- the lines before a place are no fields with the key
pub record IsSearched (key text : List ℕ) (from : ℕ) : Type 0 where
  pub within : from ≤ length text
  pub value : value_of key (fields_of text) ≡ value_of key (fields_of (drop from text))
  pub other : (value : List ℕ) → overwritten key value text ≡ take from text ++ overwritten key value (drop from text)

-- the line and what follows it
pub line_and_rest : (text : List ℕ) (from end : ℕ) → IsLineEnd text from end → end ≢ length text →
    drop from text ≡ slice_range text from end ++ (10 ∷ drop (end + 1) text)
line_and_rest text from end h short = let within : end ≤ length text = h.within in h.rest (omega arith)

pub front_of_line : (text : List ℕ) (from end : ℕ) → IsLineEnd text from end → end ≢ length text →
    take (end + 1) text ≡ take from text ++ (slice_range text from end ++ (10 ∷ []))
front_of_line text from end h short =
    let line = slice_range text from end in
    let more = drop (end + 1) text in
    let ordered : from ≤ end = h.ordered in
    let within : end ≤ length text = h.within in
    let count = length-take-le from text (omega arith) in
    let left = length-drop from text in
    let width : length line ≡ end - from = length-take-le (end - from) (drop from text) (omega arith) in
    let whole : text ≡ (take from text ++ (line ++ (10 ∷ []))) ++ more =
    sym (take-append-drop from text) ∙ ap (λ t. take from text ++ t) (line_and_rest text from end h short
    ∙ sym (append_assoc line (10 ∷ []) more)) ∙ sym (append_assoc (take from text) (line ++ (10 ∷ [])) more) in
    let counts = length-append (take from text) (line ++ (10 ∷ [])) in
    let counts_line = length-append line (10 ∷ []) in
    let size : length (take from text ++ (line ++ (10 ∷ []))) ≡ end + 1 = omega arith in
    ap (take (end + 1)) whole ∙ take_at (take from text ++ (line ++ (10 ∷ []))) more (end + 1) size

pub searched_more : (key text : List ℕ) (from end : ℕ) → IsSearched key text from → IsLineEnd text from end →
    end ≢ length text →
    GoesByLine key (slice_range text from end) → has_key key (slice_range text from end) ≡ false →
    IsSearched key text (end + 1)
searched_more key text from end s h short law without =
    let line = slice_range text from end in
    let more = drop (end + 1) text in
    let rest = line_and_rest text from end h short in
    let within : end ≤ length text = h.within in
    record {
      within = omega arith;
      value = s.value ∙ ap (λ t. value_of key (fields_of t)) rest ∙ law.value more
          ∙ ap (λ b. cond b (value_if (field_of_line line)) (value_of key (fields_of more))) without;
      other = λ value.
          s.other value ∙ ap (λ t. take from text ++ overwritten key value t) rest
          ∙ ap (λ t. take from text ++ t) (law.overwritten value more
          ∙ ap (λ b. cond b (with_value value line ++ (10 ∷ more)) (line ++
          (10 ∷ overwritten key value more))) without ∙ sym (append_assoc line (10 ∷ [])
          (overwritten key value more)))
          ∙ sym (append_assoc (take from text) (line ++ (10 ∷ [])) (overwritten key value more))
          ∙ ap (λ t. t ++ overwritten key value more) (sym (front_of_line text from end h short));
    }

-- the text is what stands before the line, the line and what stands after it
parts_of : (text : List ℕ) (from end : ℕ) (tail : List ℕ) → drop from text ≡ slice_range text from end ++ tail →
    text ≡ take from text ++ (slice_range text from end ++ tail)
parts_of text from end tail e = sym (take-append-drop from text) ∙ ap (λ t. take from text ++ t) e

found_in : (key text tail : List ℕ) (from end : ℕ) (place : Place) → IsSearched key text from →
    IsLineEnd text from end → IsValueAt key (slice_range text from end) place →
    drop from text ≡ slice_range text from end ++ tail →
    value_of key (fields_of (drop from text)) ≡ value_if (field_of_line (slice_range text from end)) →
    ((value : List ℕ) → overwritten key value (drop from text) ≡ with_value value (slice_range text from end) ++ tail) →
    IsFirstValueAt key text (record { start = from + place.start; end = from + place.end })
found_in key text tail from end place s h v rest value other =
    let line = slice_range text from end in
    let front = take from text in
    let ordered : from ≤ end = h.ordered in
    let within : end ≤ length text = h.within in
    let some : place.start < place.end = v.some in
    let inside : place.end ≤ length line = v.within in
    let count = length-take-le from text (omega arith) in
    let left = length-drop from text in
    let width : length line ≡ end - from = length-take-le (end - from) (drop from text) (omega arith) in
    let whole = parts_of text from end tail rest in
    let field = v.value in
    record {
      value = s.value ∙ value ∙ ap value_if field.1 ∙ ap Some (sym (ap (at (record {
        start =
            from + place.start;
        end = from + place.end;
      })) whole
          ∙ at_within front line tail from place count (omega arith) inside));
      other = λ new.
          s.other new ∙ ap (λ t. front ++ t) (other new ∙ ap (λ t. t ++ tail) (v.other new))
          ∙ sym (ap (with_value_between (from + place.start) (from + place.end) new) whole
          ∙ with_value-within front line tail new from place.start place.end count (omega arith) inside);
      some = omega arith;
      within = omega arith;
    }

pub found_before : (key text : List ℕ) (from end : ℕ) (place : Place) → IsSearched key text from →
    IsLineEnd text from end → IsValueAt key (slice_range text from end) place →
    end ≢ length text → GoesByLine key (slice_range text from end) →
    IsFirstValueAt key text (record { start = from + place.start; end = from + place.end })
found_before key text from end place s h v short law =
    let line = slice_range text from end in
    let more = drop (end + 1) text in
    let rest = line_and_rest text from end h short in
    found_in key text (10 ∷ more) from end place s h v rest
    (ap (λ t. value_of key (fields_of t)) rest ∙ law.value more
    ∙ ap (λ b. cond b (value_if (field_of_line line)) (value_of key (fields_of more))) v.has_key)
    (λ new. ap (overwritten key new) rest ∙ law.overwritten new more
    ∙ ap (λ b. cond b (with_value new line ++ (10 ∷ more)) (line ++ (10 ∷ overwritten key new more))) v.has_key)

pub found_last : (key text : List ℕ) (from end : ℕ) (place : Place) → IsSearched key text from →
    IsLineEnd text from end → IsValueAt key (slice_range text from end) place →
    end ≡ length text → GoesByLine key (slice_range text from end) →
    IsFirstValueAt key text (record { start = from + place.start; end = from + place.end })
found_last key text from end place s h v whole law =
    let line = slice_range text from end in
    let rest = h.last whole in
    found_in key text [] from end place s h v (rest ∙ sym (append-nil line))
    (ap (λ t. value_of key (fields_of t)) rest ∙ law.value_alone
    ∙ ap (λ b. cond b (value_if (field_of_line line)) None) v.has_key)
    (λ new. ap (overwritten key new) rest ∙ law.overwritten_alone new
    ∙ ap (λ b. cond b (with_value new line) line) v.has_key ∙ sym (append-nil (with_value new line)))

pub found : (key text : List ℕ) (from end : ℕ) (place : Place) → IsSearched key text from →
    IsLineEnd text from end → IsValueAt key (slice_range text from end) place →
    GoesByLine key (slice_range text from end) → IsFirstValueAt key text (record {
      start = from + place.start;
      end =
          from + place.end;
    })
found key text from end place s h v law =
    elim (cases_eq end (length text)) as (λ _. IsFirstValueAt key text (record {
      start = from + place.start;
      end =
          from + place.end;
    })) [
      | inl whole ↦ found_last key text from end place s h v whole law
      | inr short ↦ found_before key text from end place s h v short law
    ]
