-- The fields of a text, line by line.
use Rattle.std.proofs.Common.{◌≡◌, ℕ, Bool, true, false, cond, eqb, List, [], ◌∷◌, ◌++◌, refl, sym, ap, ◌∙◌, Option, Some, None}
use Rattle.std.specs.Prelude.{bytes_eq, filter_map, find, option_map}
use Rattle.std.specs.List.{onto_first, cons_option, join_with_byte}
use Rattle.std.proofs.lemmas.List.Splits.{slice_split_at, slice_split_none, join_with_byte-slice_split}
use Rattle.dada_model.specs.Fields.{Field, lines_of, field_of_line, fields_of, value_of}
use Rattle.dada_model.specs.Change.{has_keyword, has_key, with_value, blanked_line, with_first_value, overwritten, without_key, blanked}
use Rattle.dada_model.specs.FieldLaws.{value_if, IsLine, GoesByLine}

-- ---- the lines of a text

abbrev pub IsSomeList : List (List ℕ) → Type 0
IsSomeList [] = ⊥
IsSomeList (line ∷ lines) = Unit {0}

some_onto : (x : ℕ) (lines : List (List ℕ)) → IsSomeList (onto_first x lines)
some_onto x [] = tt
some_onto x (line ∷ lines) = tt

some_cond : (b : Bool) (xs ys : List (List ℕ)) → IsSomeList xs → IsSomeList ys → IsSomeList (cond b xs ys)
some_cond true xs ys h k = h
some_cond false xs ys h k = k

pub some_lines : (text : List ℕ) → IsSomeList (lines_of text)
some_lines [] = tt
some_lines (x ∷ text) = some_cond (eqb x 10) ([] ∷ lines_of text) (onto_first x (lines_of text)) tt (some_onto x
    (lines_of text))

pub lines_of-alone : (line : List ℕ) → IsLine line → lines_of line ≡ line ∷ []
lines_of-alone line is = slice_split_none (λ byte. eqb byte 10) line is

pub lines_of-cons : (line more : List ℕ) → IsLine line → lines_of (line ++ (10 ∷ more)) ≡ line ∷ lines_of more
lines_of-cons line more is = slice_split_at (λ byte. eqb byte 10) line 10 more is refl

pub joined-lines : (text : List ℕ) → join_with_byte 10 (lines_of text) ≡ text
joined-lines text = join_with_byte-slice_split 10 text

pub joined-cons : (line : List ℕ) (lines : List (List ℕ)) → IsSomeList lines →
    join_with_byte 10 (line ∷ lines) ≡ line ++ (10 ∷ join_with_byte 10 lines)
joined-cons line [] some = absurd some
joined-cons line (next ∷ lines) some = refl

-- ---- values

value_cond : (found : Bool) (field : Field) (others : Option Field) →
    option_map (λ (f : Field). f.value) (cond found (Some field) others) ≡ cond found (Some field.value) (option_map
    (λ (f : Field). f.value) others)
value_cond true field others = refl
value_cond false field others = refl

pub value_of-onto : (key : List ℕ) (field : Option Field) (fields : List Field) →
    value_of key (cons_option field fields) ≡ cond (has_keyword key field) (value_if field) (value_of key fields)
unfolding value_of
value_of-onto key None fields = refl
value_of-onto key (Some field) fields = value_cond (bytes_eq field.keyword key) field (find
    (λ f. bytes_eq f.keyword key) fields)

pub value_of-none : (key : List ℕ) → value_of key [] ≡ None
unfolding value_of
value_of-none key = refl

pub fields_of-lines : (text : List ℕ) (lines : List (List ℕ)) → lines_of text ≡ lines →
    fields_of text ≡ filter_map field_of_line lines
unfolding fields_of
fields_of-lines text lines e = ap (filter_map field_of_line) e

-- the value of a key among lines
pub value_among : List ℕ → List (List ℕ) → Option (List ℕ)
value_among key lines = value_of key (filter_map field_of_line lines)

pub value_among-cons : (key line : List ℕ) (lines : List (List ℕ)) →
    value_among key (line ∷ lines) ≡ cond (has_key key line) (value_if (field_of_line line)) (value_among key lines)
unfolding value_among has_key
value_among-cons key line lines = value_of-onto key (field_of_line line) (filter_map field_of_line lines)

pub value_among-none : (key : List ℕ) → value_among key [] ≡ None
unfolding value_among
value_among-none key = value_of-none key

pub value_of-lines : (key text : List ℕ) (lines : List (List ℕ)) → lines_of text ≡ lines →
    value_of key (fields_of text) ≡ value_among key lines
unfolding value_among
value_of-lines key text lines e = ap (value_of key) (fields_of-lines text lines e)

-- ---- changes

pub some_with_first : (key value : List ℕ) (lines : List (List ℕ)) → IsSomeList lines →
    IsSomeList (with_first_value key value lines)
some_with_first key value [] some = absurd some
some_with_first key value (line ∷ lines) some = some_cond (has_key key line) (with_value value line ∷ lines)
    (line ∷ with_first_value key value lines) tt tt

pub some_without : (key : List ℕ) (lines : List (List ℕ)) → IsSomeList lines → IsSomeList (without_key key lines)
some_without key [] some = absurd some
some_without key (line ∷ lines) some = tt

joined_cond-alone : (b : Bool) (x y : List ℕ) → join_with_byte 10 (cond b (x ∷ []) (y ∷ [])) ≡ cond b x y
joined_cond-alone true x y = refl
joined_cond-alone false x y = refl

joined_cond : (b : Bool) (x y : List ℕ) (xs ys : List (List ℕ)) → IsSomeList xs → IsSomeList ys →
    join_with_byte 10 (cond b (x ∷ xs) (y ∷ ys)) ≡ cond b (x ++ (10 ∷ join_with_byte 10 xs)) (y ++
    (10 ∷ join_with_byte 10 ys))
joined_cond true x y xs ys some_x some_y = joined-cons x xs some_x
joined_cond false x y xs ys some_x some_y = joined-cons y ys some_y

pub overwritten-alone : (key value line : List ℕ) → IsLine line →
    overwritten key value line ≡ cond (has_key key line) (with_value value line) line
unfolding overwritten
overwritten-alone key value line is =
    ap (λ ls. join_with_byte 10 (with_first_value key value ls)) (lines_of-alone line is)
    ∙ joined_cond-alone (has_key key line) (with_value value line) line

pub overwritten-cons : (key value line more : List ℕ) → IsLine line →
    overwritten key value (line ++ (10 ∷ more)) ≡ cond (has_key key line) (with_value value line ++ (10 ∷ more))
    (line ++ (10 ∷ overwritten key value more))
unfolding overwritten
overwritten-cons key value line more is =
    ap (λ ls. join_with_byte 10 (with_first_value key value ls)) (lines_of-cons line more is)
    ∙ joined_cond (has_key key line) (with_value value line) line (lines_of more) (with_first_value key value
    (lines_of more)) (some_lines more) (some_with_first key value (lines_of more) (some_lines more))
    ∙ ap (λ t. cond (has_key key line) (with_value value line ++ (10 ∷ t)) (line ++ (10 ∷ join_with_byte 10
    (with_first_value key value (lines_of more))))) (joined-lines more)

pub blanked-alone : (key line : List ℕ) → IsLine line → blanked key line ≡ cond (has_key key line)
    (blanked_line line) line
unfolding blanked
blanked-alone key line is = ap (λ ls. join_with_byte 10 (without_key key ls)) (lines_of-alone line is)

pub blanked-cons : (key line more : List ℕ) → IsLine line → blanked key (line ++ (10 ∷ more)) ≡ cond
    (has_key key line) (blanked_line line) line ++ (10 ∷ blanked key more)
unfolding blanked
blanked-cons key line more is =
    ap (λ ls. join_with_byte 10 (without_key key ls)) (lines_of-cons line more is)
    ∙ joined-cons (cond (has_key key line) (blanked_line line) line) (without_key key (lines_of more))
    (some_without key (lines_of more) (some_lines more))

pub value_of-alone : (key line : List ℕ) → IsLine line → value_of key (fields_of line) ≡ cond (has_key key line)
    (value_if (field_of_line line)) None
value_of-alone key line is = value_of-lines key line (line ∷ []) (lines_of-alone line is)
    ∙ value_among-cons key line [] ∙ ap (cond (has_key key line) (value_if (field_of_line line)))
    (value_among-none key)

pub value_of-cons : (key line more : List ℕ) → IsLine line → value_of key (fields_of (line ++ (10 ∷ more))) ≡ cond
    (has_key key line) (value_if (field_of_line line)) (value_of key (fields_of more))
value_of-cons key line more is =
    value_of-lines key (line ++ (10 ∷ more)) (line ∷ lines_of more) (lines_of-cons line more is)
    ∙ value_among-cons key line (lines_of more)
    ∙ ap (cond (has_key key line) (value_if (field_of_line line))) (sym (value_of-lines key more (lines_of more) refl))

pub goes_by_line : (key line : List ℕ) → IsLine line → GoesByLine key line
goes_by_line key line is = record {
  value_alone = value_of-alone key line is;
  value = λ more. value_of-cons key line more is;
  overwritten_alone = λ value. overwritten-alone key value line is;
  overwritten = λ value more. overwritten-cons key value line more is;
  blanked_alone = blanked-alone key line is;
  blanked = λ more. blanked-cons key line more is;
}
