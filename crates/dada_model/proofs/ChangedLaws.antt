-- The laws of a change.
use Rattle.std.proofs.Common.{◌≡◌, ◌≢◌, ℕ, zero, suc, ◌+◌, ◌-◌, ◌<◌, ◌≤◌, ◌⊎◌, inl, inr, Bool, true, false, cond, leb, List, [], ◌∷◌, ◌++◌, length, get_or, take, refl, sym, ap, subst, ◌∙◌, arith, append_assoc, Option, Some, None}
use Rattle.std.specs.Prelude.{All, bytes_eq, codes}
use Rattle.std.specs.List.{join_with_byte}
use Rattle.std.proofs.lemmas.Bool.{cases_lt, cases_Bool, both_ways, leb-true, le-leb}
use Rattle.std.proofs.lemmas.List.{append-nil, length-append, take_all, take-append-le, get_or_append_left}
use Rattle.std.proofs.lemmas.List.Elements.{All-nil, All-cons, All-append, All-weaker}
use Rattle.std.proofs.Math.Seq.{take-append-add}
use Rattle.dada_model.specs.Fields.{lines_of, field_of_line, fields_of, value_of, HeaderText, size_of_value}
use Rattle.dada_model.specs.Change.{IsWordByte, IsWord, spaces, has_key, with_value, blanked_line, with_first_value, without_key, overwritten, blanked, line_end, field_line, has_room_for, is_overwritten, changed}
use Rattle.dada_model.specs.FieldLaws.{value_if, IsLine}
use Rattle.dada_model.specs.ChangeLaws.{IsInField, StaysInPlace, IsReadBack}
use Rattle.dada_model.proofs.Lines.{IsSomeList, some_lines, joined-lines, value_among, value_among-cons, value_among-none, value_of-lines, some_with_first, some_without, overwritten-cons}
use Rattle.dada_model.proofs.FieldLines.{IsFieldLine, field_from_parts, parts_of_field, with_value_is, field_with_new, blank_has_no_key, All-with_value, All-blanked_line}
use Rattle.dada_model.proofs.ChangeLines.{AllLines, all_lines, lines_are_lines, all_joined, lines_of-joined, field_of_key, has_key-field, bytes_eq-same}
use Rattle.dada_model.proofs.ChangeTexts.{AreChangedLines, without_changes, first_changes, same_lengths, cut_values, bytes_stay, is_ended, line_not_ended, ended_after, same_end}
use Rattle.dada_model.proofs.Changed.{fields_of-append, fields_of-append_ended, value_of-skip, value_of-before, new_line, field_line_is, new_field, new_is_line, new_has_key, new_value, new_has_no_other}
use Rattle.dada_model.proofs.Headers.{IsTextByte, text_size, read_back, kept_from_read_back}

-- ---- the two ways to change a text

room_for : (value : List ℕ) (found : Option (List ℕ)) → has_room_for value found ≡ true →
    (old : List ℕ) × (found ≡ Some old) × (length value ≤ length old)
room_for value None e = (cc)
room_for value (Some old) e = (old, refl, leb-true (length value) (length old) e)

old_value : (key value text : List ℕ) → is_overwritten key value text ≡ true →
    (old : List ℕ) × (value_of key (fields_of text) ≡ Some old) × (length value ≤ length old)
unfolding is_overwritten
old_value key value text e = room_for value (value_of key (fields_of text)) e

overwritten_changes : (key value text : List ℕ) → IsWord value → is_overwritten key value text ≡ true →
    AreChangedLines key (lines_of text) (with_first_value key value (lines_of text))
overwritten_changes key value text word e =
    let old = old_value key value text e in
    first_changes key value old.0 (lines_of text) (lines_are_lines text) word old.2 (sym (value_of-lines key text
    (lines_of text) refl) ∙ old.1)

blanked_changes : (key text : List ℕ) → AreChangedLines key (lines_of text) (without_key key (lines_of text))
blanked_changes key text = without_changes key (lines_of text) (lines_are_lines text)

news_are_lines : (key : List ℕ) (lines news : List (List ℕ)) → AreChangedLines key lines news → AllLines IsLine news
news_are_lines key [] [] h = tt
news_are_lines key [] (new ∷ news) h = absurd h
news_are_lines key (line ∷ lines) [] h = absurd h
news_are_lines key (line ∷ lines) (new ∷ news) h = (h.0.new_line, news_are_lines key lines news h.1)

line_end_is : (text : List ℕ) → line_end text ≡ cond (is_ended text) [] (10 ∷ [])
unfolding line_end is_ended
line_end_is text = refl

-- what is appended to the blank text
abbrev tail_of : List ℕ → List ℕ → Bool → List ℕ
tail_of key value ended = cond ended [] (10 ∷ []) ++ field_line key value

changed_true : (key value text : List ℕ) → is_overwritten key value text ≡ true →
    changed key value text ≡ join_with_byte 10 (with_first_value key value (lines_of text))
unfolding changed overwritten
changed_true key value text e = ap (λ b. cond b (overwritten key value text) (blanked key text ++
    (line_end text ++ field_line key value))) e

blanked_end : (key text : List ℕ) → is_ended (join_with_byte 10 (without_key key (lines_of text))) ≡ is_ended text
blanked_end key text = same_end key (lines_of text) (without_key key (lines_of text)) (blanked_changes key text)
    ∙ ap is_ended (joined-lines text)

changed_false : (key value text : List ℕ) → is_overwritten key value text ≡ false →
    let front = join_with_byte 10 (without_key key
    (lines_of text)) in changed key value text ≡ front ++ tail_of key value (is_ended front)
unfolding changed blanked
changed_false key value text e =
    let front = join_with_byte 10 (without_key key (lines_of text)) in
    ap (λ b. cond b (overwritten key value text) (front ++ (line_end text ++ field_line key value))) e
    ∙ ap (λ t. front ++ (t ++ field_line key value)) (line_end_is text
    ∙ ap (λ b. cond b [] (10 ∷ [])) (sym (blanked_end key text)))

blanked_length : (key text : List ℕ) → length (join_with_byte 10 (without_key key (lines_of text))) ≡ length text
blanked_length key text = same_lengths key (lines_of text) (without_key key (lines_of text))
    (blanked_changes key text) ∙ ap length (joined-lines text)

pub blank_length : (key text : List ℕ) → length (blanked key text) ≡ length text
unfolding blanked
blank_length key text = blanked_length key text

some_blanked : (key text : List ℕ) → IsSomeList (without_key key (lines_of text))
some_blanked key text = some_without key (lines_of text) (some_lines text)

blanked_are_lines : (key text : List ℕ) → AllLines IsLine (without_key key (lines_of text))
blanked_are_lines key text = news_are_lines key (lines_of text) (without_key key (lines_of text))
    (blanked_changes key text)

-- ---- the key has the value

first_gives_on : (b : Bool) (key new old line : List ℕ) (lines : List (List ℕ)) → has_key key line ≡ b → IsWord new →
    cond b (value_if (field_of_line line)) (value_among key lines) ≡ Some old →
    (value_among key lines ≡ Some old → value_among key (with_first_value key new lines) ≡ Some new) →
    value_among key (cond b (with_value new line ∷ lines) (line ∷ with_first_value key new lines)) ≡ Some new
first_gives_on true key new old line lines e word found later =
    let field = field_of_key key line e in
    let after = field_from_parts (with_value new line) field.0.keyword new
    (field_with_new line field.0.keyword field.0.value new (parts_of_field line field.0 field.1) word) in
    let named : has_key key (with_value new line) ≡ true = has_key-field key
    (with_value new line) field.0.keyword new after ∙ ap (λ k. bytes_eq k key) field.2 ∙ bytes_eq-same key in
    value_among-cons key (with_value new line) lines ∙ ap (λ b. cond b (value_if (field_of_line
    (with_value new line))) (value_among key lines)) named ∙ ap value_if after
first_gives_on false key new old line lines e word found later =
    value_among-cons key line (with_first_value key new lines)
    ∙ ap (λ b. cond b (value_if (field_of_line line)) (value_among key (with_first_value key new lines))) e
    ∙ later found

first_gives : (key new old : List ℕ) (lines : List (List ℕ)) → IsWord new → value_among key lines ≡ Some old →
    value_among key (with_first_value key new lines) ≡ Some new
first_gives key new old [] word found = let none = sym (value_among-none key) ∙ found in (cc)
first_gives key new old (line ∷ lines) word found =
    first_gives_on (has_key key line) key new old line lines refl word (sym (value_among-cons key line lines)
    ∙ found) (λ e. first_gives key new old lines word e)

blank_on : (b : Bool) (key line : List ℕ) → has_key key line ≡ b → has_key key (cond b (blanked_line line) line) ≡ false
blank_on true key line e = blank_has_no_key key line
blank_on false key line e = e

blank_gives_none : (key : List ℕ) (lines : List (List ℕ)) → value_among key (without_key key lines) ≡ None
blank_gives_none key [] = value_among-none key
blank_gives_none key (line ∷ lines) =
    let new = cond (has_key key line) (blanked_line line) line in
    value_among-cons key new (without_key key lines)
    ∙ ap (λ b. cond b (value_if (field_of_line new)) (value_among key (without_key key lines))) (blank_on
    (has_key key line) key line refl)
    ∙ blank_gives_none key lines

blanked_has_none : (key text : List ℕ) → value_of key (fields_of (join_with_byte 10 (without_key key
    (lines_of text)))) ≡ None
blanked_has_none key text =
    let lines = without_key key (lines_of text) in
    value_of-lines key (join_with_byte 10 lines) lines (lines_of-joined lines (some_blanked key text)
    (blanked_are_lines key text)) ∙ blank_gives_none key (lines_of text)

-- the fields of a text and of what is appended to it
fields_of-tail : (lines : List (List ℕ)) (tail : List ℕ) (b : Bool) → is_ended (join_with_byte 10 lines) ≡ b →
    IsSomeList lines → AllLines IsLine lines →
    fields_of (join_with_byte 10 lines ++ (cond b [] (10 ∷ []) ++ tail)) ≡ fields_of
    (join_with_byte 10 lines) ++ fields_of tail
fields_of-tail lines tail true e some all = fields_of-append_ended lines tail some all e
fields_of-tail lines tail false e some all = fields_of-append lines tail some all

gives_on : (b : Bool) (key value text : List ℕ) → is_overwritten key value text ≡ b → IsWord key → IsWord value →
    value_of key (fields_of (changed key value text)) ≡ Some value
gives_on true key value text e k v =
    let news = with_first_value key value (lines_of text) in
    let old = old_value key value text e in
    let some = some_with_first key value (lines_of text) (some_lines text) in
    let all = news_are_lines key (lines_of text) news (overwritten_changes key value text v e) in
    ap (λ t. value_of key (fields_of t)) (changed_true key value text e)
    ∙ value_of-lines key (join_with_byte 10 news) news (lines_of-joined news some all)
    ∙ first_gives key value old.0 (lines_of text) v (sym (value_of-lines key text (lines_of text) refl) ∙ old.1)
gives_on false key value text e k v =
    let lines = without_key key (lines_of text) in
    let front = join_with_byte 10 lines in
    ap (λ t. value_of key (fields_of t)) (changed_false key value text e)
    ∙ ap (value_of key) (fields_of-tail lines (field_line key value) (is_ended front) refl (some_blanked key text)
    (blanked_are_lines key text))
    ∙ value_of-skip key (fields_of front) (fields_of (field_line key value)) (blanked_has_none key text)
    ∙ new_value key value k v

pub gives_value : (key value text : List ℕ) → IsWord key → IsWord value →
    value_of key (fields_of (changed key value text)) ≡ Some value
gives_value key value text k v = gives_on (is_overwritten key value text) key value text refl k v

-- ---- every other key has the value that it had

tail_without : (lines : List (List ℕ)) (tail other : List ℕ) (m : ℕ) (b : Bool) →
    is_ended (join_with_byte 10 lines) ≡ b → IsSomeList lines → AllLines IsLine lines →
    ((k : ℕ) → value_of other (fields_of (take k tail)) ≡ None) →
    value_of other (fields_of (join_with_byte 10 lines ++ take m (cond b [] (10 ∷ []) ++ tail))) ≡ value_of other
    (fields_of (join_with_byte 10 lines))
tail_without lines tail other m true e some all none =
    ap (value_of other) (fields_of-append_ended lines (take m tail) some all e)
    ∙ value_of-before other (fields_of (join_with_byte 10 lines)) (fields_of (take m tail)) (none m)
tail_without lines tail other zero false e some all none = ap (λ t. value_of other (fields_of t)) (append-nil
    (join_with_byte 10 lines))
tail_without lines tail other (suc m) false e some all none =
    ap (value_of other) (fields_of-append lines (take m tail) some all)
    ∙ value_of-before other (fields_of (join_with_byte 10 lines)) (fields_of (take m tail)) (none m)

above : (n m : ℕ) → m ≤ n → (k : ℕ) × (n ≡ m + k)
above n m low = (n - m, omega arith)

keeps_on : (b : Bool) (key value text other : List ℕ) (n : ℕ) → is_overwritten key value text ≡ b → IsWord key →
    IsWord value → other ≢ key →
    value_of other (fields_of (take n (changed key value text))) ≡ value_of other (fields_of (take n text))
keeps_on true key value text other n e k v apart =
    let news = with_first_value key value (lines_of text) in
    ap (λ t. value_of other (fields_of (take n t))) (changed_true key value text e)
    ∙ cut_values key other (lines_of text) news n (some_lines text) (overwritten_changes key value text v e) apart
    ∙ ap (λ t. value_of other (fields_of (take n t))) (joined-lines text)
keeps_on false key value text other n e k v apart =
    let lines = without_key key (lines_of text) in
    let front = join_with_byte 10 lines in
    let count = blanked_length key text in
    let cut = λ (i : ℕ). cut_values key other (lines_of text) lines i (some_lines text)
    (blanked_changes key text) apart ∙ ap (λ t. value_of other (fields_of (take i t))) (joined-lines text) in
    ap (λ t. value_of other (fields_of (take n t))) (changed_false key value text e)
    ∙ (elim (cases_lt n (length front)) as (λ _. value_of other (fields_of (take n (front ++ tail_of key value
    (is_ended front)))) ≡ value_of other (fields_of (take n text))) [
      | inl low ↦ ap (λ t. value_of other (fields_of t)) (take-append-le n front (tail_of key value
          (is_ended front)) (omega arith)) ∙ cut n
      | inr high ↦
          let m = above n (length front) high in
          let whole_front : take (length front) front ≡ front = take_all (length front) front (omega arith) in
          let whole_n : take n text ≡ text = take_all n text (omega arith) in
          let whole_text : take (length front) text ≡ text = take_all (length front) text (omega arith) in
          ap (λ i. value_of other (fields_of (take i (front ++ tail_of key value (is_ended front))))) m.1
          ∙ ap (λ t. value_of other (fields_of t)) (take-append-add front (tail_of key value (is_ended front)) m.0)
          ∙ tail_without lines (field_line key value) other m.0 (is_ended front) refl (some_blanked key text)
          (blanked_are_lines key text) (λ i. new_has_no_other key value other i k v apart)
          ∙ ap (λ t. value_of other (fields_of t)) (sym whole_front) ∙ cut (length front)
          ∙ ap (λ t. value_of other (fields_of t)) (whole_text ∙ sym whole_n)
    ])

pub keeps_others : (key value text other : List ℕ) (n : ℕ) → IsWord key → IsWord value → other ≢ key →
    value_of other (fields_of (take n (changed key value text))) ≡ value_of other (fields_of (take n text))
keeps_others key value text other n k v apart = keeps_on
    (is_overwritten key value text) key value text other n refl k v apart

-- ---- bytes stay in their places

places_on : (b : Bool) (key value text : List ℕ) → is_overwritten key value text ≡ b → IsWord value →
    StaysInPlace key text (changed key value text)
places_on true key value text e v =
    let news = with_first_value key value (lines_of text) in
    let h = overwritten_changes key value text v e in
    let whole = joined-lines text in
    let is = changed_true key value text e in
    let count : length (changed key value text) ≡ length text = ap length is
    ∙ same_lengths key (lines_of text) news h ∙ ap length whole in
    record {
      no_shorter = omega arith;
      bytes = λ i low.
          let inside : i < length (join_with_byte 10 (lines_of text)) = rw whole low in
          let P : List ℕ → Type 0 = λ t. (get_or (join_with_byte 10 news) i 0 ≡ get_or t i 0) ⊎ IsInField key t i in
          let Q : List ℕ → Type 0 = λ t. (get_or t i 0 ≡ get_or text i 0) ⊎ IsInField key text i in
          subst Q (sym is) (subst P whole (bytes_stay key (lines_of text) news i h inside));
    }
places_on false key value text e v =
    let lines = without_key key (lines_of text) in
    let front = join_with_byte 10 lines in
    let tail = tail_of key value (is_ended front) in
    let h = blanked_changes key text in
    let whole = joined-lines text in
    let is = changed_false key value text e in
    let front_count = blanked_length key text in
    let count : length (changed key value text) ≡ length front + length tail = ap length is
    ∙ length-append front tail in
    record {
      no_shorter = omega arith;
      bytes = λ i low.
          let inside : i < length (join_with_byte 10 (lines_of text)) = rw whole low in
          let kept : get_or (front ++ tail) i 0 ≡ get_or front i 0 = get_or_append_left front tail 0 i (omega arith) in
          let P : List ℕ → Type 0 = λ t. (get_or front i 0 ≡ get_or t i 0) ⊎ IsInField key t i in
          let Q : ℕ → Type 0 = λ x. (x ≡ get_or text i 0) ⊎ IsInField key text i in
          let R : List ℕ → Type 0 = λ t. (get_or t i 0 ≡ get_or text i 0) ⊎ IsInField key text i in
          subst R (sym is) (subst Q (sym kept) (subst P whole (bytes_stay key (lines_of text) lines i h inside)));
    }

pub stays_in_place : (key value text : List ℕ) → IsWord key → IsWord value →
    StaysInPlace key text (changed key value text)
stays_in_place key value text k v = places_on (is_overwritten key value text) key value text refl v

-- ---- of two changes the last counts

same_room : (first last : List ℕ) (found : Option (List ℕ)) → length first ≡ length last →
    has_room_for last found ≡ has_room_for first found
same_room first last None same = refl
same_room first last (Some old) same = ap (λ n. leb n (length old)) (sym same)

same_way : (key first last text : List ℕ) → length first ≡ length last →
    is_overwritten key last text ≡ is_overwritten key first text
unfolding is_overwritten
same_way key first last text same = same_room first last (value_of key (fields_of text)) same

room_after : (key first last text : List ℕ) → IsWord key → IsWord first → length first ≡ length last →
    is_overwritten key last (changed key first text) ≡ true
unfolding is_overwritten
room_after key first last text k f same =
    ap (has_room_for last) (gives_value key first text k f) ∙ le-leb (length last) (length first) (omega arith)

no_spaces : (n m : ℕ) (t : List ℕ) → n ≡ m → spaces (n - m) ++ t ≡ t
no_spaces n m t e = let none : n - m ≡ 0 = omega arith in ap (λ k. spaces k ++ t) none

-- a value of the same width takes the place of one
value_twice : (line keyword value first last : List ℕ) → IsFieldLine line keyword value → IsWord first →
    length first ≡ length last → with_value last (with_value first line) ≡ with_value last line
unfolding field_with_new
value_twice line keyword value first last h f same =
    let after = field_with_new line keyword value first h f in
    let pad = spaces (length value - length first) ++ h.after in
    let width : length value - length first ≡ length value - length last = ap (λ n. length value - n) same in
    with_value_is (with_value first line) keyword first last after
    ∙ ap (λ t. h.lead ++ (keyword ++ (h.gap ++ (last ++ t)))) (no_spaces (length first) (length last) pad same
    ∙ ap (λ n. spaces n ++ h.after) width)
    ∙ sym (with_value_is line keyword value last h)

first_twice_on : (b : Bool) (key first last line : List ℕ) (lines : List (List ℕ)) → has_key key line ≡ b →
    IsWord first → length first ≡ length last →
    with_first_value key last (with_first_value key first lines) ≡ with_first_value key last lines →
    with_first_value key last (cond b (with_value first line ∷ lines)
    (line ∷ with_first_value key first lines)) ≡ cond b (with_value last line ∷ lines)
    (line ∷ with_first_value key last lines)
first_twice_on true key first last line lines e f same later =
    let field = field_of_key key line e in
    let h = parts_of_field line field.0 field.1 in
    let after = field_from_parts (with_value first line) field.0.keyword first
    (field_with_new line field.0.keyword field.0.value first h f) in
    let named : has_key key (with_value first line) ≡ true = has_key-field key
    (with_value first line) field.0.keyword first after ∙ ap (λ k. bytes_eq k key) field.2
    ∙ bytes_eq-same key in
    ap (λ b. cond b (with_value last (with_value first line) ∷ lines)
    (with_value first line ∷ with_first_value key last lines)) named
    ∙ ap (λ (l : List ℕ). l ∷ lines) (value_twice line field.0.keyword field.0.value first last h f same)
first_twice_on false key first last line lines e f same later =
    ap (λ b. cond b (with_value last line ∷ with_first_value key first lines) (line ∷ with_first_value key last
    (with_first_value key first lines))) e
    ∙ ap (λ (ls : List (List ℕ)). line ∷ ls) later

first_twice : (key first last : List ℕ) (lines : List (List ℕ)) → IsWord first → length first ≡ length last →
    with_first_value key last (with_first_value key first lines) ≡ with_first_value key last lines
first_twice key first last [] f same = refl
first_twice key first last (line ∷ lines) f same = first_twice_on
    (has_key key line) key first last line lines refl f same (first_twice key first last lines f same)

-- the line at the end with another value
new_twice : (key first last : List ℕ) → IsWord key → IsWord first → IsWord last → length first ≡ length last →
    overwritten key last (field_line key first) ≡ field_line key last
unfolding new_field new_line
new_twice key first last k f l same =
    let line = new_line key first in
    let h = new_field key first k f in
    let value : with_value last line ≡ new_line key last =
    with_value_is line key first last h ∙ ap (λ t. key ++ (32 ∷ (last ++ t))) (no_spaces (length first)
    (length last) [] same) ∙ (let g = new_field key last k l in sym g.line_is) in
    ap (overwritten key last) (field_line_is key first)
    ∙ overwritten-cons key last line [] (new_is_line key first k f)
    ∙ ap (λ b. cond b (with_value last line ++ (10 ∷ [])) (line ++ (10 ∷ overwritten key last [])))
    (new_has_key key first k f)
    ∙ ap (λ t. t ++ (10 ∷ [])) value
    ∙ sym (field_line_is key last)

abbrev pub NoKey : List ℕ → List (List ℕ) → Type 0
NoKey key lines = AllLines (λ line. has_key key line ≡ false) lines

no_key_left : (key : List ℕ) (lines : List (List ℕ)) → NoKey key (without_key key lines)
no_key_left key [] = tt
no_key_left key (line ∷ lines) = (blank_on (has_key key line) key line refl, no_key_left key lines)

past_feed : (key value : List ℕ) (lines : List (List ℕ)) (tail : List ℕ) → IsSomeList lines →
    AllLines IsLine lines → NoKey key lines →
    overwritten key value (join_with_byte 10 lines ++ (10 ∷ tail)) ≡ join_with_byte 10 lines ++
    (10 ∷ overwritten key value tail)
past_feed key value [] tail some all none = absurd some
past_feed key value (line ∷ []) tail some all none =
    overwritten-cons key value line tail all.0 ∙ ap (λ b. cond b (with_value value line ++ (10 ∷ tail)) (line ++
    (10 ∷ overwritten key value tail))) none.0
past_feed key value (line ∷ next ∷ lines) tail some all none =
    let rest = join_with_byte 10 (next ∷ lines) in
    ap (overwritten key value) (append_assoc line (10 ∷ rest) (10 ∷ tail))
    ∙ overwritten-cons key value line (rest ++ (10 ∷ tail)) all.0
    ∙ ap (λ b. cond b (with_value value line ++ (10 ∷ (rest ++ (10 ∷ tail)))) (line ++ (10 ∷ overwritten key value
    (rest ++ (10 ∷ tail))))) none.0
    ∙ ap (λ t. line ++ (10 ∷ t)) (past_feed key value (next ∷ lines) tail tt all.1 none.1)
    ∙ sym (append_assoc line (10 ∷ rest) (10 ∷ overwritten key value tail))

past_ended : (key value : List ℕ) (lines : List (List ℕ)) (tail : List ℕ) → IsSomeList lines →
    AllLines IsLine lines → NoKey key lines → is_ended (join_with_byte 10 lines) ≡ true →
    overwritten key value (join_with_byte 10 lines ++ tail) ≡ join_with_byte 10 lines ++ overwritten key value tail
past_ended key value [] tail some all none ended = absurd some
past_ended key value ([] ∷ []) tail some all none ended = refl
past_ended key value ((x ∷ line) ∷ []) tail some all none ended =
    absurd (both_ways (is_ended (x ∷ line)) (line_not_ended x line all.0) ended)
past_ended key value (line ∷ next ∷ lines) tail some all none ended =
    let rest = join_with_byte 10 (next ∷ lines) in
    ap (overwritten key value) (append_assoc line (10 ∷ rest) tail)
    ∙ overwritten-cons key value line (rest ++ tail) all.0
    ∙ ap (λ b. cond b (with_value value line ++ (10 ∷ (rest ++ tail))) (line ++ (10 ∷ overwritten key value
    (rest ++ tail)))) none.0
    ∙ ap (λ t. line ++ (10 ∷ t)) (past_ended key value (next ∷ lines) tail tt all.1 none.1 (sym
    (ended_after line rest) ∙ ended))
    ∙ sym (append_assoc line (10 ∷ rest) (overwritten key value tail))

past_tail : (key value : List ℕ) (lines : List (List ℕ)) (tail : List ℕ) (b : Bool) →
    is_ended (join_with_byte 10 lines) ≡ b → IsSomeList lines → AllLines IsLine lines → NoKey key lines →
    overwritten key value (join_with_byte 10 lines ++ (cond b [] (10 ∷ []) ++ tail)) ≡ join_with_byte 10 lines ++
    (cond b [] (10 ∷ []) ++ overwritten key value tail)
past_tail key value lines tail true e some all none = past_ended key value lines tail some all none e
past_tail key value lines tail false e some all none = past_feed key value lines tail some all none

changed_is_overwritten : (key value text : List ℕ) → is_overwritten key value text ≡ true →
    changed key value text ≡ overwritten key value text
unfolding changed
changed_is_overwritten key value text e = ap (λ b. cond b (overwritten key value text) (blanked key text ++
    (line_end text ++ field_line key value))) e

overwritten_joined : (key value : List ℕ) (lines : List (List ℕ)) → IsSomeList lines → AllLines IsLine lines →
    overwritten key value (join_with_byte 10 lines) ≡ join_with_byte 10 (with_first_value key value lines)
unfolding overwritten
overwritten_joined key value lines some all = ap (λ ls. join_with_byte 10 (with_first_value key value ls))
    (lines_of-joined lines some all)

twice_on : (b : Bool) (key first last text : List ℕ) → is_overwritten key first text ≡ b → IsWord key →
    IsWord first → IsWord last → length first ≡ length last →
    changed key last (changed key first text) ≡ changed key last text
twice_on true key first last text e k f l same =
    let news = with_first_value key first (lines_of text) in
    let some = some_with_first key first (lines_of text) (some_lines text) in
    let all = news_are_lines key (lines_of text) news (overwritten_changes key first text f e) in
    changed_is_overwritten key last (changed key first text) (room_after key first last text k f same)
    ∙ ap (overwritten key last) (changed_true key first text e)
    ∙ overwritten_joined key last news some all
    ∙ ap (join_with_byte 10) (first_twice key first last (lines_of text) f same)
    ∙ sym (changed_true key last text (same_way key first last text same ∙ e))
twice_on false key first last text e k f l same =
    let lines = without_key key (lines_of text) in
    let front = join_with_byte 10 lines in
    changed_is_overwritten key last (changed key first text) (room_after key first last text k f same)
    ∙ ap (overwritten key last) (changed_false key first text e)
    ∙ past_tail key last lines (field_line key first) (is_ended front) refl (some_blanked key text)
    (blanked_are_lines key text) (no_key_left key (lines_of text))
    ∙ ap (λ t. front ++ (cond (is_ended front) [] (10 ∷ []) ++ t)) (new_twice key first last k f l same)
    ∙ sym (changed_false key last text (same_way key first last text same ∙ e))

pub last_counts : (key first last text : List ℕ) → IsWord key → IsWord first → IsWord last →
    length first ≡ length last → changed key last (changed key first text) ≡ changed key last text
last_counts key first last text k f l same = twice_on
    (is_overwritten key first text) key first last text refl k f l same

-- ---- a changed header is read back

word_text : (byte : ℕ) → IsWordByte byte → IsTextByte byte
word_text byte h = (omega arith, omega arith)

texts_on : (b : Bool) (line new : List ℕ) → All IsTextByte line → All IsTextByte new → All IsTextByte (cond b new line)
texts_on true line new old_text new_text = new_text
texts_on false line new old_text new_text = old_text

blanked_text : (key : List ℕ) (lines : List (List ℕ)) → AllLines (All IsTextByte) lines →
    AllLines (All IsTextByte) (without_key key lines)
blanked_text key [] all = tt
blanked_text key (line ∷ lines) all = (
  texts_on (has_key key line) line (blanked_line line) all.0 (All-blanked_line IsTextByte line (
    omega arith,
    omega arith,
  ) all.0),
  blanked_text key lines all.1,
)

first_text_on : (b : Bool) (line new : List ℕ) (lines news : List (List ℕ)) → All IsTextByte line →
    All IsTextByte new → AllLines (All IsTextByte) lines → AllLines (All IsTextByte) news →
    AllLines (All IsTextByte) (cond b (new ∷ lines) (line ∷ news))
first_text_on true line new lines news old_text new_text all all_news = (new_text, all)
first_text_on false line new lines news old_text new_text all all_news = (old_text, all_news)

first_text : (key value : List ℕ) (lines : List (List ℕ)) → All IsTextByte value → AllLines (All IsTextByte) lines →
    AllLines (All IsTextByte) (with_first_value key value lines)
first_text key value [] v all = tt
first_text key value (line ∷ lines) v all =
    first_text_on (has_key key line) line (with_value value line) lines (with_first_value key value lines) all.0
    (All-with_value IsTextByte value line (omega arith, omega arith) v all.0) all.1
    (first_text key value lines v all.1)

end_text : (b : Bool) → All IsTextByte (cond b [] (10 ∷ []))
end_text true = All-nil IsTextByte
end_text false = All-cons IsTextByte 10 [] (omega arith, omega arith) (All-nil IsTextByte)

changed_text : (key value text : List ℕ) → IsWord key → IsWord value → All IsTextByte text →
    All IsTextByte (changed key value text)
changed_text key value text k v h =
    let lines = all_lines IsTextByte text (λ i d low other. h i d low) in
    let value_text = All-weaker IsWordByte IsTextByte word_text value v.bytes in
    let key_text = All-weaker IsWordByte IsTextByte word_text key k.bytes in
    let feed : IsTextByte 10 = (omega arith, omega arith) in
    let front = join_with_byte 10 (without_key key (lines_of text)) in
    let line : All IsTextByte (field_line key value) =
    All-append IsTextByte key (32 ∷ (value ++ 10 ∷ [])) key_text (All-cons IsTextByte 32 (value ++ 10 ∷ [])
    (omega arith, omega arith) (All-append IsTextByte value (10 ∷ []) value_text (end_text false))) in
    let P : List ℕ → Type 0 = λ t. All IsTextByte t in
    elim (cases_Bool (is_overwritten key value text)) as (λ _. All IsTextByte (changed key value text)) [
      | inl over ↦ subst P (sym (changed_true key value text over)) (all_joined IsTextByte
          (with_first_value key value (lines_of text)) feed (first_text key value (lines_of text) value_text lines))
      | inr append ↦ subst P (sym (changed_false key value text append))
          (All-append IsTextByte front (tail_of key value (is_ended front)) (all_joined IsTextByte (without_key key
          (lines_of text)) feed (blanked_text key (lines_of text) lines))
          (All-append IsTextByte (cond (is_ended front) [] (10 ∷ [])) (field_line key value) (end_text
          (is_ended front)) line))
    ]

pub changed_read_back : (key value : List ℕ) (header : HeaderText) → IsWord key → IsWord value →
    key ≢ codes "HDR_SIZE" →
    length (changed key value header.text) < header.size → IsReadBack header →
    IsReadBack (record { size = header.size; text = changed key value header.text })
unfolding text_size
changed_read_back key value header k v other room back =
    let kept = kept_from_read_back header back in
    read_back (record { size = header.size; text = changed key value header.text }) (record {
      bytes = changed_text key value header.text k v kept.bytes;
      fits = omega arith;
      size = ap size_of_value (keeps_others key value header.text (codes "HDR_SIZE") 4096 k v (λ same. other
          (sym same))) ∙ kept.size;
      range = kept.range;
    })
