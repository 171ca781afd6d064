-- Texts whose lines change in their places.
use Rattle.std.proofs.Common.{◌≡◌, ◌≢◌, ℕ, suc, ◌+◌, ◌-◌, ◌<◌, ◌≤◌, ◌⊎◌, inl, inr, Bool, true, false, cond, eqb, List, [], ◌∷◌, ◌++◌, length, get_or, take, refl, sym, ap, subst, ◌∙◌, arith, append_assoc, Option, Some, None}
use Rattle.std.specs.Prelude.{All}
use Rattle.std.specs.List.{join_with_byte}
use Rattle.std.proofs.lemmas.Bool.{cases_lt, both_ways}
use Rattle.std.proofs.lemmas.List.{append-nil, length-append, take_all, take-append-le, get_or_append_left, get_or-append_right}
use Rattle.std.proofs.lemmas.List.Elements.{All-take, All-weaker}
use Rattle.std.proofs.Math.Seq.{take-append-add}
use Rattle.dada_model.specs.Fields.{without_comment, Field, field_of_line, fields_of, value_of}
use Rattle.dada_model.specs.Change.{IsWord, has_key, with_value, blanked_line, with_first_value, without_key}
use Rattle.dada_model.specs.FieldLaws.{value_if, IsLine}
use Rattle.dada_model.specs.ChangeLaws.{IsInField}
use Rattle.dada_model.proofs.Lines.{IsSomeList, value_among, value_among-cons, value_of-alone, value_of-cons}
use Rattle.dada_model.proofs.ChangeLines.{AllLines, value_or, IsChangedLine, unchanged_line, blank_line, overwritten_line}

-- ---- lists of lines that change one by one

abbrev pub AreChangedLines : List ℕ → List (List ℕ) → List (List ℕ) → Type 0
AreChangedLines key [] [] = Unit {0}
AreChangedLines key [] (new ∷ news) = ⊥
AreChangedLines key (line ∷ lines) [] = ⊥
AreChangedLines key (line ∷ lines) (new ∷ news) = IsChangedLine key line new × AreChangedLines key lines news

pub unchanged_lines : (key : List ℕ) (lines : List (List ℕ)) → AllLines IsLine lines → AreChangedLines key lines lines
unchanged_lines key [] all = tt
unchanged_lines key (line ∷ lines) all = (unchanged_line key line all.0, unchanged_lines key lines all.1)

without_on : (b : Bool) (key line : List ℕ) → has_key key line ≡ b → IsLine line →
    IsChangedLine key line (cond b (blanked_line line) line)
without_on true key line e is = blank_line key line is e
without_on false key line e is = unchanged_line key line is

pub without_changes : (key : List ℕ) (lines : List (List ℕ)) → AllLines IsLine lines →
    AreChangedLines key lines (without_key key lines)
without_changes key [] all = tt
without_changes key (line ∷ lines) all = (
  without_on (has_key key line) key line refl all.0,
  without_changes key lines all.1,
)

value_in_field : (found : Option Field) (value : List ℕ) → value_if found ≡ Some value →
    (field : Field) × (found ≡ Some field) × (field.value ≡ value)
value_in_field None value e = (cc)
value_in_field (Some field) value e = (field, refl, (cc))

first_on : (b : Bool) (key new old line : List ℕ) (lines : List (List ℕ)) → has_key key line ≡ b → IsLine line →
    AllLines IsLine lines → IsWord new → length new ≤ length old →
    cond b (value_if (field_of_line line)) (value_among key lines) ≡ Some old →
    (value_among key lines ≡ Some old → AreChangedLines key lines (with_first_value key new lines)) →
    AreChangedLines key (line ∷ lines) (cond b (with_value new line ∷ lines) (line ∷ with_first_value key new lines))
first_on true key new old line lines e is all word fits found later =
    let field = value_in_field (field_of_line line) old found in
    let room : length new ≤ length field.0.value = rw field.2 fits in
    (overwritten_line key line new field.0 is e field.1 word room, unchanged_lines key lines all)
first_on false key new old line lines e is all word fits found later = (unchanged_line key line is, later found)

pub first_changes : (key new old : List ℕ) (lines : List (List ℕ)) → AllLines IsLine lines → IsWord new →
    length new ≤ length old → value_among key lines ≡ Some old →
    AreChangedLines key lines (with_first_value key new lines)
first_changes key new old [] all word fits found = tt
first_changes key new old (line ∷ lines) all word fits found =
    first_on (has_key key line) key new old line lines refl all.0 all.1 word fits (sym
    (value_among-cons key line lines) ∙ found)
    (λ e. first_changes key new old lines all.1 word fits e)

-- ---- their texts

pub same_lengths : (key : List ℕ) (lines news : List (List ℕ)) → AreChangedLines key lines news →
    length (join_with_byte 10 news) ≡ length (join_with_byte 10 lines)
same_lengths key [] [] h = refl
same_lengths key [] (new ∷ news) h = absurd h
same_lengths key (line ∷ lines) [] h = absurd h
same_lengths key (line ∷ []) (new ∷ []) h = h.0.same_length
same_lengths key (line ∷ []) (new ∷ next ∷ news) h = absurd h.1
same_lengths key (line ∷ more ∷ lines) (new ∷ []) h = absurd h.1
same_lengths key (line ∷ more ∷ lines) (new ∷ next ∷ news) h =
    let rest = same_lengths key (more ∷ lines) (next ∷ news) h.1 in
    let first : length new ≡ length line = h.0.same_length in
    let left = length-append new (10 ∷ join_with_byte 10 (next ∷ news)) in
    let right = length-append line (10 ∷ join_with_byte 10 (more ∷ lines)) in
    omega arith

IsLine-take : (n : ℕ) (line : List ℕ) → IsLine line → IsLine (take n line)
IsLine-take n line is = All-take (λ byte. eqb byte 10 ≡ false) n line is

cut_alone : (key other line new : List ℕ) (n : ℕ) → IsChangedLine key line new → other ≢ key →
    value_of other (fields_of (take n new)) ≡ value_of other (fields_of (take n line))
cut_alone key other line new n h apart =
    value_of-alone other (take n new) (IsLine-take n new h.new_line) ∙ h.others other apart n None
    ∙ sym (value_of-alone other (take n line) (IsLine-take n line h.old_line))

cut_past : (line rest : List ℕ) (k : ℕ) → take (length line + suc k) (line ++ (10 ∷ rest)) ≡ line ++ (10 ∷ take k rest)
cut_past line rest k = take-append-add line (10 ∷ rest) (suc k)

pub past : (n m : ℕ) → m < n → (k : ℕ) × (n ≡ m + suc k)
past n m low = (n - m - 1, omega arith)

first_value : (key other line new : List ℕ) (value : Option (List ℕ)) → IsChangedLine key line new → other ≢ key →
    value_or other new value ≡ value_or other line value
first_value key other line new value h apart =
    let whole_new : take (length line) new ≡ new = take_all (length line) new (let e = h.same_length in omega arith) in
    let whole_line : take (length line) line ≡ line = take_all (length line) line (omega arith) in
    sym (ap (λ l. value_or other l value) whole_new) ∙ h.others other apart (length line) value
    ∙ ap (λ l. value_or other l value) whole_line

pub cut_values : (key other : List ℕ) (lines news : List (List ℕ)) (n : ℕ) → IsSomeList lines →
    AreChangedLines key lines news → other ≢ key →
    value_of other (fields_of (take n (join_with_byte 10 news))) ≡ value_of other (fields_of (take n
    (join_with_byte 10 lines)))
cut_values key other [] news n some h apart = absurd some
cut_values key other (line ∷ lines) [] n some h apart = absurd h
cut_values key other (line ∷ []) (new ∷ []) n some h apart = cut_alone key other line new n h.0 apart
cut_values key other (line ∷ []) (new ∷ next ∷ news) n some h apart = absurd h.1
cut_values key other (line ∷ more ∷ lines) (new ∷ []) n some h apart = absurd h.1
cut_values key other (line ∷ more ∷ lines) (new ∷ next ∷ news) n some h apart =
    let old_rest = join_with_byte 10 (more ∷ lines) in
    let new_rest = join_with_byte 10 (next ∷ news) in
    let same : length new ≡ length line = h.0.same_length in
    elim (cases_lt (length line) n) as (λ _. value_of other (fields_of (take n (new ++
    (10 ∷ new_rest)))) ≡ value_of other (fields_of (take n (line ++ (10 ∷ old_rest))))) [
      | inl low ↦
          let k = past n (length line) low in
          let n_new : n ≡ length new + suc k.0 = k.1 ∙ ap (λ m. m + suc k.0) (sym same) in
          ap (λ m. value_of other (fields_of (take m (new ++ (10 ∷ new_rest))))) n_new
          ∙ ap (λ t. value_of other (fields_of t)) (cut_past new new_rest k.0)
          ∙ value_of-cons other new (take k.0 new_rest) h.0.new_line
          ∙ ap (value_or other new) (cut_values key other (more ∷ lines) (next ∷ news) k.0 tt h.1 apart)
          ∙ first_value key other line new (value_of other (fields_of (take k.0 old_rest))) h.0 apart
          ∙ sym (ap (λ m. value_of other (fields_of (take m (line ++ (10 ∷ old_rest))))) k.1
          ∙ ap (λ t. value_of other (fields_of t)) (cut_past line old_rest k.0)
          ∙ value_of-cons other line (take k.0 old_rest) h.0.old_line)
      | inr high ↦
          ap (λ t. value_of other (fields_of t)) (take-append-le n new (10 ∷ new_rest) (omega arith))
          ∙ cut_alone key other line new n h.0 apart
          ∙ sym (ap (λ t. value_of other (fields_of t)) (take-append-le n line (10 ∷ old_rest) high))
    ]

-- ---- bytes that stay

not_feed : (byte : ℕ) → eqb byte 10 ≡ false → byte ≢ 10
not_feed byte e same = both_ways (eqb byte 10) e (rw same refl)

no_feeds : (line : List ℕ) → IsLine line → All (λ byte. byte ≢ 10) line
no_feeds line is = All-weaker (λ byte. eqb byte 10 ≡ false) (λ byte. byte ≢ 10) not_feed line is

in_line : (key line tail : List ℕ) (i : ℕ) → IsLine line → (tail ≡ []) ⊎ ((rest : List ℕ) × (tail ≡ 10 ∷ rest)) →
    has_key key line ≡ true → i < length (without_comment line) → IsInField key (line ++ tail) i
in_line key line tail i is ends e low = record {
  before = [];
  line = line;
  after = tail;
  text_is = refl;
  begins = inl refl;
  is_line = no_feeds line is;
  ends = ends;
  field = e;
  from = omega arith;
  upto = omega arith;
}

begins_after : (line before : List ℕ) → (before ≡ []) ⊎ ((front : List ℕ) × (before ≡ front ++ 10 ∷ [])) →
    (front : List ℕ) × (line ++ (10 ∷ before) ≡ front ++ 10 ∷ [])
begins_after line before (inl none) = (line, ap (λ b. line ++ (10 ∷ b)) none)
begins_after line before (inr some) = (
  line ++ (10 ∷ some.0),
  ap (λ b. line ++ (10 ∷ b)) some.1
      ∙ sym (append_assoc line (10 ∷ some.0) (10 ∷ [])),
)

in_later_line : (key line rest : List ℕ) (i j : ℕ) → i ≡ length line + suc j → IsInField key rest j →
    IsInField key (line ++ (10 ∷ rest)) i
in_later_line key line rest i j e h =
    let count : length (line ++ (10 ∷ h.before)) ≡ length line + suc (length h.before) =
    length-append line (10 ∷ h.before) in
    let from = h.from in
    let upto = h.upto in
    record {
      before = line ++ (10 ∷ h.before);
      line = h.line;
      after = h.after;
      text_is = ap (λ r. line ++ (10 ∷ r)) h.text_is ∙ sym (append_assoc line (10 ∷ h.before) (h.line ++ h.after));
      begins = inr (begins_after line h.before h.begins);
      is_line = h.is_line;
      ends = h.ends;
      field = h.field;
      from = omega arith;
      upto = omega arith;
    }

line_bytes : (key line new tail new_tail : List ℕ) (i : ℕ) → IsChangedLine key line new →
    (tail ≡ []) ⊎ ((rest : List ℕ) × (tail ≡ 10 ∷ rest)) → i < length line →
    (get_or (new ++ new_tail) i 0 ≡ get_or (line ++ tail) i 0) ⊎ IsInField key (line ++ tail) i
line_bytes key line new tail new_tail i h ends low =
    let same : length new ≡ length line = h.same_length in
    elim (h.bytes i low) as (λ _. (get_or (new ++ new_tail) i 0 ≡ get_or (line ++ tail) i 0) ⊎ IsInField key
    (line ++ tail) i) [
      | inl kept ↦ inl (get_or_append_left new new_tail 0 i (omega arith) ∙ kept
          ∙ sym (get_or_append_left line tail 0 i low))
      | inr field ↦ inr (in_line key line tail i h.old_line ends field.0 field.1)
    ]

later_bytes : (key line new rest new_rest : List ℕ) (i j : ℕ) → i ≡ length line + suc j → length new ≡ length line →
    (get_or new_rest j 0 ≡ get_or rest j 0) ⊎ IsInField key rest j →
    (get_or (new ++ (10 ∷ new_rest)) i 0 ≡ get_or (line ++ (10 ∷ rest)) i 0) ⊎ IsInField key (line ++ (10 ∷ rest)) i
later_bytes key line new rest new_rest i j e same (inl kept) =
    let high : length line ≤ i = omega arith in
    let left : i - length line ≡ suc j = omega arith in
    inl (get_or-append_right new (10 ∷ new_rest) (length line) i 0 same high
    ∙ ap (λ k. get_or (10 ∷ new_rest) k 0) left ∙ kept
    ∙ sym (get_or-append_right line (10 ∷ rest) (length line) i 0 refl high ∙ ap (λ k. get_or (10 ∷ rest) k 0) left))
later_bytes key line new rest new_rest i j e same (inr field) = inr (in_later_line key line rest i j e field)

feed_stays : (line new rest new_rest : List ℕ) (i : ℕ) → i ≡ length line → length new ≡ length line →
    get_or (new ++ (10 ∷ new_rest)) i 0 ≡ get_or (line ++ (10 ∷ rest)) i 0
feed_stays line new rest new_rest i e same =
    let high : length line ≤ i = omega arith in
    let left : i - length line ≡ 0 = omega arith in
    get_or-append_right new (10 ∷ new_rest) (length line) i 0 same high ∙ ap (λ k. get_or (10 ∷ new_rest) k 0) left
    ∙ sym (get_or-append_right line (10 ∷ rest) (length line) i 0 refl high ∙ ap (λ k. get_or (10 ∷ rest) k 0) left)

abbrev pub Stays : List ℕ → List ℕ → List ℕ → ℕ → Type 0
Stays key old new i = (get_or new i 0 ≡ get_or old i 0) ⊎ IsInField key old i

one_line : (key line new : List ℕ) (i : ℕ) → IsChangedLine key line new → i < length line → Stays key line new i
one_line key line new i h low =
    let both = line_bytes key line new [] [] i h (inl refl) low in
    let P : List ℕ → Type 0 = λ t. (get_or (new ++ []) i 0 ≡ get_or t i 0) ⊎ IsInField key t i in
    let Q : List ℕ → Type 0 = λ t. (get_or t i 0 ≡ get_or line i 0) ⊎ IsInField key line i in
    subst Q (append-nil new) (subst P (append-nil line) both)

pub bytes_stay : (key : List ℕ) (lines news : List (List ℕ)) (i : ℕ) → AreChangedLines key lines news →
    i < length (join_with_byte 10 lines) → Stays key (join_with_byte 10 lines) (join_with_byte 10 news) i
bytes_stay key [] news i h low = absurd (omega arith)
bytes_stay key (line ∷ lines) [] i h low = absurd h
bytes_stay key (line ∷ []) (new ∷ []) i h low = one_line key line new i h.0 low
bytes_stay key (line ∷ []) (new ∷ next ∷ news) i h low = absurd h.1
bytes_stay key (line ∷ more ∷ lines) (new ∷ []) i h low = absurd h.1
bytes_stay key (line ∷ more ∷ lines) (new ∷ next ∷ news) i h low =
    let rest = join_with_byte 10 (more ∷ lines) in
    let new_rest = join_with_byte 10 (next ∷ news) in
    let same : length new ≡ length line = h.0.same_length in
    let count = length-append line (10 ∷ rest) in
    elim (cases_lt i (length line)) as (λ _. Stays key (line ++ (10 ∷ rest)) (new ++ (10 ∷ new_rest)) i) [
      | inl before ↦ line_bytes key line new (10 ∷ rest) (10 ∷ new_rest) i h.0 (inr (rest, refl)) before
      | inr high ↦ elim (cases_lt (length line) i) as (λ _. Stays key (line ++ (10 ∷ rest)) (new ++
          (10 ∷ new_rest)) i) [
            | inl after ↦ let j = past i (length line) after in later_bytes key line new rest new_rest i j.0 j.1 same
                (bytes_stay key (more ∷ lines) (next ∷ news) j.0 h.1 (let e = j.1 in omega arith))
            | inr here ↦ inl (feed_stays line new rest new_rest i (omega arith) same)
          ]
    ]

-- ---- whether a text ends in a line feed

-- it is empty, or its last byte is a line feed
unfoldable pub is_ended : List ℕ → Bool
is_ended text = eqb (get_or text (length text - 1) 10) 10

ended_last : (line rest : List ℕ) (x : ℕ) → is_ended (line ++ (x ∷ rest)) ≡ eqb (get_or (x ∷ rest) (length rest) 10) 10
unfolding is_ended
ended_last line rest x =
    let count : length (line ++ (x ∷ rest)) ≡ length line + suc (length rest) = length-append line (x ∷ rest) in
    let place : length (line ++ (x ∷ rest)) - 1 ≡ length line + length rest = omega arith in
    let left : length line + length rest - length line ≡ length rest = omega arith in
    ap (λ n. eqb (get_or (line ++ (x ∷ rest)) n 10) 10) place
    ∙ ap (λ b. eqb b 10) (get_or-append_right line (x ∷ rest) (length line) (length line + length rest) 10 refl
    (omega arith) ∙ ap (λ n. get_or (x ∷ rest) n 10) left)

pub ended_after : (line rest : List ℕ) → is_ended (line ++ (10 ∷ rest)) ≡ is_ended rest
unfolding is_ended
ended_after line [] = ended_last line [] 10
ended_after line (x ∷ rest) =
    let place : suc (length rest) - 1 ≡ length rest = omega arith in
    ended_last line (x ∷ rest) 10 ∙ sym (ap (λ n. eqb (get_or (x ∷ rest) n 10) 10) place)

pub line_not_ended : (x : ℕ) (line : List ℕ) → IsLine (x ∷ line) → is_ended (x ∷ line) ≡ false
unfolding is_ended
line_not_ended x line is =
    let place : suc (length line) - 1 ≡ length line = omega arith in
    ap (λ n. eqb (get_or (x ∷ line) n 10) 10) place ∙ is (length line) 10 (omega arith)

ended_lines : (line new : List ℕ) → IsLine line → IsLine new → length new ≡ length line → is_ended new ≡ is_ended line
ended_lines [] [] is is_new same = refl
ended_lines [] (y ∷ new) is is_new same = absurd (omega arith)
ended_lines (x ∷ line) [] is is_new same = absurd (omega arith)
ended_lines (x ∷ line) (y ∷ new) is is_new same = line_not_ended y new is_new ∙ sym (line_not_ended x line is)

pub same_end : (key : List ℕ) (lines news : List (List ℕ)) → AreChangedLines key lines news →
    is_ended (join_with_byte 10 news) ≡ is_ended (join_with_byte 10 lines)
same_end key [] [] h = refl
same_end key [] (new ∷ news) h = absurd h
same_end key (line ∷ lines) [] h = absurd h
same_end key (line ∷ []) (new ∷ []) h = ended_lines line new h.0.old_line h.0.new_line h.0.same_length
same_end key (line ∷ []) (new ∷ next ∷ news) h = absurd h.1
same_end key (line ∷ more ∷ lines) (new ∷ []) h = absurd h.1
same_end key (line ∷ more ∷ lines) (new ∷ next ∷ news) h =
    ended_after new (join_with_byte 10 (next ∷ news)) ∙ same_end key (more ∷ lines) (next ∷ news) h.1
    ∙ sym (ended_after line (join_with_byte 10 (more ∷ lines)))
