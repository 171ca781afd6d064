-- A value that takes the place of one that is as wide, or wider: the text keeps its length and its end.
use Rattle.std.proofs.Common.{◌≡◌, ℕ, suc, ◌+◌, ◌-◌, ◌≤◌, inl, inr, Bool, true, false, cond, eqb, List, [], ◌∷◌, ◌++◌, length, get_or, take, drop, refl, sym, ap, subst, ◌∙◌, arith, append_assoc, Option, Some, None}
use Rattle.std.specs.Prelude.{All, slice_range}
use Rattle.std.specs.List.{position_or_len}
use Rattle.std.proofs.lemmas.Bool.{cases_lt, eqb-true}
use Rattle.std.proofs.lemmas.Bool.Decides.{nat_tests}
use Rattle.std.proofs.lemmas.List.{append-nil, length-append, length-take, length-take-le, length-drop, length-replicate, get_or-append_right}
use Rattle.std.proofs.lemmas.List.Elements.{All-nil, All-cons, All-append, All-take, All-drop, All-replicate, All-weaker}
use Rattle.dada_model.specs.Fields.{without_comment, words_of, Field, field_of_words, field_of_line, fields_of, value_of}
use Rattle.dada_model.specs.Change.{IsWordByte, IsWord, spaces, word_start, word_end, value_start, value_end, has_key, with_value, overwritten}
use Rattle.dada_model.specs.FieldLaws.{FirstWordOfLine, value_if, IsLine, FieldsByLines}

-- ---- one line

-- where a value stands in the bytes before the comment, and how wide it is
record IsValueAt (bare value : List ℕ) : Type 0 where
  within : value_end bare ≤ length bare
  rises : value_start bare ≤ value_end bare
  width : length value ≡ value_end bare - value_start bare

no_second : (first : List ℕ) (words : List (List ℕ)) (field : Field) → words ≡ [] →
    field_of_words (first ∷ words) ≡ Some field → ⊥
no_second first words field none is =
    let e = ap (λ (ws : List (List ℕ)). field_of_words (first ∷ ws)) (sym none) ∙ is in
    absurd cc

second_is : (first second : List ℕ) (words more : List (List ℕ)) (field : Field) → words ≡ second ∷ more →
    field_of_words (first ∷ words) ≡ Some field → second ≡ field.value
second_is first second words more field two is =
    let e : Some (record { keyword = first; value = second }) ≡ Some field =
    ap (λ (ws : List (List ℕ)). field_of_words (first ∷ ws)) (sym two) ∙ is in
    let f : record { keyword = first; value = second } ≡ field = cc in
    ap (λ (x : Field). x.value) f

range_width : (xs : List ℕ) (a b : ℕ) → b ≤ length xs → length (slice_range xs a b) ≡ b - a
range_width xs a b within = length-take-le (b - a) (drop a xs) (omega (arith, length-drop a xs))

second_word : FirstWordOfLine → (bare : List ℕ) (end : ℕ) (first : List ℕ) (field : Field) →
    end ≡ word_end (word_start 0 bare) bare → end ≤ length bare →
    field_of_words (first ∷ words_of (drop end bare)) ≡ Some field → IsValueAt bare field.value
unfolding value_start value_end
second_word law bare end first field ends within is =
    let w = law end bare within in
    elim (cases_lt (word_start end bare) (length bare)) [
      | inl there ↦
          let a = word_start end bare in
          let b = word_end a bare in
          let second = second_is first (slice_range bare a b) (words_of (drop end bare)) (words_of (drop b bare)) field
          (w.words there) is in
          let start : value_start bare ≡ a = ap (λ (n : ℕ). word_start n bare) (sym ends) in
          let stop : value_end bare ≡ b = ap (λ (n : ℕ). word_end n bare) start in
          let count : length field.value ≡ b - a = ap (length {A = ℕ}) (sym second) ∙ range_width bare a b w.end in
          record {
            within = omega (arith, stop, w.end);
            rises = omega (arith, start, stop, w.some there);
            width = omega (arith, start, stop, count);
          }
      | inr none ↦ absurd (no_second first (words_of (drop end bare)) field (w.none (omega (arith, w.within))) is)
    ]

first_word : FirstWordOfLine → (bare : List ℕ) (field : Field) → field_of_words (words_of bare) ≡ Some field →
    IsValueAt bare field.value
first_word law bare field is =
    let w = law 0 bare (omega arith) in
    elim (cases_lt (word_start 0 bare) (length bare)) [
      | inl there ↦
          let a = word_start 0 bare in
          second_word law bare (word_end a bare) (slice_range bare a (word_end a bare)) field refl w.end
          (ap field_of_words (sym (w.words there)) ∙ is)
      | inr none ↦
          let e = ap field_of_words (sym (w.none (omega (arith, w.within)))) ∙ is in
          absurd cc
    ]

-- the line has another value, no wider
placed_length : (line value new : List ℕ) (bare : List ℕ) → bare ≡ without_comment line → IsValueAt bare value →
    length new ≤ length value → length bare ≤ length line → length (with_value new line) ≡ length line
unfolding with_value
placed_length line value new bare same at fits few =
    let s = value_start (without_comment line) in
    let e = value_end (without_comment line) in
    let s_is : s ≡ value_start bare = ap value_start (sym same) in
    let e_is : e ≡ value_end bare = ap value_end (sym same) in
    let pad : length (spaces (e - s - length new)) ≡ e - s - length new =
    length-replicate {A = ℕ} (e - s - length new) 32 in
    let front : length (take s line) ≡ s = length-take-le s line (omega (arith, at.within, at.rises, s_is, e_is)) in
    let one = length-append (take s line) (new ++ (spaces (e - s - length new) ++ drop e line)) in
    let two = length-append new (spaces (e - s - length new) ++ drop e line) in
    let three = length-append (spaces (e - s - length new)) (drop e line) in
    let rest = length-drop e line in
    omega (arith, one, two, three, rest, pad, front, at.within, at.rises, at.width, s_is, e_is)

comment_past : (line : List ℕ) → length (without_comment line) ≤ length line
unfolding without_comment
comment_past line = omega (arith, length-take (position_or_len (λ byte. eqb byte 35) line) line)

placed_line : (P : ℕ → Type 0) (value line : List ℕ) → P 32 → All P value → All P line → All P (with_value value line)
unfolding with_value
placed_line P value line space v h =
    let s = value_start (without_comment line) in
    let e = value_end (without_comment line) in
    All-append P (take s line) (value ++ (spaces (e - s - length value) ++ drop e line)) (All-take P s line h)
    (All-append P value (spaces (e - s - length value) ++ drop e line) v
    (All-append P (spaces (e - s - length value)) (drop e line) (All-replicate P (e - s - length value) 32 space)
    (All-drop P e line h)))

no_feed : (byte : ℕ) → IsWordByte byte → eqb byte 10 ≡ false
no_feed byte h = grind (arith, nat_tests)

-- ---- the end of a text

-- it is empty, or its last byte is a line feed
unfoldable pub is_ended : List ℕ → Bool
is_ended text = eqb (get_or text (length text - 1) 10) 10

-- a text with the same length and the same end
pub record IsSameSize (one other : List ℕ) : Type 0 where
  pub lengths : length one ≡ length other
  pub ends : is_ended one ≡ is_ended other

pub ended_last : (front rest : List ℕ) (x : ℕ) →
    is_ended (front ++ (x ∷ rest)) ≡ eqb (get_or (x ∷ rest) (length rest) 10) 10
unfolding is_ended
ended_last front rest x =
    let count : length (front ++ (x ∷ rest)) ≡ length front + suc (length rest) = length-append front (x ∷ rest) in
    let place : length front ≤ length (front ++ (x ∷ rest)) - 1 = omega arith in
    let left : length (front ++ (x ∷ rest)) - 1 - length front ≡ length rest = omega arith in
    ap (λ (n : ℕ). eqb n 10) (get_or-append_right front (x ∷ rest) (length front)
    (length (front ++ (x ∷ rest)) - 1) 10 refl place)
    ∙ ap (λ (n : ℕ). eqb (get_or (x ∷ rest) n 10) 10) left

ended_after : (line rest : List ℕ) → is_ended (line ++ (10 ∷ rest)) ≡ is_ended rest
unfolding is_ended
ended_after line [] = ended_last line [] 10
ended_after line (x ∷ rest) =
    let place : suc (length rest) - 1 ≡ length rest = omega arith in
    ended_last line (x ∷ rest) 10 ∙ sym (ap (λ (n : ℕ). eqb (get_or (x ∷ rest) n 10) 10) place)

line_not_ended : (x : ℕ) (line : List ℕ) → IsLine (x ∷ line) → is_ended (x ∷ line) ≡ false
unfolding is_ended
line_not_ended x line is =
    let place : suc (length line) - 1 ≡ length line = omega arith in
    ap (λ (n : ℕ). eqb (get_or (x ∷ line) n 10) 10) place ∙ is (length line) 10 (omega arith)

ended_lines : (line new : List ℕ) → IsLine line → IsLine new → length new ≡ length line → is_ended new ≡ is_ended line
ended_lines [] [] is is_new same = refl
ended_lines [] (y ∷ new) is is_new same = absurd (omega arith)
ended_lines (x ∷ line) [] is is_new same = absurd (omega arith)
ended_lines (x ∷ line) (y ∷ new) is is_new same = line_not_ended y new is_new ∙ sym (line_not_ended x line is)

same_after : (line new rest : List ℕ) → length new ≡ length line → IsSameSize (new ++ (10 ∷ rest)) (line ++ (10 ∷ rest))
same_after line new rest same = record {
  lengths = omega (arith, length-append new (10 ∷ rest), length-append line (10 ∷ rest));
  ends = ended_after new rest ∙ sym (ended_after line rest);
}

same_later : (line one other : List ℕ) → IsSameSize one other → IsSameSize (line ++ (10 ∷ one)) (line ++ (10 ∷ other))
same_later line one other h = record {
  lengths = omega (arith, length-append line (10 ∷ one), length-append line (10 ∷ other), h.lengths);
  ends = ended_after line one ∙ h.ends ∙ sym (ended_after line other);
}

-- ---- line by line

next_byte : (P : List ℕ → Type 0) → ((line more : List ℕ) → IsLine line → P more → P (line ++ (10 ∷ more))) →
    (b : Bool) (x : ℕ) (text line : List ℕ) → eqb x 10 ≡ b → IsLine line → P text →
    (IsLine (line ++ x ∷ []) → P ((line ++ x ∷ []) ++ text)) → P (line ++ (x ∷ text))
next_byte P first true x text line e is here later =
    subst (λ (n : ℕ). P (line ++ (n ∷ text))) (sym (eqb-true x 10 e)) (first line text is here)
next_byte P first false x text line e is here later =
    subst P (append_assoc line (x ∷ []) text) (later (All-append (λ byte. eqb byte 10 ≡ false) line (x ∷ []) is
    (All-cons (λ byte. eqb byte 10 ≡ false) x [] e (All-nil (λ byte. eqb byte 10 ≡ false)))))

by_lines_from : (P : List ℕ → Type 0) → ((line : List ℕ) → IsLine line → P line) →
    ((line more : List ℕ) → IsLine line → P more → P (line ++ (10 ∷ more))) →
    (text line : List ℕ) → IsLine line → P (line ++ text)
by_lines_from P alone first [] line is = subst P (sym (append-nil line)) (alone line is)
by_lines_from P alone first (x ∷ text) line is =
    next_byte P first (eqb x 10) x text line refl is
    (by_lines_from P alone first text [] (All-nil (λ byte. eqb byte 10 ≡ false)))
    (λ longer. by_lines_from P alone first text (line ++ x ∷ []) longer)

by_lines : (P : List ℕ → Type 0) → ((line : List ℕ) → IsLine line → P line) →
    ((line more : List ℕ) → IsLine line → P more → P (line ++ (10 ∷ more))) → (text : List ℕ) → P text
by_lines P alone first text = by_lines_from P alone first text [] (All-nil (λ byte. eqb byte 10 ≡ false))

-- ---- the text

-- what is said of each text
abbrev KeepsSize : List ℕ → List ℕ → List ℕ → Type 0
KeepsSize key new text = (old : List ℕ) → value_of key (fields_of text) ≡ Some old → length new ≤ length old →
    IsSameSize (overwritten key new text) text

found_field : (found : Option Field) (old : List ℕ) → value_if found ≡ Some old →
    (field : Field) × (found ≡ Some field) × (field.value ≡ old)
found_field None old e = absurd cc
found_field (Some field) old e = (field, refl, cc)

-- the line that has the key
line_keeps : FirstWordOfLine → (new old line : List ℕ) → IsLine line → IsWord new → length new ≤ length old →
    value_if (field_of_line line) ≡ Some old → length (with_value new line) ≡ length line
line_keeps law new old line is word fits found =
    let it = found_field (field_of_line line) old found in
    let at = first_word law (without_comment line) it.0 it.1 in
    placed_length line it.0.value new (without_comment line) refl at (rw it.2 fits) (comment_past line)

alone_on : FirstWordOfLine → (b : Bool) (key new old line : List ℕ) → IsLine line → IsWord new →
    length new ≤ length old → cond b (value_if (field_of_line line)) None ≡ Some old →
    IsSameSize (cond b (with_value new line) line) line
alone_on law true key new old line is word fits found =
    let same = line_keeps law new old line is word fits found in
    let kept = placed_line (λ byte. eqb byte 10 ≡ false) new line refl
    (All-weaker IsWordByte (λ byte. eqb byte 10 ≡ false) no_feed new word.bytes) is in
    record { lengths = same; ends = ended_lines line (with_value new line) is kept same }
alone_on law false key new old line is word fits found = absurd cc

first_on : FirstWordOfLine → (b : Bool) (key new old line more : List ℕ) → IsLine line → IsWord new →
    length new ≤ length old → KeepsSize key new more →
    cond b (value_if (field_of_line line)) (value_of key (fields_of more)) ≡ Some old →
    IsSameSize (cond b (with_value new line ++ (10 ∷ more)) (line ++ (10 ∷ overwritten key new more)))
    (line ++ (10 ∷ more))
first_on law true key new old line more is word fits later found =
    same_after line (with_value new line) more (line_keeps law new old line is word fits found)
first_on law false key new old line more is word fits later found =
    same_later line (overwritten key new more) more (later old found fits)

pub keeps_size : FirstWordOfLine → FieldsByLines → (key new text : List ℕ) → IsWord new → KeepsSize key new text
keeps_size law lines key new text word =
    by_lines (KeepsSize key new)
    (λ line is old found fits.
    let l = lines key line is in
    subst (λ (t : List ℕ). IsSameSize t line) (sym (l.overwritten_alone new))
    (alone_on law (has_key key line) key new old line is word fits (sym l.value_alone ∙ found)))
    (λ line more is later old found fits.
    let l = lines key line is in
    subst (λ (t : List ℕ). IsSameSize t (line ++ (10 ∷ more))) (sym (l.overwritten new more))
    (first_on law (has_key key line) key new old line more is word fits later (sym (l.value more) ∙ found)))
    text
