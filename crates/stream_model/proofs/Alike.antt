-- Texts that are alike stay so where a key gets values of one width.
use Rattle.std.proofs.Common.{◌≡◌, ◌≢◌, ℕ, ◌+◌, ◌≤◌, Bool, true, false, cond, leb, List, [], ◌∷◌, ◌++◌, length, take, refl, sym, ap, ◌∙◌, arith, append_assoc, Option, Some, None}
use Rattle.std.specs.Prelude.{bytes_eq}
use Rattle.std.specs.Option.{option_map}
use Rattle.std.proofs.lemmas.Bool.{leb-true, both_ways}
use Rattle.std.proofs.lemmas.List.{length-append, take_all}
use Rattle.std.proofs.lemmas.Slice.Eq.{bytes_eq-Decides}
use Rattle.dada_model.specs.Fields.{fields_of, value_of}
use Rattle.dada_model.specs.Change.{IsWord, line_end, field_line, has_room_for, is_overwritten, overwritten, blanked, changed}
use Rattle.dada_model.specs.FieldLaws.{FirstWordOfLine, FieldsByLines}
use Rattle.dada_model.specs.ChangeLaws.{ChangeGivesValue, ChangeKeepsOthers, BlankKeepsLength}
use Rattle.stream_model.specs.RecordedLaws.{AreLikeTexts}
use Rattle.stream_model.proofs.Overwritten.{is_ended, IsSameSize, ended_last, keeps_size}

-- the laws of a change that this stands on
pub record ChangesHold : Type 0 where
  pub words : FirstWordOfLine
  pub lines : FieldsByLines
  pub gives : ChangeGivesValue
  pub keeps : ChangeKeepsOthers
  pub blanks : BlankKeepsLength

line_end_is : (text : List ℕ) → line_end text ≡ cond (is_ended text) [] (10 ∷ [])
unfolding line_end is_ended
line_end_is text = refl

-- ---- the same way to change both

same_room : (first last : List ℕ) (a b : Option (List ℕ)) → length first ≡ length last →
    option_map length a ≡ option_map length b → has_room_for first a ≡ has_room_for last b
same_room first last None None same e = refl
same_room first last None (Some y) same e = absurd cc
same_room first last (Some x) None same e = absurd cc
same_room first last (Some x) (Some y) same e =
    let widths : length x ≡ length y = cc in
    ap (λ (n : ℕ). leb n (length x)) same ∙ ap (leb (length last)) widths

same_way : (key first last one other : List ℕ) → length first ≡ length last → AreLikeTexts one other →
    is_overwritten key first one ≡ is_overwritten key last other
unfolding is_overwritten
same_way key first last one other same alike =
    same_room first last (value_of key (fields_of one)) (value_of key (fields_of other)) same (alike.widths key)

old_in : (value : List ℕ) (found : Option (List ℕ)) → has_room_for value found ≡ true →
    (old : List ℕ) × (found ≡ Some old) × (length value ≤ length old)
old_in value None e = absurd cc
old_in value (Some old) e = (old, refl, leb-true (length value) (length old) e)

old_of : (key value text : List ℕ) → is_overwritten key value text ≡ true →
    (old : List ℕ) × (value_of key (fields_of text) ≡ Some old) × (length value ≤ length old)
unfolding is_overwritten
old_of key value text e = old_in value (value_of key (fields_of text)) e

-- ---- their sizes

changed_in_place : (key value text : List ℕ) → is_overwritten key value text ≡ true →
    changed key value text ≡ overwritten key value text
unfolding changed
changed_in_place key value text e =
    ap (λ (b : Bool). cond b (overwritten key value text)
    (blanked key text ++ (line_end text ++ field_line key value))) e

changed_at_end : (key value text : List ℕ) → is_overwritten key value text ≡ false →
    changed key value text ≡ blanked key text ++ (line_end text ++ field_line key value)
unfolding changed
changed_at_end key value text e =
    ap (λ (b : Bool). cond b (overwritten key value text)
    (blanked key text ++ (line_end text ++ field_line key value))) e

size_in_place : ChangesHold → (key value text : List ℕ) → IsWord value → is_overwritten key value text ≡ true →
    IsSameSize (changed key value text) text
size_in_place laws key value text word e =
    let old = old_of key value text e in
    rw (changed_in_place key value text e)
    (keeps_size laws.words laws.lines key value text word old.0 old.1 old.2)

size_at_end : ChangesHold → (key value text : List ℕ) → is_overwritten key value text ≡ false →
    (length (changed key value text) ≡ length text + (length (line_end text) + (length key + (length value + 2))))
    × (is_ended (changed key value text) ≡ true)
size_at_end laws key value text e =
    let front = blanked key text in
    let line = key ++ (32 ∷ value) in
    let last : List ℕ = 10 ∷ [] in
    let whole : changed key value text ≡ (front ++ (line_end text ++ line)) ++ last =
    changed_at_end key value text e
    ∙ ap (λ (t : List ℕ). front ++ (line_end text ++ t)) (sym (append_assoc key (32 ∷ value) last))
    ∙ ap (λ (t : List ℕ). front ++ t) (sym (append_assoc (line_end text) line last))
    ∙ sym (append_assoc front (line_end text ++ line) last) in
    let one = length-append (front ++ (line_end text ++ line)) last in
    let two = length-append front (line_end text ++ line) in
    let three = length-append (line_end text) line in
    let four = length-append key (32 ∷ value) in (
      omega (arith, ap (length {A = ℕ}) whole, one, two, three, four, laws.blanks key text),
      ap is_ended whole ∙ ended_last (front ++ (line_end text ++ line)) [] 10,
    )

same_ends : (a b : Bool) → cond {A = List ℕ} a [] (10 ∷ []) ≡ cond b [] (10 ∷ []) → a ≡ b
same_ends true true e = refl
same_ends true false e = absurd (omega (arith, ap (length {A = ℕ}) e))
same_ends false true e = absurd (omega (arith, ap (length {A = ℕ}) e))
same_ends false false e = refl

sizes_on : ChangesHold → (b : Bool) (key first last one other : List ℕ) → IsWord first → IsWord last →
    length first ≡ length last → AreLikeTexts one other → is_overwritten key first one ≡ b →
    is_overwritten key last other ≡ b → IsSameSize (changed key first one) (changed key last other)
sizes_on laws true key first last one other word word_too same alike e f =
    let a = size_in_place laws key first one word e in
    let b = size_in_place laws key last other word_too f in
    let ended : is_ended one ≡ is_ended other = same_ends (is_ended one) (is_ended other) (sym (line_end_is one)
    ∙ alike.ends ∙ line_end_is other) in
    record { lengths = a.lengths ∙ alike.lengths ∙ sym b.lengths; ends = a.ends ∙ ended ∙ sym b.ends }
sizes_on laws false key first last one other word word_too same alike e f =
    let a = size_at_end laws key first one e in
    let b = size_at_end laws key last other f in
    record {
      lengths = omega (arith, a.0, b.0, alike.lengths, ap (length {A = ℕ}) alike.ends, same);
      ends = a.1 ∙ sym b.1;
    }

-- ---- their values

pub bytes_apart : (xs ys : List ℕ) → bytes_eq xs ys ≡ false → xs ≢ ys
bytes_apart xs ys e same = both_ways (bytes_eq xs ys) e ((bytes_eq-Decides xs ys).1 same)

pub all_kept : ChangeKeepsOthers → (key value text other : List ℕ) → IsWord key → IsWord value → other ≢ key →
    value_of other (fields_of (changed key value text)) ≡ value_of other (fields_of text)
all_kept keeps key value text other k v apart =
    let n = length (changed key value text) + length text in
    let new : take n (changed key value text) ≡ changed key value text =
    take_all n (changed key value text) (omega arith) in
    let old : take n text ≡ text = take_all n text (omega arith) in
    ap (λ (t : List ℕ). value_of other (fields_of t)) (sym new) ∙ keeps key value text other n k v apart
    ∙ ap (λ (t : List ℕ). value_of other (fields_of t)) old

widths_on : ChangesHold → (b : Bool) (key first last one two other : List ℕ) → bytes_eq other key ≡ b → IsWord key →
    IsWord first → IsWord last → length first ≡ length last → AreLikeTexts one two →
    option_map length (value_of other (fields_of (changed key first one)))
    ≡ option_map length (value_of other (fields_of (changed key last two)))
widths_on laws true key first last one two other is k v w same alike =
    let e : other ≡ key = (bytes_eq-Decides other key).0 is in
    let left : value_of other (fields_of (changed key first one)) ≡ Some first =
    ap (λ (o : List ℕ). value_of o (fields_of (changed key first one))) e ∙ laws.gives key first one k v in
    let right : value_of other (fields_of (changed key last two)) ≡ Some last =
    ap (λ (o : List ℕ). value_of o (fields_of (changed key last two))) e ∙ laws.gives key last two k w in
    ap (option_map length) left ∙ ap (λ (n : ℕ). Some n) same ∙ sym (ap (option_map length) right)
widths_on laws false key first last one two other is k v w same alike =
    let apart = bytes_apart other key is in
    ap (option_map length) (all_kept laws.keeps key first one other k v apart) ∙ alike.widths other
    ∙ sym (ap (option_map length) (all_kept laws.keeps key last two other k w apart))

pub stay_alike : ChangesHold → (key first last one other : List ℕ) → IsWord key → IsWord first → IsWord last →
    length first ≡ length last → AreLikeTexts one other → AreLikeTexts (changed key first one) (changed key last other)
stay_alike laws key first last one other k v w same alike =
    let way = same_way key first last one other same alike in
    let sizes = sizes_on laws (is_overwritten key first one) key first last one other v w same alike refl (sym way) in
    record {
      lengths = sizes.lengths;
      ends = line_end_is (changed key first one) ∙ ap (λ (b : Bool). cond b [] (10 ∷ [])) sizes.ends ∙ sym (line_end_is
          (changed key last other));
      widths = λ another. widths_on laws (bytes_eq another key) key first last one other another refl k v w same alike;
    }

pub alike_itself : (text : List ℕ) → AreLikeTexts text text
alike_itself text = record { lengths = refl; ends = refl; widths = λ key. refl }
