-- What is written into the bytes of a text.
use Rattle.std.proofs.Common.{◌≡◌, ◌≢◌, ℕ, ◌+◌, ◌-◌, ◌<◌, ◌≤◌, true, false, cond, leb, List, [], ◌∷◌, ◌++◌, length, take, drop, refl, sym, ap, ◌∙◌, arith, append_assoc, None}
use Rattle.std.specs.Prelude.{slice_range}
use Rattle.std.proofs.lemmas.Bool.{le-leb, lt-leb}
use Rattle.std.proofs.lemmas.List.{length-take-le, length-drop, length-append, take_at, drop_at, drop-drop}
use Rattle.std.proofs.lemmas.Slice.{take-put_mid, drop-put_mid}
use borrow.Rule.Slice.PartMut.{put_mid}
use Rattle.dada_model.specs.Fields.{fields_of, value_of}
use Rattle.dada_model.specs.Change.{has_key, blanked_line, overwritten, blanked, line_end, field_line, has_room_for, is_overwritten, changed}
use Rattle.dada_model.specs.FieldLaws.{GoesByLine}
use Rattle.dada_header.specs.declared.words.Place.{Place}
use Rattle.dada_header.specs.Lines.{IsLineEnd}
use Rattle.dada_header.specs.Places.{at, IsFirstValueAt}
use Rattle.dada_header.specs.Changes.{IsOverwrite, IsAppended, IsPut, IsReplaced}
use Rattle.dada_header.proofs.TextSteps.{line_and_rest}

-- ---- pieces

pub put_is : (place : ℕ) (piece old written : List ℕ) → place + length piece ≤ length old → written ≡ piece →
    IsPut place piece old (put_mid place (place + length piece - place) old written) (place + length piece)
put_is place piece old written room is =
    let count : length written ≡ length piece = ap length is in
    record {
      end = refl;
      front = take-put_mid place (place + length piece - place) old written (place + length piece) (omega arith)
          (omega arith) ∙ ap (λ t. take place old ++ t) is;
      rest = drop-put_mid place (place + length piece - place) old written (place + length piece) (omega arith)
          (omega arith) (omega arith);
    }

-- one piece after another
pub put_twice : (place : ℕ) (a b old middle new : List ℕ) (mid last : ℕ) → IsPut place a old middle mid →
    IsPut mid b middle new last → IsPut place (a ++ b) old new last
put_twice place a b old middle new mid last h k =
    let count = length-append a b in
    let mid_is : mid ≡ place + length a = h.end in
    let last_is : last ≡ mid + length b = k.end in
    let end : place + length (a ++ b) ≡ mid + length b = omega arith in
    let rest_old : drop (mid + length b) middle ≡ drop (mid + length b) old =
    sym (drop-drop (length b) mid middle) ∙ ap (drop (length b)) (ap (λ n. drop n middle) mid_is ∙ h.rest
    ∙ ap (λ n. drop n old) (sym mid_is)) ∙ drop-drop (length b) mid old in
    record {
      end = last_is ∙ sym end;
      front = ap (λ n. take n new) end ∙ k.front ∙ ap (λ t. t ++ b) (ap (λ n. take n middle) mid_is ∙ h.front)
          ∙ append_assoc (take place old) a b;
      rest = ap (λ n. drop n new) end ∙ k.rest ∙ rest_old ∙ ap (λ n. drop n old) (sym end);
    }

-- a line after a text that was made blank
pub replaced : (key value old blank put new line_feed : List ℕ) (len mid last : ℕ) → len ≤ length old →
    length blank ≡ len → blank ≡ blanked key (take len old) → line_feed ≡ line_end (take len old) →
    IsPut len line_feed (blank ++ drop len old) put mid → IsPut mid (field_line key value) put new last →
    IsReplaced key value len old new last
replaced key value old blank put new line_feed len mid last low count is feed h k =
    let piece = line_feed ++ field_line key value in
    let both = put_twice len line_feed (field_line key value) (blank ++ drop len old) put new mid last h k in
    let piece_is : piece ≡ line_end (take len old) ++ field_line key value = ap (λ t. t ++ field_line key value) feed in
    let front : take len (blank ++ drop len old) ≡ blank = take_at blank (drop len old) len count in
    let after : drop len (blank ++ drop len old) ≡ drop len old = drop_at blank (drop len old) len count in
    let last_is : last ≡ len + length piece = both.end in
    let rest : drop (len + length piece) (blank ++ drop len old) ≡ drop (len + length piece) old =
    sym (drop-drop (length piece) len (blank ++ drop len old)) ∙ ap (drop (length piece)) after
    ∙ drop-drop (length piece) len old in
    record {
      end = last_is ∙ ap (λ p. len + length p) piece_is;
      front = ap (λ n. take n new) last_is ∙ both.front ∙ ap (λ t. t ++ piece) (front ∙ is)
          ∙ ap (λ p. blanked key (take len old) ++ p) piece_is;
      rest = ap (λ n. drop n new) last_is ∙ both.rest ∙ rest ∙ ap (λ n. drop n old) (sym last_is);
    }

-- ---- which way a text is changed

pub appended_without : (key value text : List ℕ) → value_of key (fields_of text) ≡ None → IsAppended key value text
unfolding changed is_overwritten
appended_without key value text none =
    ap (λ found. cond (has_room_for value found) (overwritten key value text) (blanked key text ++
    (line_end text ++ field_line key value))) none

length-at : (place : Place) (text : List ℕ) → place.start ≤ place.end → place.end ≤ length text →
    length (at place text) ≡ place.end - place.start
length-at place text ordered within = let left = length-drop place.start text in length-take-le
    (place.end - place.start) (drop place.start text) (omega arith)

pub appended_for_longer : (key value text : List ℕ) (place : Place) → IsFirstValueAt key text place →
    place.end - place.start < length value → IsAppended key value text
unfolding changed is_overwritten
appended_for_longer key value text place h longer =
    let some : place.start < place.end = h.some in
    let width = length-at place text (omega arith) h.within in
    let room : leb (length value) (length (at place text)) ≡ false =
    lt-leb (length value) (length (at place text)) (omega arith) in
    ap (λ found. cond (has_room_for value found) (overwritten key value text) (blanked key text ++
    (line_end text ++ field_line key value))) h.value
    ∙ ap (λ b. cond b (overwritten key value text) (blanked key text ++ (line_end text ++ field_line key value))) room

pub overwritten_at : (key value text : List ℕ) (place : Place) → IsFirstValueAt key text place →
    length value ≤ place.end - place.start → IsOverwrite key value text place
unfolding changed is_overwritten
overwritten_at key value text place h fits =
    let some : place.start < place.end = h.some in
    let width = length-at place text (omega arith) h.within in
    let room : leb (length value) (length (at place text)) ≡ true =
    le-leb (length value) (length (at place text)) (omega arith) in
    record {
      is = ap (λ found. cond (has_room_for value found) (overwritten key value text) (blanked key text ++
          (line_end text ++ field_line key value))) h.value
          ∙ ap (λ b. cond b (overwritten key value text) (blanked key text ++
          (line_end text ++ field_line key value))) room
          ∙ h.other value;
      ordered = omega arith;
      within = h.within;
    }

-- ---- one line after another becomes blank

-- what was made blank before a place, and what is left
pub record IsBlankTo (key old text : List ℕ) (from : ℕ) : Type 0 where
  pub within : from ≤ length text
  pub is : blanked key old ≡ take from text ++ blanked key (drop from text)

pub blank_more : (key old text new : List ℕ) (from end : ℕ) → IsBlankTo key old text from →
    IsLineEnd text from end → end ≢ length (put_mid from (end - from) text new) →
    GoesByLine key (slice_range text from end) →
    new ≡ cond (has_key key (slice_range text from end)) (blanked_line (slice_range text from end))
    (slice_range text from end) →
    length new ≡ length (slice_range text from end) →
    IsBlankTo key old (put_mid from (end - from) text new) (end + 1)
blank_more key old text new from end s h short_new law is same =
    let line = slice_range text from end in
    let more = drop (end + 1) text in
    let ordered : from ≤ end = h.ordered in
    let within : end ≤ length text = h.within in
    let left = length-drop from text in
    let width : length line ≡ end - from = length-take-le (end - from) (drop from text) (omega arith) in
    let count_front = length-take-le from text (omega arith) in
    let length_new = length-append (take from text) (new ++ drop (end - from) (drop from text)) in
    let length_rest = length-append new (drop (end - from) (drop from text)) in
    let length_tail = length-drop (end - from) (drop from text) in
    let kept_length : length (put_mid from (end - from) text new) ≡ length text = omega arith in
    let short : end ≢ length text = λ e. short_new (e ∙ sym kept_length) in
    let split = line_and_rest text from end h short in
    let tail : drop (end - from) (drop from text) ≡ 10 ∷ more = ap (drop (end - from)) split
    ∙ drop_at line (10 ∷ more) (end - from) width in
    let text_is : put_mid from (end - from) text new ≡ (take from text ++ (new ++ (10 ∷ []))) ++ more =
    ap (λ t. take from text ++ (new ++ t)) tail
    ∙ ap (λ t. take from text ++ t) (sym (append_assoc new (10 ∷ []) more))
    ∙ sym (append_assoc (take from text) (new ++ (10 ∷ [])) more) in
    let counts = length-append (take from text) (new ++ (10 ∷ [])) in
    let counts_line = length-append new (10 ∷ []) in
    let size : length (take from text ++ (new ++ (10 ∷ []))) ≡ end + 1 = omega arith in
    let first : take (end + 1) (put_mid from (end - from) text new) ≡ take from text ++ (new ++ (10 ∷ [])) =
    ap (take (end + 1)) text_is ∙ take_at (take from text ++ (new ++ (10 ∷ []))) more (end + 1) size in
    let last : drop (end + 1) (put_mid from (end - from) text new) ≡ more =
    ap (drop (end + 1)) text_is ∙ drop_at (take from text ++ (new ++ (10 ∷ []))) more (end + 1) size in
    let whole = ap length text_is ∙ length-append (take from text ++ (new ++ (10 ∷ []))) more in
    record {
      within = omega arith;
      is = s.is ∙ ap (λ t. take from text ++ blanked key t) split
          ∙ ap (λ t. take from text ++ t) (law.blanked more ∙ ap (λ t. t ++ (10 ∷ blanked key more)) (sym is)
          ∙ sym (append_assoc new (10 ∷ []) (blanked key more)))
          ∙ sym (append_assoc (take from text) (new ++ (10 ∷ [])) (blanked key more))
          ∙ ap (λ t. t ++ blanked key more) (sym first) ∙ ap (λ t. take (end + 1) (put_mid from
          (end - from) text new) ++ blanked key t) (sym last);
    }
