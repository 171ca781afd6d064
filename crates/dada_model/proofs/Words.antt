-- The words of a line.
use Rattle.std.proofs.Common.{◌≡◌, ℕ, zero, suc, ◌+◌, ◌-◌, ◌<◌, ◌≤◌, true, false, not, ltb, List, [], ◌∷◌, ◌++◌, length, get_or, take, drop, refl, sym, ap, ◌∙◌, arith}
use Rattle.std.specs.Prelude.{All, filter, slice_range}
use Rattle.std.specs.List.{prefix_len, position_or_len, slice_split}
use Rattle.std.proofs.lemmas.Bool.{lt-ltb}
use Rattle.std.proofs.lemmas.List.{append-nil, take-append-drop, length-take, length-take-le, length-drop, drop-drop, drop_all, get_or-take, get_or-drop, take_all}
use Rattle.std.proofs.lemmas.List.Elements.{All-head, All-tail, All-from_get_or}
use Rattle.std.proofs.lemmas.List.Splits.{slice_split_at, slice_split_none}
use Rattle.std.proofs.lemmas.List.Sums.{prefix_len-le-length, prefix_len_passes, prefix_len_stops, fails_before_first, passes_at_first}
use Rattle.dada_model.specs.Fields.{is_white, words_of}
use Rattle.dada_model.specs.Change.{word_start, word_end}
use Rattle.dada_model.specs.FieldLaws.{AreWordsFrom}

-- ---- white space and words at the beginning of a line

abbrev pub AreWhite : List ℕ → Type 0
AreWhite bytes = All (λ byte. is_white byte ≡ true) bytes

abbrev pub AreGraphic : List ℕ → Type 0
AreGraphic bytes = All (λ byte. is_white byte ≡ false) bytes

-- a word ends before it
abbrev pub EndsWord : List ℕ → Type 0
EndsWord [] = Unit {0}
EndsWord (byte ∷ more) = is_white byte ≡ true

pub words_of-white : (white rest : List ℕ) → AreWhite white → words_of (white ++ rest) ≡ words_of rest
unfolding words_of
words_of-white [] rest h = refl
words_of-white (x ∷ white) rest h =
    let first : is_white x ≡ true = All-head (λ byte. is_white byte ≡ true) x white h in
    rw first (words_of-white white rest (All-tail (λ byte. is_white byte ≡ true) x white h))

pub words_of-all_white : (white : List ℕ) → AreWhite white → words_of white ≡ []
unfolding words_of
words_of-all_white white h = rw (← append-nil white) (words_of-white white [] h)

kept_word : (word : List ℕ) (words : List (List ℕ)) → 0 < length word →
    filter (λ (w : List ℕ). ltb 0 (length w)) (word ∷ words) ≡ word ∷ filter (λ (w : List ℕ). ltb 0
    (length w)) words
kept_word word words some = let t : ltb 0 (length word) ≡ true = lt-ltb 0 (length word) some in rw t refl

pub words_of-word : (word rest : List ℕ) → 0 < length word → AreGraphic word → EndsWord rest →
    words_of (word ++ rest) ≡ word ∷ words_of rest
unfolding words_of
words_of-word word [] some graphic ends =
    let split : slice_split is_white word ≡ word ∷ [] = slice_split_none is_white word graphic in
    rw (append-nil word, split) (kept_word word [] some)
words_of-word word (c ∷ more) some graphic ends =
    let split : slice_split is_white (word ++ (c ∷ more)) ≡ word ∷ slice_split is_white more =
    slice_split_at is_white word c more graphic ends in
    let cut : slice_split is_white (c ∷ more) ≡ [] ∷ slice_split is_white more = rw ends refl in
    rw (split, cut) (kept_word word (slice_split is_white more) some)

-- ---- the first word of a line

pub AreWhite-front : (line : List ℕ) → AreWhite (take (prefix_len is_white line) line)
AreWhite-front line =
    All-from_get_or (λ byte. is_white byte ≡ true) (take (prefix_len is_white line) line) 0
    (λ i h. let short = length-take (prefix_len is_white line) line in let low : i < prefix_len is_white line =
    omega arith in
    rw (get_or-take (prefix_len is_white line) line i 0 low) (prefix_len_passes is_white line i 0 low))

pub AreGraphic-front : (line : List ℕ) → AreGraphic (take (position_or_len is_white line) line)
AreGraphic-front line =
    All-from_get_or (λ byte. is_white byte ≡ false) (take (position_or_len is_white line) line) 0
    (λ i h. let short = length-take
    (position_or_len is_white line) line in let low : i < position_or_len is_white line = omega arith in
    rw (get_or-take (position_or_len is_white line) line i 0 low) (fails_before_first is_white line i 0 low))

ends_at : (line : List ℕ) (place : ℕ) → (place < length line → is_white (get_or line place 0) ≡ true) →
    EndsWord (drop place line)
ends_at [] place h = grind (arith, drop_all)
ends_at (x ∷ line) zero h = h (omega arith)
ends_at (x ∷ line) (suc place) h = ends_at line place (λ low. h (omega arith))

pub EndsWord-after : (line : List ℕ) → EndsWord (drop (position_or_len is_white line) line)
EndsWord-after line = ends_at line (position_or_len is_white line) (λ low. passes_at_first is_white line 0 low)

graphic_first : (line : List ℕ) → 0 < length line → is_white (get_or line 0 0) ≡ false →
    0 < position_or_len is_white line
graphic_first [] some h = absurd (omega arith)
graphic_first (x ∷ line) some h = rw h (omega arith)

pub words_of-none : (line : List ℕ) → prefix_len is_white line ≡ length line → words_of line ≡ []
words_of-none line whole =
    let front = AreWhite-front line in
    let same : take (prefix_len is_white line) line ≡ line = take_all (prefix_len is_white line) line (omega arith) in
    words_of-all_white line (rw same at front)

pub words_of-first : (line : List ℕ) → prefix_len is_white line < length line →
    let rest = drop (prefix_len is_white line) line in
    let n = position_or_len is_white rest in
    (0 < n) × (words_of line ≡ take n rest ∷ words_of (drop n rest))
words_of-first line low =
    let rest = drop (prefix_len is_white line) line in
    let n = position_or_len is_white rest in
    let count = length-drop (prefix_len is_white line) line in
    let stops = prefix_len_stops is_white line 0 low in
    let first : is_white (get_or rest 0 0) ≡ false = rw (get_or-drop (prefix_len is_white line) line 0 0) (grind
    (arith, stops)) in
    let some : 0 < n = graphic_first rest (omega arith) first in
    let most : n ≤ length rest = prefix_len-le-length (λ x. not (is_white x)) rest in
    let long : 0 < length (take n rest) = rw (length-take-le n rest most) some in
    let words : words_of (take n rest ++ drop n rest) ≡ take n rest ∷ words_of (drop n rest) =
    words_of-word (take n rest) (drop n rest) long (AreGraphic-front rest) (EndsWord-after rest) in
    let white : words_of (take (prefix_len is_white line) line ++ rest) ≡ words_of rest =
    words_of-white (take (prefix_len is_white line) line) rest (AreWhite-front line) in (
      some,
      (sym (ap words_of (take-append-drop (prefix_len is_white line) line)) ∙ white)
          ∙ (rw (take-append-drop n rest) at words),
    )

-- the same from a place on
pub words_from : (place : ℕ) (line : List ℕ) → place ≤ length line → AreWordsFrom place line
unfolding word_start word_end
words_from place line low =
    let part = drop place line in
    let n = prefix_len is_white part in
    let rest = drop n part in
    let m = position_or_len is_white rest in
    let counts = length-drop place line in
    let counts_rest = length-drop n part in
    let most_white : n ≤ length part = prefix_len-le-length is_white part in
    let most_graphic : m ≤ length rest = prefix_len-le-length (λ x. not (is_white x)) rest in
    let same : drop n part ≡ drop (place + n) line = drop-drop n place line in
    let m_is : position_or_len is_white (drop (place + n) line) ≡ m = ap (position_or_len is_white) (sym same) in
    record {
      within = omega arith;
      none = λ whole. words_of-none part (omega arith);
      some = λ short. let first = words_of-first part (omega arith) in let some : 0 < m = first.0 in omega arith;
      end = omega arith;
      words = λ short.
          let first = words_of-first part (omega arith) in
          let width : place + n + position_or_len is_white (drop (place + n) line) - (place + n) ≡ m = omega arith in
          let word : take m rest ≡ slice_range line (place + n) (place + n + position_or_len is_white (drop
          (place + n) line)) = rw (width, same) refl in
          let after : drop m rest ≡ drop (place + n + position_or_len is_white (drop (place + n) line)) line =
          rw (same, drop-drop (position_or_len is_white (drop (place + n) line)) (place + n) line) refl in
          first.1 ∙ ap (λ (w : List ℕ). w ∷ words_of (drop m rest)) word
          ∙ ap (λ (r : List ℕ). slice_range line (place + n) (place + n + position_or_len is_white (drop
          (place + n) line)) ∷ words_of r) after;
    }
