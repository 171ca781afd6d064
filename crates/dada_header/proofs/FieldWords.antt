-- Where the words of a field stand in its line.
use Rattle.std.proofs.Common.{◌≡◌, ◌≢◌, ℕ, ◌-◌, ◌<◌, ◌≤◌, true, false, List, ◌∷◌, length, take, drop, refl, sym, ap, ◌∙◌, arith, None}
use Rattle.std.specs.Prelude.{slice_range}
use Rattle.std.specs.List.{position_or_len}
use Rattle.std.proofs.lemmas.List.{length-take, take-take}
use Rattle.std.proofs.lemmas.Slice.{between_is}
use Rattle.dada_model.specs.Fields.{without_comment, words_of, field_of_words, field_of_line}
use Rattle.dada_model.specs.Change.{word_start, word_end, value_start, value_end}
use Rattle.dada_model.specs.FieldLaws.{AreWordsFrom}
use Rattle.std.specs.Prelude.{bytes_eq}
use Rattle.dada_model.specs.Change.{has_keyword, has_key, with_value}
use Rattle.dada_header.specs.Places.{IsValueAt}
use Rattle.dada_header.specs.declared.words.Place.{Place}
use Rattle.dada_header.specs.declared.words.FieldPlaces.{FieldPlaces}
use Rattle.dada_header.specs.Places.{at, IsNextWord, IsFieldAt}

pub next_word_is : (line : List ℕ) (from start end : ℕ) → AreWordsFrom from line → start ≡ word_start from line →
    end ≡ word_end start line → start ≢ length line → IsNextWord line from (record { start = start; end = end })
next_word_is line from start end h s e other =
    let e' : end ≡ word_end (word_start from line) line = e ∙ ap (λ n. word_end n line) s in
    let within : word_start from line ≤ length line = h.within in
    let short : word_start from line < length line = omega arith in
    let some : word_start from line < word_end (word_start from line) line = h.some short in
    let last : word_end (word_start from line) line ≤ length line = h.end in
    let word : slice_range line (word_start from line) (word_end
    (word_start from line) line) ≡ slice_range line start end = rw (← s, ← e) refl in
    record {
      start = s;
      end = e;
      some = omega arith;
      within = omega arith;
      words = h.words short ∙ ap (λ (w : List ℕ). w ∷ words_of (drop (word_end
          (word_start from line) line) line)) word ∙ ap (λ n. slice_range line start end ∷ words_of (drop n line))
          (sym e');
    }

word_start-le : (place : ℕ) (line : List ℕ) → place ≤ word_start place line
unfolding word_start
word_start-le place line = omega arith

cut_of_comment : (line : List ℕ) → without_comment line ≡ take (position_or_len
    (λ byte. Rattle.std.proofs.Common.eqb byte 35) line) line
unfolding without_comment
cut_of_comment line = refl

at_front : (line words : List ℕ) (n : ℕ) (place : Place) → words ≡ take n line → place.end ≤ length words →
    at place words ≡ at place line
at_front line words n place e within =
    let count = length-take n line in
    let same = ap length e in
    let low : place.end ≤ n = omega arith in
    let cut : take place.end words ≡ take place.end line = ap (take place.end) e ∙ take-take place.end n line low in
    between_is words place.start place.end ∙ ap (drop place.start) cut ∙ sym (between_is line place.start place.end)

pub field_is : (line words : List ℕ) (keyword value : Place) → words ≡ without_comment line →
    IsNextWord words 0 keyword → IsNextWord words keyword.end value →
    IsFieldAt line (record { keyword = keyword; value = value })
unfolding value_start value_end
field_is line words keyword value w k v =
    let n = position_or_len (λ byte. Rattle.std.proofs.Common.eqb byte 35) line in
    let cut : words ≡ take n line = w ∙ cut_of_comment line in
    let count : length words ≡ length (take n line) = ap length cut in
    let short = length-take n line in
    let within_words : value.end ≤ length words = v.within in
    let within_keyword : keyword.end ≤ length words = k.within in
    let keyword_start : keyword.start ≡ word_start 0 (without_comment line) = rw (← w) k.start in
    let keyword_end : keyword.end ≡ word_end (word_start 0 (without_comment line)) (without_comment line) = k.end
    ∙ (rw (w, keyword_start) refl) in
    let start : value.start ≡ value_start (without_comment line) = v.start ∙ (rw (w, keyword_end) refl) in
    let end : value.end ≡ value_end (without_comment line) = v.end ∙ (rw (w, start) refl) in
    let le = word_start-le keyword.end words in
    let value_at : value.start ≡ word_start keyword.end words = v.start in
    let both : words_of words ≡ at keyword words ∷ at value words ∷ words_of (drop value.end words) = k.words
    ∙ ap (λ (ws : List (List ℕ)). at keyword words ∷ ws) v.words in
    let first : at keyword words ≡ at keyword line = at_front line words n keyword cut within_keyword in
    let second : at value words ≡ at value line = at_front line words n value cut within_words in
    record {
      field = ap (λ (ws : List ℕ). field_of_words (words_of ws)) (sym w) ∙ ap field_of_words both
          ∙ (rw (first, second) refl);
      start = start;
      end = end;
      keyword_some = k.some;
      apart = omega arith;
      some = v.some;
      within = omega arith;
    }

-- ---- the value of a line

pub value_is : (key line : List ℕ) (field : FieldPlaces) → IsFieldAt line field →
    bytes_eq (at field.keyword line) key ≡ true → IsValueAt key line field.value
unfolding has_key with_value
value_is key line field h e = record {
  has_key = ap (has_keyword key) h.field ∙ e;
  value = (at field.keyword line, h.field);
  other = λ value. rw (← h.start, ← h.end) refl;
  some = h.some;
  within = h.within;
}

pub no_field : (key line : List ℕ) → field_of_line line ≡ None → has_key key line ≡ false
unfolding has_key
no_field key line e = ap (has_keyword key) e

pub other_field : (key line : List ℕ) (field : FieldPlaces) → IsFieldAt line field →
    bytes_eq (at field.keyword line) key ≡ false → has_key key line ≡ false
unfolding has_key
other_field key line field h e = ap (has_keyword key) h.field ∙ e
