-- Worked values of the change of a field, computed.
use Rattle.std.specs.Prelude.{◌≡◌, ℕ, List, [], ◌∷◌, ◌++◌, codes, refl}
use Rattle.dada_model.specs.Fields.{is_white, without_comment, words_of, fields_of, value_of}
use Rattle.dada_model.specs.Change.{spaces, word_start, word_end, value_start, value_end, has_key, with_value, blanked_line, overwritten, blanked, line_end, is_overwritten, changed}

abbrev lines : List (List ℕ) → List ℕ
lines [] = []
lines (line ∷ more) = line ++ (10 ∷ lines more)

-- a longer value than that of its field: the line becomes spaces, and a new one stands at the end
appended : changed (codes "OBS_OFFSET") (codes "0002") (lines
    (codes "NBIT 8" ∷ codes "OBS_OFFSET 0" ∷ codes "BW 1" ∷ []))
    ≡ lines (codes "NBIT 8" ∷ spaces 12 ∷ codes "BW 1" ∷ codes "OBS_OFFSET 0002" ∷ [])
unfolding changed is_overwritten overwritten blanked line_end has_key with_value blanked_line
    fields_of words_of without_comment is_white word_start word_end value_start value_end value_of
appended = refl

-- comments stay, and so does a line with the keyword alone; a line feed comes first where the last line has none
commented : changed (codes "BW") (codes "-20") (lines
    (codes "BW 1#a" ∷ codes "BW" ∷ codes " BW 10 b" ∷ []) ++ codes "BWA 2")
    ≡ lines ((spaces 4 ++ codes "#a") ∷ codes "BW" ∷ spaces 8 ∷ codes "BWA 2" ∷ codes "BW -20" ∷ [])
unfolding changed is_overwritten overwritten blanked line_end has_key with_value blanked_line
    fields_of words_of without_comment is_white word_start word_end value_start value_end value_of
commented = refl

-- a value that is no longer takes the place of the first one, and later ones stay
in_place : changed (codes "BW") (codes "-2")
    (lines (codes "NBIT 8" ∷ codes "  BW  -200#MHz" ∷ codes "BW 30000" ∷ []))
    ≡ lines (codes "NBIT 8" ∷ codes "  BW  -2  #MHz" ∷ codes "BW 30000" ∷ [])
unfolding changed is_overwritten overwritten blanked line_end has_key with_value blanked_line
    fields_of words_of without_comment is_white word_start word_end value_start value_end value_of
in_place = refl

in_empty : changed (codes "A") (codes "1") [] ≡ codes "A 1" ++ 10 ∷ []
unfolding changed is_overwritten overwritten blanked line_end has_key with_value blanked_line
    fields_of words_of without_comment is_white word_start word_end value_start value_end value_of
in_empty = refl
