-- The text of what several beams found: that of each beam's list comes after a line with the number of the beam.
-- Source: this project's choice.
use Rattle.std.specs.Prelude.{ℕ, Bool, true, false, List, [], ◌++◌, map, length, slice_index_or, codes}
use Rattle.std.specs.List.{range_with_len, flat_map}
use Rattle.std.specs.Fmt.{decimal}
use Rattle.search_model.specs.declared.candidate.Candidate.{Candidate}
use Rattle.search_model.specs.CandidateText.{Labels, candidate_text}
use Rattle.candidate_book.specs.Words.{word_text}
use Rattle.candidate_book.specs.declared.labels.PulseWord.{PulseWord}
use Rattle.candidate_book.specs.declared.labels.PulseWord.TheVariants.{Pulse, Rfi}
use Rattle.beam_set.specs.Marks.{is_marked}

-- what is found in a beam: how many spectra it has, and its list
pub record FoundBeam : Type 0 where
  pub spectra : ℕ
  pub list : List Candidate

abbrev pub nothing_found : FoundBeam
nothing_found = record { spectra = 0; list = [] }

abbrev pub lists_of : List FoundBeam → List (List Candidate)
lists_of beams = map (λ beam. beam.list) beams

-- the word of a pulse that is marked, and of one that is not
abbrev pub word_of : Bool → PulseWord
word_of true = Rfi
word_of false = Pulse

-- the labels of the beams' lines, where the line of a pulse that is marked begins with RFI
abbrev pub marking : Labels → ℕ → ℕ → List FoundBeam → Labels
marking l within more beams =
    record l { word = λ end. word_text (word_of (is_marked (lists_of beams) within more end)) }

-- the line before the text of beam b
unfoldable pub beam_line : ℕ → List ℕ
beam_line b = codes "BEAM " ++ decimal b ++ codes "\n"

abbrev pub list_text : Labels → FoundBeam → List ℕ
list_text l beam = candidate_text l beam.spectra beam.list

-- that line, and the text of the beam's list
abbrev pub beam_text : Labels → ℕ → FoundBeam → List ℕ
beam_text l b beam = beam_line b ++ list_text l beam

-- what is found in beam b
abbrev pub beam_at : List FoundBeam → ℕ → FoundBeam
beam_at beams b = slice_index_or beams b nothing_found

-- the texts of all beams, one after another
abbrev pub beams_text : Labels → ℕ → ℕ → List FoundBeam → List ℕ
beams_text l within more beams =
    flat_map (λ b. beam_text (marking l within more beams) b (beam_at beams b))
    (range_with_len 0 (length beams))
