-- A law of beams that were searched; a function of this crate carries it.
-- Source: this project's choice.
use Rattle.std.specs.Prelude.{◌≡◌, ℕ, ◌<◌, ◌≤◌, List, [], map, length, slice_index_or, All, Option, Some, None}
use Rattle.dada_model.specs.Observation.{Observation}
use Rattle.search_model.specs.declared.search.Search.{Search}
use Rattle.search_model.specs.Search.{SettingsInRange}
use Rattle.search_model.specs.Observed.{filterbank_of, candidates_of}
use Rattle.candidate_book.specs.Book.{book_of}
use Rattle.beam_set.specs.declared.ended.BeamEnd.{BeamEnd}
use Rattle.beam_set.specs.Searched.{found_by}
use Rattle.beam_set.specs.Beams.{found_in, CanBeWritten}

-- a beam is there, its book is that of the candidate list of its data, and it counted their spectra
abbrev pub HoldsData : Observation → Search → List ℕ → Option BeamEnd → Type 0
HoldsData o s bytes None = ⊥
HoldsData o s bytes (Some beam) =
    (beam.book ≡ book_of s.max_candidates (candidates_of o s bytes))
    × (beam.spectra ≡ (filterbank_of o bytes).spectra)

-- and so is each beam
pub record BeamsHoldData
    (o : Observation) (s : Search) (data_of_beams : List (List ℕ)) (beams : List (Option BeamEnd)) :
    Type 0 where
  pub count : length beams ≡ length data_of_beams
  pub each : (b : ℕ) → b < length data_of_beams →
      HoldsData o s (slice_index_or data_of_beams b []) (slice_index_or beams b None)

-- where no list is longer than the limit, such beams can be written, and they found what a search of their data finds
abbrev pub SearchedBeamsAreFound : Type 0
SearchedBeamsAreFound =
    (o : Observation) (s : Search) (data_of_beams : List (List ℕ)) (beams : List (Option BeamEnd)) →
    SettingsInRange s → BeamsHoldData o s data_of_beams beams →
    All (λ bytes. length (candidates_of o s bytes) ≤ s.max_candidates) data_of_beams →
    CanBeWritten beams × (found_in beams ≡ map (found_by o s) data_of_beams)
