-- What beams found, once they have ended.
-- Source: this project's choice.
use Rattle.std.specs.Prelude.{List, map, All, Option, Some, None, IsSome}
use Rattle.search_model.specs.declared.candidate.Candidate.{Candidate}
use Rattle.search_model.specs.Order.{IsRising}
use Rattle.candidate_book.specs.Conditions.{IsSearched}
use Rattle.beam_set.specs.declared.ended.BeamEnd.{BeamEnd}
use Rattle.beam_set.specs.Text.{FoundBeam, nothing_found, lists_of}

-- what the beam of a place found: what its book keeps, and how many spectra were searched
abbrev pub found_at : Option BeamEnd → FoundBeam
found_at None = nothing_found
found_at (Some beam) = record { spectra = beam.spectra; list = beam.book.kept }

abbrev pub found_in : List (Option BeamEnd) → List FoundBeam
found_in beams = map found_at beams

-- their lists
abbrev pub lists_in : List (Option BeamEnd) → List (List Candidate)
lists_in beams = lists_of (found_in beams)

-- the beams are there, and each list is in order and has only what a search can have
pub record CanBeWritten (beams : List (Option BeamEnd)) : Type 0 where
  pub there : All IsSome beams
  pub rise : All IsRising (lists_in beams)
  pub searched : All (All IsSearched) (lists_in beams)
