-- What a search of the data of several beams finds: in each beam the candidate list over its data alone.
-- Source: this project's choice.
use Rattle.std.specs.Prelude.{ℕ, List, map}
use Rattle.dada_model.specs.Observation.{Observation}
use Rattle.search_model.specs.declared.search.Search.{Search}
use Rattle.search_model.specs.Observed.{filterbank_of, candidates_of, labels_of}
use Rattle.beam_set.specs.Text.{FoundBeam, beams_text}

-- what is found in the data bytes of a beam
abbrev pub found_by : Observation → Search → List ℕ → FoundBeam
found_by o s bytes = record {
  spectra = (filterbank_of o bytes).spectra;
  list = candidates_of o s bytes;
}

-- the text of the search of all beams of an observation
abbrev pub searched_beams_text : Observation → Search → ℕ → ℕ → List (List ℕ) → List ℕ
searched_beams_text o s within more beams =
    beams_text (labels_of o) within more (map (found_by o s) beams)
