-- What a run over the data of one or more transfers finds: the candidate list of each, over its data alone.
-- Source: this project's choice.
use Rattle.std.specs.Prelude.{ℕ, List, length, map}
use Rattle.std.specs.List.{sum_by}
use Rattle.dada_model.specs.Observation.{Observation}
use Rattle.search_model.specs.declared.search.Search.{Search}
use Rattle.search_model.specs.Observed.{filterbank_of, candidates_of, labels_of}
use Rattle.transfer_text.specs.Text.{FoundList, run_text}

-- the observation that the header of a transfer says, and all data bytes of the transfer
pub record ObservedTransfer : Type 0 where
  pub observation : Observation
  pub bytes : List ℕ

abbrev pub spectra_of : ObservedTransfer → ℕ
spectra_of t = (filterbank_of t.observation t.bytes).spectra

abbrev pub found_in : Search → ObservedTransfer → FoundList
found_in s t = record {
  labels = labels_of t.observation;
  spectra = spectra_of t;
  list = candidates_of t.observation s t.bytes;
}

-- the text of the search of all transfers
abbrev pub searched_text : Search → List ObservedTransfer → List ℕ
searched_text s transfers = run_text (map (found_in s) transfers)

-- how many candidates they have together
abbrev pub candidate_total : Search → List ObservedTransfer → ℕ
candidate_total s transfers = sum_by (λ t. length (candidates_of t.observation s t.bytes)) transfers
