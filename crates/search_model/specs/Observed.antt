-- A search of a whole observation: from its data bytes to its text.
-- Source: this project's choice.
use Rattle.std.specs.Prelude.{ℕ, List}
use Rattle.dada_model.specs.Observation.{Observation, edges, dm}
use Rattle.search_model.specs.declared.candidate.Candidate.{Candidate}
use Rattle.search_model.specs.declared.search.Search.{Search}
use Rattle.search_model.specs.Samples.{Filterbank, samples_of, filterbank}
use Rattle.search_model.specs.Candidates.{plain_cells, candidates}
use Rattle.search_model.specs.CandidateText.{Labels, plain_labels, candidate_text}

-- the samples of an observation's data bytes
abbrev pub filterbank_of : Observation → List ℕ → Filterbank
filterbank_of o bytes = filterbank o.channels o.is_falling (samples_of o.nbit o.npol bytes)

-- the candidate list of a search over all of its channels
abbrev pub candidates_of : Observation → Search → List ℕ → List Candidate
candidates_of o s bytes = candidates (filterbank_of o bytes) (edges o) (plain_cells o.channels) s

-- what the lines of an observation say besides their candidates
abbrev pub labels_of : Observation → Labels
labels_of o = plain_labels (dm o) o.channels

-- the text of that search
abbrev pub search_text : Observation → Search → List ℕ → List ℕ
search_text o s bytes =
    let f = filterbank_of o bytes in
    candidate_text (labels_of o) f.spectra (candidates_of o s bytes)
