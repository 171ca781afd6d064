-- A search of some of the channels: the others are masked, and their cells are not counted.
-- Source: this project's choice.
use Rattle.std.specs.Prelude.{ℕ, ◌+◌, Bool, List, length, filter, sum_by, slice_index, if◌then◌else◌}
use Rattle.std.specs.List.{range_with_len}
use Rattle.dada_model.specs.Observation.{Observation, edges}
use Rattle.search_model.specs.declared.candidate.Candidate.{Candidate}
use Rattle.search_model.specs.declared.search.Search.{Search}
use Rattle.search_model.specs.Samples.{Filterbank}
use Rattle.search_model.specs.Paths.{path}
use Rattle.search_model.specs.Sums.{between}
use Rattle.search_model.specs.Candidates.{candidates}
use Rattle.search_model.specs.CandidateText.{Labels, candidate_text}
use Rattle.search_model.specs.Observed.{filterbank_of, labels_of}

-- the samples of the channels that are kept, and 0 in all others; channels count from the highest frequency
abbrev pub kept_of : (ℕ → Bool) → Filterbank → Filterbank
kept_of kept f = record {
  channels = f.channels;
  spectra = f.spectra;
  value = λ c t. if kept c then f.value c t else 0;
}

-- how many cells the path of delay d over n channels has in channels that are kept: of each the spectra from the
-- path's entry at its upper edge to that at its lower edge, both included
abbrev pub kept_cells : (ℕ → Bool) → List ℕ → ℕ → ℕ → ℕ
kept_cells kept edges n d =
    let e = path edges n d in
    sum_by (λ c. length (between (slice_index e c) (slice_index e (c + 1))))
    (filter kept (range_with_len 0 n))

-- the candidate list of a search over the channels of an observation that are kept
abbrev pub masked_candidates_of : Observation → Search → (ℕ → Bool) → List ℕ → List Candidate
masked_candidates_of o s kept bytes =
    candidates (kept_of kept (filterbank_of o bytes)) (edges o)
    (kept_cells kept (edges o) o.channels) s

-- what its lines say besides their candidates
abbrev pub masked_labels : Observation → (ℕ → Bool) → Labels
masked_labels o kept = record (labels_of o) { cells = kept_cells kept (edges o) o.channels }

-- the text of that search
abbrev pub masked_text : Observation → Search → (ℕ → Bool) → List ℕ → List ℕ
masked_text o s kept bytes =
    let f = filterbank_of o bytes in
    candidate_text (masked_labels o kept) f.spectra (masked_candidates_of o s kept bytes)
