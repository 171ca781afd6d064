-- What is found in the rows of a shard's delays, and the candidate list.
-- Source: this project's choice.
use Rattle.std.specs.Prelude.{◌≡◌, ℕ, ◌+◌, ◌<◌, ◌++◌, List, Some}
use Rattle.dada_model.specs.Edges.{AreEdges}
use Rattle.search_model.specs.declared.candidate.Candidate.{Candidate}
use Rattle.search_model.specs.declared.search.Search.{Search}
use Rattle.search_model.specs.Samples.{Filterbank}
use Rattle.search_model.specs.Search.{shard_start}
use Rattle.search_model.specs.Candidates.{folds, candidates, within_delays, shard_part}
use Rattle.search_model.specs.Parts.{first_needed, without_first, within_part}
use Rattle.fold_search.specs.Cells.{CellCounts, cells_by}
use Rattle.fold_search.specs.FoldSearch.{IsDelayRange}
use Rattle.shard_search.specs.Pulses.{pulses_of_ends}
use Rattle.shard_search.specs.Sought.{Sought, cells_in, whole_of, sought_of}
use Rattle.shard_search.specs.Sums.{sums_of}

-- The pulses of some ends, and those of the ends after them; all pulses of a shard, and its folds. Where all is sought,
-- that is the whole list; and where nothing is folded, a part of the list is sought in the spectra that the part needs.
pub record ShardsAreListed : Type 0 where
  pub ends : (y : ℕ → ℕ → ℕ) (s : Search) (c : Sought) (first end start m k j : ℕ) →
      start + m ≡ j →
      pulses_of_ends y s c first end start m ++ pulses_of_ends y s c first end j k
      ≡ pulses_of_ends y s c first end start (m + k)
  pub part : (f : Filterbank) (edges : List ℕ) (s : Search) (c : Sought) (k : ℕ) →
      AreEdges f.channels edges → IsDelayRange s (shard_start s k) (shard_start s (k + 1)) →
      pulses_of_ends (sums_of f edges) s c (shard_start s k) (shard_start s (k + 1)) 0 f.spectra
      ++ within_delays (shard_start s k) (shard_start s (k + 1)) (folds f edges (cells_in c) s)
      ≡ shard_part s k (sought_of c (candidates f edges (cells_in c) s))
  pub whole : (n : ℕ) (list : List Candidate) → sought_of (whole_of n) list ≡ list
  pub needed : (f : Filterbank) (edges : List ℕ) (counts : CellCounts) (s : Search)
      (place until : ℕ) → s.fold_max < s.fold_min →
      let a = first_needed s place in
      sought_of (record { counts = counts; first = a; place = place; until = Some until })
      (candidates (without_first a f) edges (cells_by counts) s)
      ≡ within_part place until (candidates f edges (cells_by counts) s)
