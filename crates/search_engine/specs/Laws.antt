-- What is found in a scope, in the words of the definitions.
-- Source: this project's choice.
use Rattle.std.specs.Prelude.{◌≡◌, ℕ, ◌-◌, ◌*◌, ◌%◌, ◌≤◌, ◌<◌, ◌++◌, All, Bool, List, Some, length, slice_index}
use Rattle.dada_model.specs.Observation.{Observation, edges}
use Rattle.search_model.specs.declared.search.Search.{Search}
use Rattle.search_model.specs.Candidates.{shard_part}
use Rattle.search_model.specs.Masks.{kept_cells, masked_candidates_of}
use Rattle.search_model.specs.Observed.{candidates_of, filterbank_of}
use Rattle.search_model.specs.Parts.{first_needed, within_part}
use Rattle.candidate_book.specs.Book.{book_of}
use Rattle.search_engine.specs.Engine.{EngineState, HasFoundIn, HoldsNoFullChunk, SameShard, StandsForPart, chunk_of, scope_of, searched_to}
use Rattle.search_engine.specs.Scope.{candidates_in, kept_by, kept_samples, scope_of_channels, scope_of_part, searched, spectrum_size}

-- the counts are those of the cells in the channels without a mark, for each delay that is searched
abbrev pub CountsKept : Observation → Search → List Bool → List ℕ → Type 0
CountsKept o s masked counts =
    (d : ℕ) → s.min_delay ≤ d → d ≤ s.max_delay
    → slice_index counts d ≡ kept_cells (kept_by masked) (edges o) o.channels d

-- The search of some channels samples no other, and where its cells are counted, finds the masked candidates. And where
-- nothing is folded, the search of a part of the spectra that the part needs finds the part of the whole candidate
-- list.
pub record ScopesAreFound : Type 0 where
  pub samples : (o : Observation) (masked : List Bool) (counts bytes : List ℕ) →
      searched o (scope_of_channels masked counts) bytes ≡ kept_samples o masked bytes
  pub channels : (o : Observation) (s : Search) (masked : List Bool) (counts bytes : List ℕ) →
      CountsKept o s masked counts →
      candidates_in o (scope_of_channels masked counts) s bytes
      ≡ masked_candidates_of o s (kept_by masked) bytes
  pub part : (o : Observation) (bytes : List ℕ) (e : EngineState) (place until : ℕ) →
      e.search.fold_max < e.search.fold_min →
      HasFoundIn o (scope_of_part o.channels (first_needed e.search place) place until) bytes e →
      e.book ≡ book_of e.search.max_candidates (shard_part e.search e.shard
      (within_part place until (candidates_of o e.search bytes)))

-- The book of an engine that looks for a part. As long as it runs, it has the pulses of the part that end before the
-- spectrum to which it has searched, whatever data follow; once it has ended, all pulses of the part. The engine begins
-- with the first spectrum that is needed for `needed`, a place before the part or where the part begins. And where it
-- holds no full chunk, it has searched all whole chunks.
pub record PartsAreFound : Type 0 where
  pub chunks : (o : Observation) (bytes : List ℕ) (e : EngineState) (until : ℕ) →
      e.sums.pulses.sought.until ≡ Some until → length bytes ≤ until * spectrum_size o →
      StandsForPart o bytes e → HoldsNoFullChunk e →
      let spectra = (filterbank_of o bytes).spectra - e.sums.pulses.sought.first in
      e.sums.carry.fed ≡ spectra - spectra % chunk_of e.search
  pub book : (o : Observation) (bytes more : List ℕ) (e : EngineState)
      (needed place until : ℕ) →
      e.search.fold_max < e.search.fold_min → needed ≤ place → searched_to e ≤ until →
      scope_of e ≡ scope_of_part o.channels (first_needed e.search needed) place until →
      All (λ byte. byte < 256) more → StandsForPart o bytes e →
      e.book ≡ book_of e.search.max_candidates (shard_part e.search e.shard
      (within_part place (searched_to e) (candidates_of o e.search (bytes ++ more))))
  pub ended : (o : Observation) (front bytes : List ℕ) (d e : EngineState)
      (needed place until : ℕ) →
      e.search.fold_max < e.search.fold_min → needed ≤ place →
      StandsForPart o front d → SameShard e d →
      HasFoundIn o (scope_of_part o.channels (first_needed e.search needed) place until) bytes e →
      e.book ≡ book_of e.search.max_candidates (shard_part e.search e.shard
      (within_part place until (candidates_of o e.search bytes)))
