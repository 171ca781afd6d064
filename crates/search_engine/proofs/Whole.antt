-- What is searched: a scope, or all of an observation.
use Rattle.std.proofs.Common.{◌≡◌, ◌∙◌, ℕ, ◌*◌, ◌%◌, Bool, List, [], drop, min, sym, ap, subst, arith}
use Rattle.candidate_book.specs.Book.{book_of}
use Rattle.dada_model.specs.Observation.{Observation, edges}
use Rattle.fdmt_carry.specs.Carrying as carry
use Rattle.search_model.specs.Candidates.{plain_cells, candidates, shard_part}
use Rattle.search_model.specs.Observed.{candidates_of, filterbank_of}
use Rattle.search_model.specs.Samples.{Filterbank}
use Rattle.search_engine.specs.Engine.{EngineState, HasFoundIn, HasFoundPart, HasSearched, chunk_of, scope_of}
use Rattle.search_engine.specs.Scope.{Scope, kept_samples, searched, spectrum_size, whole_scope}
use Rattle.shard_search.specs.declared.tables.TheConstants.{MOST_TABLES}
use Rattle.shard_search.specs.Laws.{ShardsAreListed}
use Rattle.shard_search.specs.Sought.{Sought, sought_of, whole_of}

abbrev pub scope_at : List Bool → Sought → Scope
scope_at masked c = record { masked = masked; sought = c }

pub found_in : (o : Observation) (c : Scope) (bytes : List ℕ) (e : EngineState) → scope_of e ≡ c →
    HasFoundIn o c bytes e → HasFoundPart o bytes e
found_in o c bytes e same found = subst (λ (x : Scope). HasFoundIn o x bytes e) (sym same) found

-- all samples are searched
all_in : (o : Observation) (n : ℕ) (bytes : List ℕ) → searched o (whole_scope n) bytes ≡ filterbank_of o bytes
all_in o n bytes =
    let none : 0 * spectrum_size o ≡ 0 = omega arith in
    ap (λ k. kept_samples o [] (drop k bytes)) none

pub has_searched : ShardsAreListed → (o : Observation) (bytes : List ℕ) (e : EngineState) →
    scope_of e ≡ whole_scope o.channels → HasFoundPart o bytes e → HasSearched o bytes e
has_searched listed o bytes e whole part =
    let found : HasFoundIn o (whole_scope o.channels) bytes e =
    subst (λ (x : Scope). HasFoundIn o x bytes e) whole part in
    let same = all_in o o.channels bytes in
    record {
      book = found.book ∙ ap (λ (f : Filterbank). book_of e.search.max_candidates (shard_part e.search e.shard
          (sought_of (whole_of o.channels) (candidates f (edges o) (plain_cells o.channels) e.search)))) same
          ∙ ap (λ xs. book_of e.search.max_candidates (shard_part e.search e.shard xs))
          (listed.whole o.channels (candidates_of o e.search bytes));
      spectra = found.spectra ∙ ap (λ (f : Filterbank). f.spectra) same;
      plan = found.plan;
      carry = subst (λ (f : Filterbank). carry.StandsForSamples e.sums.carry f) same found.carry;
      tables = found.tables;
      last = found.last ∙ ap (λ (f : Filterbank). min (f.spectra % chunk_of e.search) MOST_TABLES) same;
    }
