-- A search without the channels of a mask, from its opening to its text.
-- Source: this project's choice.
use Rattle.std.specs.Prelude.{◌≡◌, ℕ, ◌+◌, ◌^◌, ◌≤◌, ◌<◌, All, Bool, List, None, Result}
use Rattle.dada_model.specs.Bounds.{ObservationInRange, most_delay}
use Rattle.dada_model.specs.Observation.{Observation, edges}
use Rattle.psr_base.specs.Written.{SinkSeen}
use Rattle.search_model.specs.declared.search.Search.{Search}
use Rattle.search_model.specs.Search.{SettingsInRange, in_one_shard}
use Rattle.search_model.specs.Masks.{kept_cells, masked_candidates_of, masked_labels}
use Rattle.search_model.specs.Observed.{filterbank_of}
use Rattle.candidate_book.specs.Book.{book_of}
use Rattle.candidate_book.specs.Conditions.{IsSearched}
use Rattle.candidate_book.specs.Merged.{WroteText}
use Rattle.candidate_book.specs.declared.merged.Totals.{Totals}
use Rattle.shard_search.specs.Sought.{cells_in}
use Rattle.search_engine.specs.Engine.{EngineState, StandsForPart, scope_of, spectra_fed}
use Rattle.search_engine.specs.Scope.{Scope, kept_by}

-- What is searched of an observation: all spectra and all ends, in the channels that a mask keeps. A path sum of each
-- delay up to a longest one adds up the cells of its path in these, and none more cells than its path has.
pub record IsScopeOf (o : Observation) (max_delay : ℕ) (mask : List Bool) (scope : Scope)
    : Type 0 where
  pub keeps : (c : ℕ) → kept_by scope.masked c ≡ kept_by mask c
  pub cells : (d : ℕ) → d ≤ max_delay
      → cells_in scope.sought d ≡ kept_cells (kept_by mask) (edges o) o.channels d
  pub few : (d : ℕ) → cells_in scope.sought d ≤ o.channels + d
  pub first : scope.sought.first ≡ 0
  pub place : scope.sought.place ≡ 0
  pub until : scope.sought.until ≡ None

-- an engine can tell how many cells it counts for each delay
pub record TellsCells (e : EngineState) : Type 0 where
  pub most : e.search.max_delay ≤ most_delay
  pub small : (d : ℕ) → d ≤ most_delay → cells_in (scope_of e).sought d < 2 ^ 32

-- an engine searches all delays of an observation in the channels that a mask keeps
pub record SearchesKept (o : Observation) (s : Search) (mask : List Bool) (e : EngineState)
    : Type 0 where
  pub bounds : ObservationInRange o
  pub range : SettingsInRange s
  pub search_is : e.search ≡ in_one_shard s
  pub shard_is : e.shard ≡ 0
  pub scope : IsScopeOf o s.max_delay mask (scope_of e)

-- an engine searches the channels that a mask keeps, and was fed these data bytes
pub record StandsForKept (o : Observation) (s : Search) (mask : List Bool) (bytes : List ℕ)
    (e : EngineState) : Type 0 where
  pub searches : SearchesKept o s mask e
  pub part : StandsForPart o bytes e

-- an engine has found the candidates of these data bytes in the channels that a mask keeps
pub record HasFoundKept (o : Observation) (s : Search) (mask : List Bool) (bytes : List ℕ)
    (e : EngineState) : Type 0 where
  pub searches : SearchesKept o s mask e
  pub book : e.book
      ≡ book_of s.max_candidates (masked_candidates_of o s (kept_by mask) bytes)
  pub spectra : spectra_fed e ≡ (filterbank_of o bytes).spectra
  pub searched : All IsSearched e.book.kept

-- the masked text was written, or its front at a fault, and its candidates were counted
abbrev pub WroteMasked : {E : Type 0} → Observation → Search → List Bool → List ℕ
    → SinkSeen → SinkSeen → Result Totals E → Type 0
WroteMasked o s mask bytes old new result =
    WroteText (masked_labels o (kept_by mask)) (filterbank_of o bytes).spectra
    (masked_candidates_of o s (kept_by mask) bytes) old new result
