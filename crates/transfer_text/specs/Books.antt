-- The books of a search of one or more transfers, whose lists are merged of them.
-- Source: this project's choice.
use Rattle.std.specs.Prelude.{◌≡◌, ℕ, List, [], length, slice_get, slice_index, slice_index_or, All, Option, Some, None, IsSome, IfSome}
use Rattle.dada_model.specs.Observation.{Observation}
use Rattle.search_model.specs.Observed.{labels_of}
use Rattle.search_model.specs.Order.{IsMergeOf}
use Rattle.candidate_book.specs.Book.{BookContents}
use Rattle.candidate_book.specs.Conditions.{CanBeMerged, kept_lists}
use Rattle.transfer_text.specs.Text.{FoundList}

-- the list of a transfer is merged of its books, and its text is written with this observation and number of spectra
pub record IsMerged
    (found : FoundList) (observation : Option Observation) (books : List (Option BookContents))
    (spectra : ℕ) : Type 0 where
  pub described : IfSome observation (λ o. found.labels ≡ labels_of o)
  pub counted : found.spectra ≡ spectra
  pub merged : IsMergeOf (kept_lists books) found.list

-- and so is that of each transfer
pub record AreMerged
    (lists : List FoundList) (observations : List (Option Observation))
    (books : List (List (Option BookContents))) (spectra : List ℕ) : Type 0 where
  pub count : length lists ≡ length books
  pub each : (k : ℕ) (found : FoundList) → slice_get lists k ≡ Some found →
      IsMerged found (slice_index_or observations k None) (slice_index_or books k [])
      (slice_index spectra k)

-- there is an observation and a number of spectra for each transfer, and its books can be merged
pub record CanBeWritten
    (observations : List (Option Observation)) (books : List (List (Option BookContents)))
    (spectra : List ℕ) : Type 0 where
  pub observed : length observations ≡ length books
  pub counted : length spectra ≡ length books
  pub there : All IsSome observations
  pub mergeable : All CanBeMerged books
