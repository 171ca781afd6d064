-- Books that can be merged to one text: each is in order, and no two share a delay.
-- Source: this project's choice.
use Rattle.std.specs.Prelude.{◌≤◌, ◌≢◌, List, [], map, length, All, AllPairs, Contains, Option, Some, None}
use Rattle.dada_model.specs.Bounds.{most_delay}
use Rattle.search_model.specs.declared.candidate.Candidate.{Candidate}
use Rattle.search_model.specs.declared.candidate.Candidate.TheVariants.{Pulse, Fold}
use Rattle.search_model.specs.Search.{box_widths}
use Rattle.search_model.specs.Candidates.{delay_of}
use Rattle.search_model.specs.Order.{IsRising}
use Rattle.candidate_book.specs.Book.{BookContents}

-- what the book of a place keeps
abbrev pub kept_in : Option BookContents → List Candidate
kept_in None = []
kept_in (Some book) = book.kept

abbrev pub kept_lists : List (Option BookContents) → List (List Candidate)
kept_lists books = map kept_in books

-- its delay, its width and its halvings are ones that a search can have
abbrev pub IsSearched : Candidate → Type 0
IsSearched (Pulse _ delay width _) = (delay ≤ most_delay) × Contains box_widths width
IsSearched (Fold delay _ halvings _ _ _) = (delay ≤ most_delay) × (1 ≤ halvings) × (halvings ≤ 12)

-- no candidate of one list has the delay of one of the other
abbrev pub ShareNoDelay : List Candidate → List Candidate → Type 0
ShareNoDelay xs ys = (x y : Candidate) → Contains xs x → Contains ys y → delay_of x ≢ delay_of y

pub record CanBeMerged (books : List (Option BookContents)) : Type 0 where
  pub few : length books ≤ 7
  pub rise : All IsRising (kept_lists books)
  pub apart : AllPairs ShareNoDelay (kept_lists books)
  pub searched : All (All IsSearched) (kept_lists books)
