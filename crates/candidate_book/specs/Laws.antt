-- A law of books that are merged; a function of this crate carries it.
-- Source: this project's choice.
use Rattle.std.specs.Prelude.{List, Option}
use Rattle.search_model.specs.declared.candidate.Candidate.{Candidate}
use Rattle.search_model.specs.Order.{IsMergeOf}
use Rattle.candidate_book.specs.Book.{BookContents}
use Rattle.candidate_book.specs.Conditions.{kept_lists, CanBeMerged}

-- books that can be merged have a merged list
abbrev pub BooksHaveAMerge : Type 0
BooksHaveAMerge = (books : List (Option BookContents)) → CanBeMerged books →
    (merged : List Candidate) × IsMergeOf (kept_lists books) merged
