use Rattle.std.proofs.Common.{◌≡◌, List, length}
use Rattle.search_model.specs.declared.candidate.Candidate.{Candidate}
use Rattle.candidate_book.specs.Book.{book_of}
use Rattle.book_bench.proofs.made.book_of.Given as goal

-- as many were added as the loop has passed
abbrev pub invariant-loop-candidate : goal.invariant-loop-candidate
invariant-loop-candidate l =
    (added : List Candidate) × (l.book ≡ book_of l.limit added) × (length added ≡ l.candidate-index)
