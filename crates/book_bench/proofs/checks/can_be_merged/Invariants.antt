use Rattle.std.proofs.Common.{ℕ, ◌<◌, length, get_or, None}
use Rattle.candidate_book.specs.Conditions.{kept_in}
use Rattle.book_bench.specs.Parts.{IsPart}
use Rattle.book_bench.proofs.checks.can_be_merged.Given as goal

-- the books so far are parts
abbrev pub invariant-loop-k : goal.invariant-loop-k
invariant-loop-k l = (j : ℕ) → j < l.k → IsPart (length l.books) j (kept_in (get_or l.books j None))
