use Rattle.search_session.specs.Books.{BooksTaken}
use Rattle.search_session.proofs.books.books_of.Given as goal

abbrev pub invariant-loop-transfer : goal.invariant-loop-transfer
invariant-loop-transfer l = BooksTaken l._transfer l.fn.banks.items l.books.items l.banks.items
