use Rattle.search_session.specs.Books.{FirstsGiven}
use Rattle.search_session.proofs.books.take_firsts.Given as goal

abbrev pub invariant-loop-s : goal.invariant-loop-s
invariant-loop-s l = FirstsGiven l.s l.fn.banks l.row.items l.banks
