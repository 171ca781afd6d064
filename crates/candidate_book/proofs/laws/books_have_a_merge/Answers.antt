use Rattle.candidate_book.specs.Conditions.{kept_lists}
use Rattle.candidate_book.proofs.Existence.{lists_merge}
use Rattle.candidate_book.proofs.laws.books_have_a_merge.Goals as goal

pub returns : goal.returns
returns c = λ books can. lists_merge c.order_is_strict.ensures (kept_lists books) can.rise can.apart
