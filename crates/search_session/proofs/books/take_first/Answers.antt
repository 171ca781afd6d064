use Rattle.std.proofs.Common.{◌≡◌, refl, ap, ◌∙◌}
use Rattle.session_readers.specs.declared.bank.Bank.{Bank}
use Rattle.search_session.specs.Books.{book_at}
use Rattle.search_session.proofs.books.take_first.Goals as goal
use Rattle.session_readers.specs.Banks.{engines_of}

pub returns : goal.returns
returns c = λ bank slot rest is engines.
    let same : c.in-Some.bank ≡ bank = cc in
    let first = c.first_of.ensures slot rest (ap (λ (l : Bank). engines_of l) same ∙ engines) in
    (c.book_of.ensures ∙ ap book_at first.0, (_, refl, first.1))
