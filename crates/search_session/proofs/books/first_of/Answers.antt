use Rattle.std.proofs.Common.{◌∙◌, ap}
use Rattle.search_session.proofs.Taking.{first_taken, none_first}
use Rattle.search_session.proofs.books.first_of.Goals as goal

pub returns-in-Some : goal.returns-in-Some
returns-in-Some c = λ slot rest is. first_taken c.deref_mut.result.now.items c.pop_at.new.self.items c.pop_at.result
    c.in-Some.slot slot rest c.pop_at.ensures.value c.pop_at.ensures.items c.in-Some.is
    (ap (λ e. e.items) c.deref_mut.ensures.value ∙ is)

pub returns-in-None : goal.returns-in-None
returns-in-None c = λ slot rest is. absurd (none_first c.deref_mut.result.now.items c.pop_at.result slot rest
    c.pop_at.ensures.value c.in-None.is (ap (λ e. e.items) c.deref_mut.ensures.value ∙ is))
