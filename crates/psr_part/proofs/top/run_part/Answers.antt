use Rattle.psr_part.proofs.Endings.{outcome}
use Rattle.psr_part.proofs.top.run_part.Goals as goal

pub returns-clause-outcome : goal.returns-clause-outcome
returns-clause-outcome g c =
    outcome _ _ _ _ _ _ _ _ _ c.tell_part-status.result c.search-stop.ensures.ends c.tell_part-status.ensures.status
    (λ from said. c.tell_part-status.ensures.told _ from _ _ said)

pub returns-clause-early : goal.returns-clause-early
returns-clause-early g c = λ five. c.search-stop.ensures.early (c.tell_part-status.ensures.memory five)

pub returns-clause-refused : goal.returns-clause-refused
returns-clause-refused g c = λ thirteen.
    let own = c.tell_part-status.ensures.refused thirteen in
    c.search-stop.ensures.refused own.0 own.1

pub returns-clause-broken : goal.returns-clause-broken
returns-clause-broken g c = λ six. c.search-stop.ensures.broken (c.tell_part-status.ensures.read_fault six)
