use Rattle.psr_search.proofs.Endings.{outcome}
use Rattle.psr_search.proofs.top.run.Goals as goal

pub returns-clause-outcome : goal.returns-clause-outcome
returns-clause-outcome g c =
    outcome _ _ _ _ _ _ _ _ _ _ _ _ c.tell-status.result c.search-stop.ensures.ends c.tell-status.ensures.status
    (c.tell-status.ensures.told _ _ _ c.search-stop.ensures.ends.said)

pub returns-clause-broken : goal.returns-clause-broken
returns-clause-broken g c = λ failed. c.search-stop.ensures.broken (c.tell-status.ensures.read_fault failed)

pub returns-clause-left : goal.returns-clause-left
returns-clause-left g c = c.search-stop.ensures.left c.tell-status.result c.tell-status.ensures.none
