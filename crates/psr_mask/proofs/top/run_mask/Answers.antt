use Rattle.psr_mask.proofs.Endings.{outcome}
use Rattle.psr_mask.proofs.top.run_mask.Goals as goal

pub returns-clause-outcome : goal.returns-clause-outcome
returns-clause-outcome g c =
    outcome _ _ _ _ _ _ _ c.search-stop.result.stop _ c.tell_mask-status.result c.search-stop.ensures.ends
    c.tell_mask-status.ensures.status (c.tell_mask-status.ensures.told _ _ c.search-stop.ensures.ends.said)

pub returns-clause-early : goal.returns-clause-early
returns-clause-early g c = λ five. c.search-stop.ensures.early (c.tell_mask-status.ensures.memory five)

pub returns-clause-refused : goal.returns-clause-refused
returns-clause-refused g c = λ twelve.
    let own = c.tell_mask-status.ensures.refused twelve in
    c.search-stop.ensures.refused own.0 own.1

pub returns-clause-broken : goal.returns-clause-broken
returns-clause-broken g c = λ six. c.search-stop.ensures.broken (c.tell_mask-status.ensures.read_fault six)
