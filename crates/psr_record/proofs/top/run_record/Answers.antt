use Rattle.psr_record.proofs.Endings.{outcome}
use Rattle.psr_record.proofs.top.run_record.Goals as goal

pub returns-clause-outcome : goal.returns-clause-outcome
returns-clause-outcome g c =
    outcome _ _ _ _ _ _ _ _ _ _ c.tell-status.result c.record_files-stop.ensures.ends c.tell-status.ensures.status
    (c.tell-status.ensures.told _ _ _ c.record_files-stop.ensures.ends.said)

pub returns-clause-broken : goal.returns-clause-broken
returns-clause-broken g c = λ failed. c.record_files-stop.ensures.broken (c.tell-status.ensures.read_fault failed)

pub returns-clause-left : goal.returns-clause-left
returns-clause-left g c = c.record_files-stop.ensures.left c.tell-status.result c.tell-status.ensures.none
