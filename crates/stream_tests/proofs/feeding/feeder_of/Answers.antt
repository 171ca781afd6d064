use Rattle.stream_tests.proofs.feeding.feeder_of.Goals as goal

pub returns-clause-plan : goal.returns-clause-plan
returns-clause-plan g c = (c.over.ensures.opened _ _ _ _ c.requires).0

pub returns-clause-fresh : goal.returns-clause-fresh
returns-clause-fresh g c = (c.over.ensures.opened _ _ _ _ c.requires).1
