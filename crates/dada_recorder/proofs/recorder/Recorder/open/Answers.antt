use Rattle.dada_recorder.proofs.recorder.Recorder.open.Goals as goal

pub returns-clause-fresh : goal.returns-clause-fresh
returns-clause-fresh g c = c.over.ensures.fresh _ _ c.in_ok-space.ensures
