use Rattle.psr_live.proofs.task.LiveTaskStreaming.open.Goals as goal

pub returns-in-Err-clause-refused : goal.returns-in-Err-clause-refused
returns-in-Err-clause-refused c = c.open_fault.ensures _ c.in-Err.ensures.refused
