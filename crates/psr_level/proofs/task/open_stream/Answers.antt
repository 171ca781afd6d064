use Rattle.psr_level.proofs.task.open_stream.Goals as goal

pub returns-in-Err-clause-stopped : goal.returns-in-Err-clause-stopped
returns-in-Err-clause-stopped c = c.in-Err.ensures.stopped c.args.header.now
