use Rattle.psr_mask.proofs.masking.MaskWordScoping.judge.Goals as goal

pub returns-in-Err-clause-refused : goal.returns-in-Err-clause-refused
returns-in-Err-clause-refused c = c.scope_fault.ensures c.args.observation.now c.in-Err.ensures.fault
