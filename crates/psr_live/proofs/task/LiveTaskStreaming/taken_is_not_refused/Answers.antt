use Rattle.psr_live.proofs.Streamed.{never_both}
use Rattle.psr_live.proofs.task.LiveTaskStreaming.taken_is_not_refused.Goals as goal

pub returns : goal.returns
returns c = λ o header refusal fits refused. never_both _ refusal fits refused
