use Rattle.run_outcome.proofs.RunFiles.{runs_record}
use Rattle.run_outcome.proofs.laws.runs_record_blocks.Goals as goal

pub returns : goal.returns
returns c = runs_record
