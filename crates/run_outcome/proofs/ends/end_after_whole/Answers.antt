use Rattle.run_outcome.proofs.Endings.{after_whole}
use Rattle.run_outcome.proofs.ends.end_after_whole.Goals as goal

pub returns : goal.returns
returns g c inputs = after_whole c.whole_runs_record_data.ensures (g.I.Inputs.is_calm inputs)
