use Rattle.run_outcome.proofs.RunFiles.{whole_runs}
use Rattle.run_outcome.proofs.laws.whole_runs_record_data.Goals as goal

pub returns : goal.returns
returns c = whole_runs c.ends_are_counted.ensures c.streams_have_transfers.ensures
