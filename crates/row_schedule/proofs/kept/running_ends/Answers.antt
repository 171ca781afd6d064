use Rattle.row_schedule.specs.Laws.{RunningEnds}
use Rattle.row_schedule.proofs.Carrying.{ends}
use Rattle.row_schedule.proofs.kept.running_ends.Goals as goal

pub returns : goal.returns
unfolding RunningEnds
returns c = ends
