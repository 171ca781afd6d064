use Rattle.row_schedule.specs.Laws.{RunningBegins}
use Rattle.row_schedule.proofs.Carrying.{begins}
use Rattle.row_schedule.proofs.kept.running_begins.Goals as goal

pub returns : goal.returns
unfolding RunningBegins
returns c = begins
