use Rattle.row_schedule.specs.Laws.{NothingKept}
use Rattle.row_schedule.proofs.Carrying.{zeros}
use Rattle.row_schedule.proofs.kept.nothing_kept.Goals as goal

pub returns : goal.returns
unfolding NothingKept
returns c = zeros
