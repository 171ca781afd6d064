use Rattle.row_schedule.specs.Laws.{LastRowsAreLeftOut}
use Rattle.row_schedule.proofs.Carrying.{left_out}
use Rattle.row_schedule.proofs.kept.last_rows_are_left_out.Goals as goal

pub returns : goal.returns
unfolding LastRowsAreLeftOut
returns c = left_out
