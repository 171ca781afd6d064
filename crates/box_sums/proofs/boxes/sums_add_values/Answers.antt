use Rattle.box_sums.proofs.Values.{adds_values}
use Rattle.box_sums.proofs.boxes.sums_add_values.Goals as goal

pub returns : goal.returns
returns c = adds_values
