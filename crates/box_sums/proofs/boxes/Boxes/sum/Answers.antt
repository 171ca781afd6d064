use Rattle.box_sums.proofs.boxes.Boxes.sum.Goals as goal

pub returns : goal.returns
returns c = λ n xs last below. c.kept_sum.ensures n xs last.feed below
