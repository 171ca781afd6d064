use Rattle.disk_feeder.specs.Filling.{HoldsAll}
use Rattle.drive_lone.proofs.Endings.{whole_law}
use Rattle.drive_lone.proofs.ends.alone_after_whole.Goals as goal

pub returns-clause-plain : goal.returns-clause-plain
returns-clause-plain g c = λ inputs.
    let calm : Type 0 = g.I.Inputs.is_calm inputs in
    whole_law c.words_say_once.ensures calm calm (c.end_after_whole.ensures inputs)

pub returns-clause-with_more : goal.returns-clause-with_more
returns-clause-with_more g c = λ inputs told more.
    let calm : Type 0 = g.I.Inputs.is_calm inputs in
    whole_law c.words_say_once.ensures calm (calm × HoldsAll told more) (c.end_after_whole.ensures inputs)
