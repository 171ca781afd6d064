use Rattle.disk_feeder.specs.Filling.{HoldsAll}
use Rattle.drive_lone.proofs.Endings.{words_law}
use Rattle.drive_lone.proofs.ends.alone_at_words.Goals as goal

pub returns-clause-plain : goal.returns-clause-plain
returns-clause-plain g c = λ inputs.
    let calm : Type 0 = g.I.Inputs.is_calm inputs in
    words_law calm calm (c.end_at_words.ensures inputs)

pub returns-clause-with_more : goal.returns-clause-with_more
returns-clause-with_more g c = λ inputs told more.
    let calm : Type 0 = g.I.Inputs.is_calm inputs in
    words_law calm (calm × HoldsAll told more) (c.end_at_words.ensures inputs)
