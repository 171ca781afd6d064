use Rattle.disk_feeder.specs.Filling.{HoldsAll}
use Rattle.drive_lone.proofs.Endings.{before_law}
use Rattle.drive_lone.proofs.ends.alone_before_session.Goals as goal

pub returns-clause-plain : goal.returns-clause-plain
returns-clause-plain g c = λ inputs.
    let calm : Type 0 = g.I.Inputs.is_calm inputs in
    before_law c.words_say_once.ensures c.statuses_say_stops.ensures calm calm (c.end_before_session.ensures inputs)

pub returns-clause-with_more : goal.returns-clause-with_more
returns-clause-with_more g c = λ inputs told more.
    let calm : Type 0 = g.I.Inputs.is_calm inputs in
    before_law c.words_say_once.ensures c.statuses_say_stops.ensures calm (calm × HoldsAll told more)
    (c.end_before_session.ensures inputs)
