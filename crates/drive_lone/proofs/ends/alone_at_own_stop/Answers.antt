use Rattle.disk_feeder.specs.Filling.{HoldsAll}
use Rattle.drive_lone.proofs.Endings.{own_law}
use Rattle.drive_lone.proofs.ends.alone_at_own_stop.Goals as goal

pub returns-clause-plain : goal.returns-clause-plain
returns-clause-plain g c = λ inputs. own_law (g.I.Inputs.is_calm inputs) c.words_say_once.ensures

pub returns-clause-with_more : goal.returns-clause-with_more
returns-clause-with_more g c = λ inputs told more.
    own_law (g.I.Inputs.is_calm inputs × HoldsAll told more) c.words_say_once.ensures
