use Rattle.disk_feeder.proofs.Standing.{begins}
use Rattle.disk_feeder.proofs.Turning.{runs}
use Rattle.disk_feeder.proofs.laws.feeders_begin.Goals as goal

pub returns : goal.returns
returns g c = λ f told headers blocks feeds running.
    begins c.ends_are_counted.ensures c.walk_goes_on.ensures f.stream told headers blocks
    (runs f.stream told headers blocks running feeds)
