use Rattle.disk_feeder.proofs.Standing.{headers_are}
use Rattle.disk_feeder.proofs.laws.headers_are_first.Goals as goal

pub returns : goal.returns
returns g c = λ f told headers blocks feeds.
    headers_are c.ends_are_counted.ensures f.stream told headers blocks feeds
