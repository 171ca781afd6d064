use Rattle.disk_feeder.specs.Feeder.{plan_at, block_size}
use Rattle.disk_feeder.proofs.Endings.{ending, has_ended}
use Rattle.disk_feeder.proofs.laws.feeders_end.Goals as goal

pub returns : goal.returns
returns g c = λ f told headers blocks end feeds ended.
    let e = has_ended f.stream told headers blocks end ended feeds in
    ending c.bytes_are_joined.ensures c.ends_are_counted.ensures c.streams_stop_once.ensures (plan_at f) (block_size f)
    e.before e.current headers blocks end e.sealed
