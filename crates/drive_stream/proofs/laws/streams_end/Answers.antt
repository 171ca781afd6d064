use Rattle.drive_stream.proofs.Ending.{streams_to_end}
use Rattle.drive_stream.proofs.laws.streams_end.Goals as goal

pub returns : goal.returns
returns g c s told before after one ends =
    let t = g.T.Streaming in
    streams_to_end c.bytes_are_joined.ensures c.walk_joins_data.ensures (t.block c.args.task.now)
    (t.takes c.args.task.now) (t.leaves c.args.task.now) s one told before after (t.refuses c.args.task.now) ends
