use Rattle.drive_stream.proofs.Ends.{all_reads, all_serves, all_memory, all_ends, all_breaks, all_refused}
use Rattle.drive_stream.proofs.run.stream_all.Goals as goal

pub returns-clause-inputs : goal.returns-clause-inputs
returns-clause-inputs g c =
    all_reads (g.T.Streaming.leaves c.args.task.now) c.requires.run c.requires.opened c.write_stream.ensures.wrote

pub returns-clause-serves : goal.returns-clause-serves
returns-clause-serves g c =
    all_serves (g.T.Streaming.leaves c.args.task.now) c.requires.run c.requires.opened c.write_stream.ensures.wrote

pub returns-clause-memory : goal.returns-clause-memory
returns-clause-memory g c =
    all_memory (g.T.Streaming.leaves c.args.task.now) c.requires.run c.requires.opened c.write_stream.ensures.wrote

pub returns-clause-ends : goal.returns-clause-ends
returns-clause-ends g c =
    all_ends (g.T.Streaming.leaves c.args.task.now) c.requires.run c.requires.opened c.feeders_begin.ensures
    c.bytes_are_joined.ensures c.walk_joins_data.ensures (g.T.Streaming.refuses c.args.task.now)
    c.write_stream.ensures.wrote

pub returns-clause-broken : goal.returns-clause-broken
returns-clause-broken g c =
    all_breaks (g.T.Streaming.leaves c.args.task.now) c.requires.run c.requires.opened c.faults_leave.ensures
    c.cuts_stay_told.ensures c.write_stream.ensures.wrote

pub returns-clause-refused : goal.returns-clause-refused
returns-clause-refused g c =
    all_refused (g.T.Streaming.leaves c.args.task.now) c.requires.run c.requires.opened c.write_stream.ensures.wrote
