use Rattle.drive_stream.proofs.Answering.{goes_through, header_answered, refusal_answered, stop_answered}
use Rattle.drive_stream.proofs.laws.causes_are_answered.Goals as goal

pub returns-clause-accepted : goal.returns-clause-accepted
returns-clause-accepted g c s told before after stop one ends =
    let t = g.T.Streaming in
    goes_through (t.block c.args.task.now) (t.takes c.args.task.now) (t.refuses c.args.task.now)
    (t.leaves c.args.task.now) c.taken_is_not_refused.ensures c.accepted_is_not_refused.ensures s one told before after
    stop c.bytes_are_joined.ensures c.walk_joins_data.ensures ends

pub returns-clause-headers : goal.returns-clause-headers
returns-clause-headers g c s told before after stop one ends =
    let t = g.T.Streaming in
    header_answered (t.block c.args.task.now) (t.takes c.args.task.now) (t.refuses c.args.task.now)
    (t.leaves c.args.task.now) c.taken_is_not_refused.ensures c.accepted_is_not_refused.ensures s one told before after
    stop ends

pub returns-clause-refusals : goal.returns-clause-refusals
returns-clause-refusals g c s told before after stop one ends =
    let t = g.T.Streaming in
    refusal_answered (t.block c.args.task.now) (t.takes c.args.task.now) (t.refuses c.args.task.now)
    (t.leaves c.args.task.now) c.taken_is_not_refused.ensures c.accepted_is_not_refused.ensures s one told before after
    stop ends

pub returns-clause-stops : goal.returns-clause-stops
returns-clause-stops g c s told before after stop one ends =
    let t = g.T.Streaming in
    stop_answered (t.block c.args.task.now) (t.takes c.args.task.now) (t.refuses c.args.task.now)
    (t.leaves c.args.task.now) c.taken_is_not_refused.ensures c.accepted_is_not_refused.ensures s one told before after
    stop c.first_stop_counts.ensures ends
