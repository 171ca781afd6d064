use Rattle.std.proofs.Common.{Some, rules}
use Rattle.std.specs.Prelude.{IsSome}
use Rattle.search_session.specs.Feeds.{FeedOn}
use Rattle.search_session.proofs.Feeding.{feed_still}
use Rattle.search_session.proofs.hand.turn_feeder.Goals as goal

pub returns-then-is_some-clause-moved : goal.returns-then-is_some-clause-moved
returns-then-is_some-clause-moved g c =
    let told = g.I.Inputs.told in
    let is_open = g.I.Inputs.is_open in
    let is_calm = g.I.Inputs.is_calm in
    let faults = g.I.Inputs.faults in
    let f = c.in-Some.feeder in
    let on : FeedOn told is_open c.args.hdu.now f =
    rw c.in-Some.is at c.requires in
    let ended : IsSome f.end = search rules in
    rw c.in-Some.is (feed_still told is_calm faults 1 f on.count ended)
