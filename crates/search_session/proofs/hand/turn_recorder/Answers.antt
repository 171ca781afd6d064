use Rattle.std.proofs.Common.{Some, rules}
use Rattle.std.specs.Prelude.{IsSome}
use Rattle.session_readers.specs.Records.{RecordOn}
use Rattle.search_session.proofs.Recording.{record_still}
use Rattle.search_session.proofs.hand.turn_recorder.Goals as goal

pub returns-then-is_some-clause-moved : goal.returns-then-is_some-clause-moved
returns-then-is_some-clause-moved g c =
    let is_open = g.F.Files.is_open in
    let seen = g.F.Files.seen in
    let x = c.in-Some.recorder in
    let on : RecordOn is_open c.args.hdu.now x =
    rw c.in-Some.is at c.requires in
    let ended : IsSome x.end = search rules in
    rw c.in-Some.is (record_still seen 1 x on.count ended)
