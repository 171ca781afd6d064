use Rattle.std.proofs.Common.{refl}
use Rattle.live_search.proofs.Stepping.{bytes_are, came_of}
use Rattle.live_search.proofs.live.LiveSearch.take_bytes.Goals as goal

pub returns-clause-came : goal.returns-clause-came
returns-clause-came c = λ o t before was.
    let f = c.feed.ensures in
    let room = c.room-count.ensures in
    came_of o t before c.args.bytes.now c.args.self.now _ c.room-count.result refl f.same f.scope f.running f.searched
    (f.part o before) room.within room.most c.requires.few (bytes_are c.args.bytes.now c.type_inv.bytes) was
