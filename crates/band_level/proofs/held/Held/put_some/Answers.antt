use Rattle.std.proofs.Common.{[], take}
use Rattle.band_level.proofs.Puts.{puts_bytes, puts_join, adds_puts}
use Rattle.band_level.proofs.held.Held.put_some.Goals as goal

pub returns-then-self-len-clause-puts : goal.returns-then-self-len-clause-puts
returns-then-self-len-clause-puts c =
    let old = c.args.self.now in
    rw c.fill.ensures.filled (puts_bytes old.format old (take c.fill.result c.args.bytes.now) c.bounds.ensures.format)

pub returns-clause-puts : goal.returns-clause-puts
returns-clause-puts c =
    let old = c.args.self.now in
    let mid = c.add_up.new.self in
    let piece = take c.fill-2.result c.args.bytes.now in
    rw c.fill-2.ensures.filled
    (puts_join old.format old mid _ [] piece (adds_puts old mid c.bounds.ensures.format c.add_up.ensures.adds)
    (puts_bytes old.format mid piece c.bounds.ensures.format))
