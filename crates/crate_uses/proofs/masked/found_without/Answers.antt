use Rattle.std.proofs.Common.{[]}
use Rattle.crate_uses.proofs.masked.found_without.Goals as goal

pub returns-clause-ok : goal.returns-clause-ok
returns-clause-ok c =
    let o = c.args.observation.now in
    let s = c.args.search.now in
    let mask = c.args.mask.now in
    c.end.ensures.found o s mask c.args.bytes.now
    (c.feed.ensures.stands o s mask [] c.in_ok-engine.ensures.stands)
