use Rattle.std.proofs.Common.{sym}
use Rattle.psr_mask.proofs.Statuses.{whole_is}
use Rattle.psr_mask.proofs.writing.write_end.Goals as goal

pub of_engine-requires : goal.of_engine-requires
of_engine-requires g c =
    let w = whole_is c.args.feed (sym c.in-None.ensures.is) in
    let held = c.requires w.0 w.1 in
    (c.args.observation.now, c.args.search.now, held.0, held.2.searches)

pub write_text-requires : goal.write_text-requires
write_text-requires g c =
    let w = whole_is c.args.feed (sym c.in-None.ensures.is) in
    let held = c.requires w.0 w.1 in (
      held.0,
      held.1,
      c.of_engine.ensures.found c.args.observation.now c.args.search.now held.0 held.1 held.2.searches held.2.found,
    )

pub returns-in-None-clause-ended : goal.returns-in-None-clause-ended
returns-in-None-clause-ended g c = λ mask bytes holds.
    let o = c.args.observation.now in
    let s = c.args.search.now in
    rw (← c.in-None.ensures.is) (c.write_text-in-None.ensures.ended mask bytes
    (c.of_engine.ensures.found o s mask bytes holds.searches holds.found))
