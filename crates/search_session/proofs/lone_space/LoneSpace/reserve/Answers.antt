use Rattle.std.proofs.Common.{◌<◌, refl, arith, rules}
use Rattle.std.specs.Prelude.{length}
use Rattle.search_session.proofs.Staffing.{taken_is, none_taken}
use Rattle.search_session.proofs.LoneTurns.{is_unread}
use Rattle.search_session.proofs.lone_space.LoneSpace.reserve.Goals as goal

pub unreachable-requires : goal.unreachable-requires
unreachable-requires c =
    let e = c.in_ok-hdu.ensures in
    let readers = c.in_ok-hdu.readers.items in
    let count = e.count in
    let alone = c.requires.alone in
    let near : 0 < length readers = omega arith in
    let h = e.fresh 0 near in
    none_taken readers readers 0 c.remove.result h.0 h.1 refl c.remove.ensures.value c.in_default.is

pub returns : goal.returns
returns c =
    let e = c.in_ok-hdu.ensures in
    let hdu = c.in_ok-hdu.hdu in
    let readers = c.in_ok-hdu.readers.items in
    let count = e.count in
    let alone = c.requires.alone in
    let near : 0 < length readers = omega arith in
    let h = e.fresh 0 near in
    record {
      shape_is = e.shape_is;
      writes = e.writes;
      sealed = e.sealed;
      no_data = e.no_data;
      alone = c.requires.alone;
      reader = rw (taken_is readers readers 0 c.remove.result h.0 c.in-Some.reader h.1 refl c.remove.ensures.value
          c.in-Some.is) at (is_unread hdu 0 h.0 h.2);
      room = search rules;
      bank_is = refl;
    }
