use Rattle.std.proofs.Common.{refl}
use Rattle.search_session.specs.Stages.{IsFirstReader}
use Rattle.search_session.proofs.Staffing.{taken_is, none_taken}
use Rattle.search_session.proofs.staff.place_any_recorder.Goals as goal

pub unreachable-requires : goal.unreachable-requires
unreachable-requires g c =
    let readers = c.args.readers.items in
    let h : IsFirstReader c.args.hdu.now c.args.number readers =
    rw c.in-Some.is at c.requires.reader in
    none_taken readers readers 0 c.remove.result h.0 h.1 refl c.remove.ensures.value c.in_default-remove.is

pub recorder_of-requires-clause-part : goal.recorder_of-requires-clause-part
recorder_of-requires-clause-part g c =
    rw c.in-Some.is at c.requires.recorder

pub recorder_of-requires-clause-reader : goal.recorder_of-requires-clause-reader
recorder_of-requires-clause-reader g c =
    let readers = c.args.readers.items in
    let h : IsFirstReader c.args.hdu.now c.args.number readers =
    rw c.in-Some.is at c.requires.reader in
    rw (taken_is readers readers 0 c.remove.result h.0 c.in-Some-remove.reader h.1 refl c.remove.ensures.value
    c.in-Some-remove.is) at h.2

pub returns : goal.returns
returns g c =
    rw c.in-Some.is
    (c.recorder_of.result, c.recorder_of.ensures.on, c.recorder_of.ensures.new, c.place_recorder.ensures)
