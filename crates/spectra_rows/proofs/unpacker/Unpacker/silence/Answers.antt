use Rattle.std.proofs.Common.{arith}
use Rattle.spectra_rows.proofs.Silence.{keeps_less}
use Rattle.spectra_rows.proofs.Standing.{still_room}
use Rattle.spectra_rows.proofs.unpacker.Unpacker.silence.Goals as goal

pub returns-clause-kept : goal.returns-clause-kept
returns-clause-kept c =
    let f = c.self.inside in
    let within = c.self.invariant.within in
    let few = still_room f.spectrum f.layout.chunk f.ready f.filled 0 0 c.self.invariant.some_bytes
    (omega (arith, within)) (omega arith) in
    keeps_less _ c.args.self.now _ _ c.args.channel c.self.view_is c.silence.ensures.kind (omega (arith, few))
    c.silence.ensures.silences
