use Rattle.std.proofs.Common.{◌+◌, ◌*◌, ◌≤◌, length, sym, ap, subst, arith}
use Rattle.std.proofs.lemmas.List.{length-take-le}
use Rattle.spectra_rows.specs.Unpacking.{Unpacking, held_bytes, spectrum_bytes}
use Rattle.spectra_rows.proofs.Standing.{group_within, leaves_spectra, still_room}
use Rattle.spectra_rows.proofs.unpacker.Unpacker.take_group.Goals as goal

pub unpack-requires-clause-chunk : goal.unpack-requires-clause-chunk
unpack-requires-clause-chunk c =
    let f = c.self.inside in
    let n = length c.args.bytes.now in
    let short = c.self.invariant.short in
    let size = c.self.invariant.spectrum_is in
    let held_room = c.self.invariant.held_room in
    let long = length-take-le f.filled f.held.items (omega (arith, short, held_room)) in
    let room = c.requires.room in
    let P : Unpacking → Type 0 = λ u. held_bytes u + n ≤ u.chunk * spectrum_bytes u in
    let here = subst P (sym c.self.view_is) room in
    let whole = ap (λ w. f.ready * w) size in
    let all = ap (λ w. f.layout.chunk * w) size in
    still_room f.spectrum f.layout.chunk f.ready f.filled _ n c.self.invariant.some_bytes
    (omega (arith, here, long, whole, all)) (group_within _ _ n f.spectrum c.min-count.ensures)

pub returns-clause-takes : goal.returns-clause-takes
returns-clause-takes c =
    let f = c.self.inside in
    let n = length c.args.bytes.now in
    leaves_spectra _ c.args.self.now _ c.args.bytes.now _ _ f.spectrum c.self.view_is c.unpack.ensures.kind
    c.self.invariant.values c.self.invariant.spectrum_is c.requires.part
    (group_within _ _ n f.spectrum c.min-count.ensures) c.unpack.ensures.unpacked
