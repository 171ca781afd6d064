use Rattle.std.proofs.Common.{◌+◌, ◌++◌, List, ℕ, length, take, ◌∙◌, sym, ap, arith}
use Rattle.std.proofs.lemmas.List.{length-take-le, take_all, take_at}
use Rattle.spectra_rows.specs.Unpacking.{Unpacking, spectrum_bytes}
use Rattle.spectra_rows.proofs.Standing.{completes_part}
use Rattle.spectra_rows.proofs.unpacker.Unpacker.complete_part.Goals as goal

pub returns-clause-takes : goal.returns-clause-takes
returns-clause-takes c =
    let f = c.self.inside in
    let n = length c.args.bytes.now in
    let short = c.self.invariant.short in
    let size = c.self.invariant.spectrum_is in
    let room = c.self.invariant.held_room in
    let front = length-take-le f.filled f.held.items (omega (arith, short, room)) in
    let part = ap (λ (u : Unpacking). length u.part) c.self.view_is in
    let bytes = ap (λ (u : Unpacking). spectrum_bytes u) c.self.view_is in
    let missing = c.requires.missing in
    let same = ap (λ (xs : List ℕ). length xs) c.as_mut_slice.ensures.value in
    let long = c.hold.auto.held in
    let held = take_at c.hold.new.held _ f.held.len (c.hold.auto.held ∙ c.as_mut_slice.ensures.len) in
    completes_part _ c.args.self.now _ c.args.bytes.now c.as_slice.result.now _ c.self.view_is c.unpack.ensures.kind
    c.self.invariant.values missing
    (c.as_slice.ensures.value ∙ held
    ∙ sym (take_all (f.filled + n) c.hold.new.held
    (omega (arith, front, part, bytes, missing, same, long, room, size)))
    ∙ c.hold.ensures
    ∙ ap (λ (xs : List ℕ). take f.filled xs ++ c.args.bytes.now) c.as_mut_slice.ensures.value)
    c.unpack.ensures.unpacked
