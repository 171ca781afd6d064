use Rattle.std.proofs.Common.{◌+◌, ◌++◌, List, ℕ, length, take, ◌∙◌, ap, arith}
use Rattle.std.proofs.lemmas.List.{length-take-le, take_at}
use Rattle.spectra_rows.proofs.Standing.{keeps_part}
use Rattle.spectra_rows.proofs.unpacker.Unpacker.keep_part.Goals as goal

pub returns : goal.returns
returns c =
    let f = c.self.inside in
    let short = c.self.invariant.short in
    let size = c.self.invariant.spectrum_is in
    let room = c.self.invariant.held_room in
    let long = length-take-le f.filled f.held.items (omega (arith, short, room)) in
    keeps_part _ c.args.self.now c.args.bytes.now _ c.self.view_is c.self.invariant.values
    (omega (arith, short, size, long)) c.requires.short
    (ap (λ (xs : List ℕ). take (f.filled + length c.args.bytes.now) xs)
    (take_at c.hold.new.held _ f.held.len (c.hold.auto.held ∙ c.as_mut_slice.ensures.len))
    ∙ c.hold.ensures
    ∙ ap (λ (xs : List ℕ). take f.filled xs ++ c.args.bytes.now) c.as_mut_slice.ensures.value)
