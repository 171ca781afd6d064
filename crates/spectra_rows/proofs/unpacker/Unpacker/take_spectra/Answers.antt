use Rattle.std.proofs.Common.{List, ℕ, length, ◌∙◌, ap, arith, length-drop}
use Rattle.spectra_rows.proofs.Standing.{rest_is, takes_more}
use Rattle.spectra_rows.proofs.unpacker.Unpacker.take_spectra.Goals as goal

pub loop-done-preserved : goal.loop-done-preserved
loop-done-preserved c =
    let done = c.loop-done.done in
    let before = c.loop-done.invariant.within in
    let within = c.take_group-done.ensures.within in
    let long = ap (λ (xs : List ℕ). length xs) (rest_is done c.args.bytes.now) ∙ length-drop done c.args.bytes.now in
    record {
      within = omega (arith, before, within, long);
      takes = takes_more c.args.self.now c.loop-done.self c.take_group-done.new.self done c.take_group-done.result
          c.args.bytes.now c.loop-done.invariant.takes c.take_group-done.ensures.takes;
      part = λ some. c.take_group-done.ensures.part;
    }
