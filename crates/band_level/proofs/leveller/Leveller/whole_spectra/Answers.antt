use Rattle.std.proofs.Common.{arith}
use Rattle.std.proofs.Math.Nat.{div-mul-le_self}
use Rattle.band_level.specs.Values.{spectrum_bytes}
use Rattle.band_level.specs.Holding.{held_bytes}
use Rattle.band_level.proofs.Puts.{as_few}
use Rattle.band_level.proofs.Values.{some_bytes}
use Rattle.band_level.proofs.leveller.Leveller.whole_spectra.Goals as goal

pub returns : goal.returns
returns c =
    let f = c.self.inside.task.format in
    let s = c.self.invariant.stretch in
    let count = rw s.same at c.whole_spectra.ensures.count in
    let within = rw s.same at c.whole_spectra.ensures.inside in
    let inside = rw (← count) at (div-mul-le_self (held_bytes f c.self.inside.held) (spectrum_bytes f)) in
    let room = s.room in
    rw (← c.self.view_is) record {
      count = count;
      few = as_few _ _ (spectrum_bytes f) (some_bytes f c.self.invariant.task.format) (omega arith);
      inside = inside;
    }
