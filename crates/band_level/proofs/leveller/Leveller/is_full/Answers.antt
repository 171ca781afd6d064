use Rattle.std.proofs.Common.{◌∙◌, arith}
use Rattle.band_level.proofs.leveller.Leveller.is_full.Goals as goal

pub returns-clause-full : goal.returns-clause-full
returns-clause-full c full =
    let s = c.self.invariant.stretch in
    rw (← c.self.view_is) ((rw s.same at (c.is_full.ensures.full full)) ∙ s.room)

pub returns-clause-short : goal.returns-clause-short
returns-clause-short c short =
    let few = rw c.self.invariant.stretch.same at (c.is_full.ensures.short short) in
    let room = c.self.invariant.stretch.room in
    rw (← c.self.view_is) (omega arith)
