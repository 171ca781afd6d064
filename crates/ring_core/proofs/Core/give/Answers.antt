use Rattle.std.proofs.Common.{inl, refl}
use Rattle.ring_core.specs.Machine.{Event, Answer}
use Rattle.ring_core.proofs.Rings.{ring_by}
use Rattle.ring_core.proofs.Core.give.Goals as goal

pub set_reader-requires-clause-ring : goal.set_reader-requires-clause-ring
set_reader-requires-clause-ring c = ring_by _ (Event.Give c.args.i) Answer.Given _ c.in-Some.ensures.ring
    (inl (_, c.in-Some.ensures.at, c.if-not-is_out.ensures.0 refl, refl, refl))
