use Rattle.std.proofs.Common.{inl, refl, ap}
use Rattle.ring_core.specs.Machine.{Event, Answer}
use Rattle.ring_core.specs.State.{phase_of}
use Rattle.ring_core.proofs.Rings.{ring_by}
use Rattle.ring_core.proofs.Core.attach.Goals as goal

pub set_reader-requires-clause-ring : goal.set_reader-requires-clause-ring
set_reader-requires-clause-ring c = ring_by _ (Event.Attach c.args.i) (Answer.Attached _) _ c.in-Some.ensures.ring
    (inl (_, c.in-Some.ensures.at, ap phase_of c.in-Detached.is, refl, refl))
