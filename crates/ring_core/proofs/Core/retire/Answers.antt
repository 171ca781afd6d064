use Rattle.std.proofs.Common.{inl, refl}
use Rattle.ring_core.specs.Machine.{Event, Answer}
use Rattle.ring_core.proofs.Rings.{ring_by}
use Rattle.ring_core.proofs.Core.retire.Goals as goal

pub set_reader-requires-clause-ring : goal.set_reader-requires-clause-ring
set_reader-requires-clause-ring c = ring_by _ (Event.Retire c.args.i) Answer.Retired _ c.in-Some.ensures.ring
    (inl (_, c.in-Some.ensures.at, c.if-not-is_idle.ensures.0 refl, refl, refl))
