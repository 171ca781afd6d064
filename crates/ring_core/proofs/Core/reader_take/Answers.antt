use Rattle.std.proofs.Common.{inl, inr, refl}
use Rattle.ring_core.specs.Machine.{Event, Answer}
use Rattle.ring_core.proofs.Rings.{ring_by}
use Rattle.ring_core.proofs.Core.reader_take.Goals as goal

pub set_reader-requires-clause-ring : goal.set_reader-requires-clause-ring
set_reader-requires-clause-ring c = ring_by _ (Event.ReaderTake c.args.i)
    (Answer.Got _ c.in-Some-label.label) _ c.in-Some.ensures.ring
    (inr (inr (inl (
      _,
      c.in-Some-label.label,
      c.in-Some.ensures.at,
      c.if-not-is_idle.ensures.0 refl,
      c.in_default-holder.ensures.free,
      c.in-Some-label.ensures,
      refl,
      refl,
    ))))
