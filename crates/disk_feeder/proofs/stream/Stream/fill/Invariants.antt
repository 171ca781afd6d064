use Rattle.std.proofs.Common.{◌≡◌, true}
use Rattle.psr_base.specs.Told.{Told}
use Rattle.disk_feeder.specs.Feeding.{KeepsInputs}
use Rattle.disk_feeder.specs.Streams.{KeepsStream, Fills, StreamRead, work_left, steps_left}
use Rattle.disk_feeder.proofs.stream.Stream.fill.Given as goal

abbrev pub invariant-loop-self : goal.invariant-loop-self
invariant-loop-self g l =
    let i = g.I.Inputs in
    record {
      kept : KeepsStream l.fn.self l.self;
      filled : Fills l.fn.self (i.told l.fn.inputs) l.self (i.told l.inputs);
      reads_on : (before : Told) → StreamRead before (i.told l.fn.inputs) l.fn.self →
          StreamRead before (i.told l.inputs) l.self;
      is_open : l.self.source.place.is_open ≡ true → i.is_open l.inputs;
      inputs : KeepsInputs i.told i.is_calm i.faults l.fn.self l.self l.fn.inputs l.inputs;
    }

abbrev pub decreases-loop-self : goal.decreases-loop-self
decreases-loop-self g l = steps_left l.self.due (work_left l.self)
