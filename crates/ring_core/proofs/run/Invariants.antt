use Rattle.std.proofs.Common.{map, take}
use Rattle.ring_core.specs.State.{IsSoundCore, RunsTo, event_of}
use Rattle.ring_core.proofs.run.Given as goal

abbrev pub invariant-loop-event : goal.invariant-loop-event
invariant-loop-event l = record {
  runs : RunsTo l.initial.core
      (map event_of (take l.event-index l.events)) l.core;
  ring : IsSoundCore l.core;
}
