use Rattle.std.proofs.Common.{◌≡◌, length}
use Rattle.row_schedule.specs.Follows.{AreSteps}
use Rattle.row_schedule.proofs.builder.Builder.steps.Given as goal

abbrev pub invariant-loop-j : goal.invariant-loop-j
invariant-loop-j l = record {
  entries : length l.steps.items ≡ l.j;
  right : AreSteps l.rows l.self.narrow l.self.orders l.places l.chunk l.steps.items;
}
