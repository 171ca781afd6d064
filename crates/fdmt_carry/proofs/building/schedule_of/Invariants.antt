use Rattle.std.proofs.Common.{◌≡◌, take}
use Rattle.row_schedule.specs.Schedules.{IsInOrder, building}
use Rattle.fdmt_carry.proofs.building.schedule_of.Given as goal

abbrev pub invariant-loop-i : goal.invariant-loop-i
invariant-loop-i l = record {
  builder : l.builder ≡ building l.fn.narrow.items l.fn.slots.items (take l.i l.orders);
  order : IsInOrder l.rows l.builder;
}
