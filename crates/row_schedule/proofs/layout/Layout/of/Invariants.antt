use Rattle.std.proofs.Common.{◌+◌, ◌*◌, ◌≤◌}
use Rattle.row_schedule.specs.Layout.{AreLaid}
use Rattle.row_schedule.proofs.layout.Layout.of.Given as goal

abbrev pub invariant-loop-s : goal.invariant-loop-s
invariant-loop-s l = record {
  laid : AreLaid l.slots l.sizes l.s l.layout.places.items l.layout.narrow_size l.layout.wide_size;
  narrow : l.layout.narrow_size ≤ 24 + l.s * 131072;
  wide : l.layout.wide_size ≤ 12 + l.s * 131072;
}
