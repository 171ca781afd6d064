use Rattle.std.proofs.Common.{◌≡◌, vec_capacity, length}
use Rattle.box_sums.specs.Tables.{IsFilledUp}
use Rattle.box_sums.proofs.keep.fill_up.Given as goal

abbrev pub invariant-loop-long : goal.invariant-loop-long
invariant-loop-long l = record {
  long : length l.table.items ≡ l._long;
  filled : IsFilledUp l.fn.table.items l.table.items;
  capacity : vec_capacity l.table ≡ vec_capacity l.fn.table;
}
