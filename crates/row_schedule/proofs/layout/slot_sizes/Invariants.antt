use Rattle.std.proofs.Common.{◌≡◌, ℕ, ◌+◌, ◌≤◌, ◌<◌, length, slice_index}
use Rattle.row_schedule.specs.Orders.{order_at}
use Rattle.row_schedule.specs.Layout.{tail_of}
use Rattle.row_schedule.proofs.layout.slot_sizes.Given as goal

abbrev pub invariant-loop-order : goal.invariant-loop-order
invariant-loop-order l = record {
  entries : length l.sizes.items ≡ l.slots;
  short : (s : ℕ) → slice_index l.sizes.items s ≤ 131072;
  enough : (j : ℕ) → j < l.order-index → tail_of l.rows (order_at l.orders j).row + l.most
      ≤ slice_index l.sizes.items (order_at l.orders j).slot;
}
