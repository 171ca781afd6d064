use Rattle.std.proofs.Common.{◌≡◌, vec_capacity, length}
use Rattle.row_schedule.proofs.spare.fill_up.Given as goal

abbrev pub invariant-loop-long : goal.invariant-loop-long
invariant-loop-long g l = (length l.list.items ≡ l._long) × (vec_capacity l.list ≡ vec_capacity l.fn.list)
