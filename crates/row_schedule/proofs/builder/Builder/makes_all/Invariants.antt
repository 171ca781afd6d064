use Rattle.std.proofs.Common.{◌≡◌, ℕ, ◌<◌, true, length, slice_index_or}
use Rattle.row_schedule.specs.Orders.{is_made}
use Rattle.row_schedule.proofs.builder.Builder.makes_all.Given as goal

abbrev pub invariant-loop-r : goal.invariant-loop-r
invariant-loop-r l = (r : ℕ) → r < l.r → 0 < slice_index_or l.rows.tails.items r 0 →
    is_made l.self.orders (length l.self.orders) r ≡ true
