use Rattle.std.proofs.Common.{ℕ}
use Rattle.row_model.specs.Sums.{Sums, Fit}
use Rattle.row_schedule.specs.Moving.{KeepFirst, kept_lists}
use Rattle.row_schedule.specs.Running.{Kept}
use Rattle.row_schedule.proofs.kept.take_rows.Given as goal

abbrev pub invariant-loop-r : goal.invariant-loop-r
invariant-loop-r l = (y : Sums) (u : ℕ) → Fit l.next.narrow y u →
    Kept l.rows l.before.narrow y u (kept_lists l.old_narrow l.old_wide) →
    KeepFirst l.rows l.next.narrow y u (kept_lists l.kept_narrow l.kept_wide) l.r
