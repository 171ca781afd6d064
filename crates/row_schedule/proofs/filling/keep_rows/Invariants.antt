use Rattle.std.proofs.Common.{ℕ, ◌+◌, ◌<◌}
use Rattle.row_model.specs.Sums.{Sums, AddUp, Fit}
use Rattle.row_model.specs.Tails.{row_count}
use Rattle.row_schedule.specs.Filling.{AreKeptOn, StandsAtPlace}
use Rattle.row_schedule.specs.Moving.{kept_lists}
use Rattle.row_schedule.specs.Running.{Kept}
use Rattle.row_schedule.proofs.filling.keep_rows.Given as goal

abbrev pub invariant-loop-row : goal.invariant-loop-row
invariant-loop-row l = (x : ℕ → ℕ → ℕ) (y : Sums) (u : ℕ) → AddUp l.rows.sources.items x y →
    Fit l.schedule.narrow y (u + l.spectra) →
    Kept l.rows l.schedule.narrow y u (kept_lists l.fn.kept_narrow l.fn.kept_wide) →
    ((r : ℕ) → r < row_count l.rows → StandsAtPlace l.room y u l.spectra l.wide r) →
    AreKeptOn l.rows l.schedule.narrow y u l.spectra l.row (kept_lists l.kept_narrow l.kept_wide)
