use Rattle.std.proofs.Common.{ℕ, ◌+◌, ◌-◌, ◌<◌}
use Rattle.row_model.specs.declared.Rows.{Rows}
use Rattle.row_model.specs.Sums.{Sums, AddUp, Fit}
use Rattle.row_schedule.specs.Samples.{AreNext, values_of}
use Rattle.row_schedule.specs.Follows.{Follows}
use Rattle.row_schedule.specs.Running.{AreAsLong, Running, Stands}
use Rattle.row_schedule.proofs.schedule.Schedule.run.Given as goal

abbrev pub invariant-loop-j : goal.invariant-loop-j
invariant-loop-j l = record {
  long : AreAsLong l.fn.stores l.stores;
  runs : (rows : Rows) (x : ℕ → ℕ → ℕ) (y : Sums) (u : ℕ) → Follows rows l.self → AddUp rows.sources.items x y →
      Fit l.self.narrow y (u + l.spectra) →
      AreNext x l.self.channels l.self.chunk u l.spectra (values_of l.samples) →
      Running rows l.self y u l.spectra l.from l.fn.stores → Running rows l.self y u l.spectra l.j l.stores;
  stands : (rows : Rows) (x : ℕ → ℕ → ℕ) (y : Sums) (u : ℕ) → Follows rows l.self → AddUp rows.sources.items x y →
      Fit l.self.narrow y (u + l.spectra) →
      AreNext x l.self.channels l.self.chunk u l.spectra (values_of l.samples) →
      Running rows l.self y u l.spectra l.from l.fn.stores → l.from < l.j →
      Stands rows l.self y u l.spectra l.stores (l.j - 1);
}
