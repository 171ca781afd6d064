use Rattle.std.proofs.Common.{ℕ, ◌-◌}
use Rattle.row_model.specs.Sums.{Sums}
use Rattle.row_schedule.specs.Samples.{values_of}
use Rattle.row_schedule.specs.Filling.{AreGiven, WroteWide}
use Rattle.fdmt_carry.specs.Orders.{start_of}
use Rattle.fdmt_carry.specs.Tables.{RowsStand}
use Rattle.fdmt_carry.proofs.tables.Tables.fill_nodes.Given as goal

abbrev pub invariant-loop-done : goal.invariant-loop-done
invariant-loop-done l = WroteWide l.fn.stores l.stores
    × ((x : ℕ → ℕ → ℕ) (y : Sums) (u : ℕ) →
    AreGiven l.self.rows.rows l.pass.schedule.narrow x y u l.self.chunk l.spectra (values_of l.samples) l.fn.stores →
    RowsStand l.self (start_of l.self.rows (l.count - l.done)) y u l.spectra l.stores.wide)
