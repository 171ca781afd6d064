use Rattle.row_schedule.specs.Samples.{values_of}
use Rattle.row_schedule.specs.Filling.{WroteWide}
use Rattle.fdmt_carry.proofs.Tabled.{MakesBefore}
use Rattle.fdmt_carry.proofs.tables.Tables.fill_node.Given as goal

abbrev pub invariant-loop-r : goal.invariant-loop-r
invariant-loop-r l = WroteWide l.fn.stores l.stores
    × MakesBefore l.self l.pass.schedule.narrow l.k l.r l.spectra (values_of l.samples) l.fn.stores l.stores
