use Rattle.std.proofs.Common.{◌+◌}
use Rattle.spectra_rows.specs.Cells.{WritesCells, cell, channel_place}
use Rattle.spectra_rows.proofs.rows.write_spectrum.Given as goal

abbrev pub invariant-loop-p : goal.invariant-loop-p
invariant-loop-p g l = WritesCells (g.T.RowSample.numbers l.fn.rows) (g.T.RowSample.numbers l.rows)
    (channel_place l.layout.channels l.layout.is_falling)
    l.layout.channels l.layout.chunk l.place l.p l.spectrum (l.spectrum + 1)
    (cell l.layout.channels l.layout.nbit l.layout.npol l.bytes)
