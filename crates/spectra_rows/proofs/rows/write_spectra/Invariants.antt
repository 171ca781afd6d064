use Rattle.spectra_rows.specs.Cells.{WritesCells, cell, channel_place}
use Rattle.spectra_rows.proofs.rows.write_spectra.Given as goal

abbrev pub invariant-loop-spectrum : goal.invariant-loop-spectrum
invariant-loop-spectrum g l = WritesCells (g.T.RowSample.numbers l.fn.rows) (g.T.RowSample.numbers l.rows)
    (channel_place l.layout.channels l.layout.is_falling)
    l.layout.channels l.layout.chunk l.place l.end l.from l.spectrum
    (cell l.layout.channels l.layout.nbit l.layout.npol l.bytes)
