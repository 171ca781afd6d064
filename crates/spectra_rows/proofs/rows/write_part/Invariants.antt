use Rattle.std.proofs.Common.{◌+◌, ◌*◌, slice_index}
use Rattle.spectra_rows.specs.Cells.{WritesCells, channel_place}
use Rattle.spectra_rows.proofs.rows.write_part.Given as goal

abbrev pub invariant-loop-lower : goal.invariant-loop-lower
invariant-loop-lower g l = WritesCells (g.T.RowSample.numbers l.fn.rows) (g.T.RowSample.numbers l.rows)
    (channel_place l.layout.channels l.layout.is_falling)
    l.layout.channels l.layout.chunk l.place (l.place + l.lower) l.from (l.from + 16)
    (λ p t. slice_index l.bytes (t * l.layout.channels + p))

abbrev pub invariant-loop-upper : goal.invariant-loop-upper
invariant-loop-upper g l = WritesCells (g.T.RowSample.numbers l.fn.rows) (g.T.RowSample.numbers l.rows)
    (channel_place l.layout.channels l.layout.is_falling)
    l.layout.channels l.layout.chunk l.place (l.middle + l.upper) l.from (l.from + 16)
    (λ p t. slice_index l.bytes (t * l.layout.channels + p))
