use Rattle.std.proofs.Common.{◌-◌, ◌≤◌}
use Rattle.spectra_rows.specs.Cells.{WritesCells, cell, channel_place}
use Rattle.spectra_rows.proofs.rows.unpack.Given as goal

abbrev pub invariant-loop-place : goal.invariant-loop-place
invariant-loop-place g l = record {
  inside : l.place ≤ l.layout.channels;
  written : WritesCells (g.T.RowSample.numbers l.fn.rows) (g.T.RowSample.numbers l.rows)
      (channel_place l.layout.channels l.layout.is_falling)
      l.layout.channels l.layout.chunk 0 l.place 0 l.count
      (cell l.layout.channels l.layout.nbit l.layout.npol l.bytes);
}

abbrev pub decreases-loop-place : goal.decreases-loop-place
decreases-loop-place g l = l.layout.channels - l.place
