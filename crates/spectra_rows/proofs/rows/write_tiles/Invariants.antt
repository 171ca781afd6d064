use Rattle.std.proofs.Common.{◌-◌, ◌+◌, ◌*◌, ◌≤◌, slice_index}
use Rattle.spectra_rows.specs.Cells.{WritesCells, channel_place}
use Rattle.spectra_rows.proofs.rows.write_tiles.Given as goal

abbrev pub invariant-loop-done : goal.invariant-loop-done
invariant-loop-done g l = record {
  above : l.from ≤ l.done;
  within : l.done ≤ l.to;
  written : WritesCells (g.T.RowSample.numbers l.fn.rows) (g.T.RowSample.numbers l.rows)
      (channel_place l.layout.channels l.layout.is_falling)
      l.layout.channels l.layout.chunk l.place l.end l.from l.done
      (λ p t. slice_index l.bytes (t * l.layout.channels + p));
}

abbrev pub decreases-loop-done : goal.decreases-loop-done
decreases-loop-done g l = l.to - l.done
