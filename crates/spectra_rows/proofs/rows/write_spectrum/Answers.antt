use Rattle.std.proofs.Common.{ℕ, ◌+◌, length, arith}
use Rattle.spectra_rows.specs.Cells.{cell, channel_place}
use Rattle.spectra_rows.proofs.Parts.{value_stored, more_places, sample_within}
use Rattle.spectra_rows.proofs.rows.write_spectrum.Goals as goal

pub loop-p-preserved : goal.loop-p-preserved
loop-p-preserved g c =
    let l = c.args.layout in
    let numbers = g.T.RowSample.numbers in
    let long = g.met.T.RowSample.long c.loop-p.rows in
    let p = c.loop-p.p in
    let t = c.args.spectrum in
    let value : ℕ → ℕ → ℕ = cell l.channels l.nbit l.npol c.args.bytes.now in
    more_places (channel_place l.channels l.is_falling) l.channels l.chunk value
    (numbers c.args.rows.now) (numbers c.loop-p.rows) (numbers c.put.new.rows) c.args.place p (p + 1) t (t + 1)
    (omega arith) (omega arith) c.loop-p.invariant
    (value_stored l.channels l.is_falling l.chunk p c.row_of.result t (numbers c.loop-p.rows)
    (numbers c.put.new.rows) value (omega arith) c.row_of.ensures.row c.requires.chunk (omega (arith, long))
    c.put.ensures)

pub overflow_add-spectrum : goal.overflow_add-spectrum
overflow_add-spectrum g c =
    let l = c.args.layout in
    let within = sample_within l.channels l.chunk c.loop-p.p c.args.spectrum (length c.args.rows.now) (omega arith)
    c.requires.chunk c.requires.room in
    omega (arith, within)

pub overflow_mul-spectrum : goal.overflow_mul-spectrum
overflow_mul-spectrum g c =
    let l = c.args.layout in
    let within = sample_within l.channels l.chunk c.loop-p.p c.args.spectrum (length c.args.rows.now) (omega arith)
    c.requires.chunk c.requires.room in
    omega (arith, within)
