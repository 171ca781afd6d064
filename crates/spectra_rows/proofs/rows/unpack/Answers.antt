use Rattle.std.proofs.Common.{◌≡◌, ℕ, subst, arith}
use Rattle.spectra_rows.specs.Cells.{WritesCells, cell, channel_place}
use Rattle.spectra_rows.proofs.rows.unpack.Goals as goal

pub returns : goal.returns
returns g c =
    let l = c.args.layout in
    let numbers = g.T.RowSample.numbers in
    let all : c.loop-place.place ≡ l.channels = omega arith in
    subst (λ (n : ℕ). WritesCells (numbers c.args.rows.now) (numbers c.loop-place.rows)
    (channel_place l.channels l.is_falling) l.channels l.chunk 0 n 0 c.args.count
    (cell l.channels l.nbit l.npol c.args.bytes.now)) all
    c.loop-place.invariant.written
