use Rattle.std.proofs.Common.{arith}
use Rattle.spectra_rows.proofs.Parts.{lanes_stored}
use Rattle.spectra_rows.proofs.rows.write_values.Goals as goal

pub returns : goal.returns
returns g c =
    let l = c.args.layout in
    let numbers = g.T.RowSample.numbers in
    let long = g.met.T.RowSample.long c.args.rows.now in
    lanes_stored l.channels l.is_falling l.chunk c.args.place c.row_of.result c.args.from 16
    (numbers c.args.rows.now) _ c.args.values c.requires.place c.row_of.ensures.row c.requires.chunk
    (omega (arith, long, c.requires.room)) c.requires.wide c.put_bytes.ensures
