use Rattle.std.proofs.Common.{arith}
use Rattle.spectra_rows.specs.Cells.{channel_place}
use Rattle.spectra_rows.proofs.Tiles.{tile_more}
use Rattle.spectra_rows.proofs.rows.write_part.Goals as goal

pub loop-lower-preserved : goal.loop-lower-preserved
loop-lower-preserved g c =
    let l = c.args.layout in
    let numbers = g.T.RowSample.numbers in
    let place = c.args.place in
    tile_more (channel_place l.channels l.is_falling) l.channels l.chunk place c.args.from place 0 c.loop-lower.lower
    c.turned-tile.result c.args.bytes.now (numbers c.args.rows.now) (numbers c.loop-lower.rows)
    (numbers c.write_values.new.rows) c.turned-tile.ensures.wide c.turned-tile.ensures.turned (omega arith)
    (omega arith) (omega arith) c.requires.chunk c.loop-lower.invariant c.write_values.ensures

pub loop-upper-preserved : goal.loop-upper-preserved
loop-upper-preserved g c =
    let l = c.args.layout in
    let numbers = g.T.RowSample.numbers in
    let place = c.args.place in
    tile_more (channel_place l.channels l.is_falling) l.channels l.chunk place c.args.from c.min-middle.result 1
    c.loop-upper.upper c.turned-tile.result c.args.bytes.now (numbers c.args.rows.now) (numbers c.loop-upper.rows)
    (numbers c.write_values-in-loop-upper.new.rows) c.turned-tile.ensures.wide c.turned-tile.ensures.turned
    (omega arith) (omega arith) (omega arith) c.requires.chunk c.loop-upper.invariant
    c.write_values-in-loop-upper.ensures
