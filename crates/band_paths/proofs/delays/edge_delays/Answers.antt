use Rattle.std.proofs.Common.{◌≡◌, length, rules}
use Rattle.std.proofs.Math.Seq.{take-append_seam}
use Rattle.band_paths.specs.Edges.{channels_of}
use Rattle.band_paths.proofs.Bands.{delays_are}
use Rattle.band_paths.proofs.delays.edge_delays.Goals as goal

pub returns : goal.returns
returns c =
    let edges = c.args.edges.now in
    let new = c.lay_path.new.delays in
    let is = c.lay_path.ensures in
    let len : c.in_ok-delays.delays.len ≡ length new = search rules in
    rw len (rw take-append_seam (record {
      path = is;
      value = (c.has_one_path.ensures edges (channels_of edges) c.args.d c.requires.edges).1 new is;
      delays = delays_are c.paths_rise.ensures edges c.args.d new c.requires.edges c.requires.delay is;
    }))
