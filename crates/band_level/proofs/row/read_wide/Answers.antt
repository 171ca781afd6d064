use Rattle.std.proofs.Common.{arith}
use Rattle.band_level.specs.Values.{read_bytes}
use Rattle.band_level.proofs.Values.{read_inside, part_more}
use Rattle.band_level.proofs.row.read_wide.Goals as goal

pub add_spectrum-requires-clause-inside : goal.add_spectrum-requires-clause-inside
add_spectrum-requires-clause-inside c =
    read_inside c.args.t c.args.format.average c.loop-k.k (read_bytes c.args.format) _ (omega arith) c.requires.inside

pub loop-k-preserved : goal.loop-k-preserved
loop-k-preserved c = record {
  values = λ i lt.
      part_more c.args.format c.args.bytes.now c.args.t i c.loop-k.k _ _ (c.loop-k.invariant.values i lt)
      (c.add_spectrum.ensures.added i lt);
  small = λ i. omega (arith, c.loop-k.invariant.small i, c.add_spectrum.ensures.few i);
}
