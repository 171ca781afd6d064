use Rattle.std.proofs.Common.{◌≡◌, ◌∙◌, ap, arith}
use Rattle.band_level.specs.Values.{read_bytes}
use Rattle.band_level.proofs.Values.{read_inside, part_more, part_first, part_value}
use Rattle.band_level.proofs.row.read_narrow.Goals as goal

pub set_bytes-requires-clause-inside : goal.set_bytes-requires-clause-inside
set_bytes-requires-clause-inside c =
    let h = read_inside c.args.t c.args.format.average 0 (read_bytes c.args.format) _
    c.requires.format.some_average c.requires.inside in
    omega arith

pub add_bytes-requires-clause-inside : goal.add_bytes-requires-clause-inside
add_bytes-requires-clause-inside c =
    read_inside c.args.t c.args.format.average c.loop-k.k (read_bytes c.args.format) _ (omega arith) c.requires.inside

pub loop-k-init : goal.loop-k-init
loop-k-init c = record {
  values = λ i lt. part_first c.args.format c.args.bytes.now c.args.t i _ (c.set_bytes.ensures.set i lt);
  small = λ i. omega (arith, c.set_bytes.ensures.small i);
}

pub loop-k-preserved : goal.loop-k-preserved
loop-k-preserved c = record {
  values = λ i lt.
      part_more c.args.format c.args.bytes.now c.args.t i c.loop-k.k _ _ (c.loop-k.invariant.values i lt)
      (c.add_bytes.ensures.added i lt);
  small = λ i. omega (arith, c.loop-k.invariant.small i, c.add_bytes.ensures.few i);
}

pub returns-clause-values : goal.returns-clause-values
returns-clause-values c = λ i lt.
    let some = c.requires.format.some_average in
    let least = c.loop-k.auto.k-end (omega arith) in
    let last : c.loop-k.k ≡ c.args.format.average = omega arith in
    c.loop-k.invariant.values i lt
    ∙ ap (part_value c.args.format c.args.bytes.now c.args.t i) last
