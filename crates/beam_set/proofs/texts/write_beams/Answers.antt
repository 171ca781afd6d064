use Rattle.std.proofs.Common.{◌≡◌, [], length, sym, arith}
use Rattle.std.proofs.lemmas.List.{length-map}
use Rattle.std.proofs.lemmas.Result.{err_from_is_err_and}
use Rattle.beam_set.specs.Beams.{found_at, found_in}
use Rattle.beam_set.proofs.Placed.{inside, listed, list_is, piece, piece_is}
use Rattle.beam_set.proofs.texts.write_beams.Goals as goal

pub write_beam-requires-clause-searched : goal.write_beam-requires-clause-searched
write_beam-requires-clause-searched g c =
    let beams = c.args.beams.now in
    let k = c.loop-k.k in
    let beam = c.index-beams-k.result in
    rw (list_is beams k beam c.loop-k-test.true c.index-beams-k.is) at
    (c.requires.searched k [] (listed beams k beam c.loop-k-test.true c.index-beams-k.is))

pub loop-k-preserved : goal.loop-k-preserved
loop-k-preserved g c =
    let o = c.args.obs.now in
    let beams = c.args.beams.now in
    let k = c.loop-k.k in
    let is = c.of-labels.ensures in
    let middle = g.K.Sink.seen c.loop-k.sink in
    let new = g.K.Sink.seen c.write_beam.new.sink in
    let text = piece_is o c.of-labels.result beams c.args.within c.args.more k c.index-beams-k.result is.channels
    is.beams is.within is.more c.loop-k-test.true c.index-beams-k.is in
    record {
      written = c.pieces_join.ensures.loops.one_more (piece o c.args.within c.args.more beams) k
          (g.K.Sink.seen c.args.sink.now) middle new c.loop-k.invariant.written
          (rw text at c.in_ok-write_beam.ensures.all);
    }

pub returns-in_err-write_beam : goal.returns-in_err-write_beam
returns-in_err-write_beam g c =
    let p = err_from_is_err_and c.from_residual.result c.from_residual.ensures.1 in
    let o = c.args.obs.now in
    let beams = c.args.beams.now in
    let k = c.loop-k.k in
    let is = c.of-labels.ensures in
    let middle = g.K.Sink.seen c.loop-k.sink in
    let new = g.K.Sink.seen c.write_beam.new.sink in
    let text = piece_is o c.of-labels.result beams c.args.within c.args.more k c.index-beams-k.result is.channels
    is.beams is.within is.more c.loop-k-test.true c.index-beams-k.is in
    rw p.1 (record {
      all = tt;
      front = c.pieces_join.ensures.loops.stops (piece o c.args.within c.args.more beams) k (length (found_in beams))
          (g.K.Sink.seen c.args.sink.now) middle new
          (inside beams k c.index-beams-k.result c.loop-k-test.true c.index-beams-k.is) c.loop-k.invariant.written
          (rw text at c.in_err-write_beam.ensures.front);
    })

pub returns : goal.returns
returns g c =
    let beams = c.args.beams.now in
    let long = length-map beams found_at in
    let all : c.loop-k.k ≡ length (found_in beams) = omega (arith, long, c.loop-k-test.false, c.loop-k.auto.k-end) in
    record {
      all = rw (sym all) c.loop-k.invariant.written;
      front = tt;
    }
