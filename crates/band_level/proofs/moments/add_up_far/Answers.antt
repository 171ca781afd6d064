use Rattle.std.proofs.Common.{◌+◌, arith}
use Rattle.band_level.proofs.Columns.{sums_more}
use Rattle.band_level.proofs.Puts.{has_fewer}
use Rattle.band_level.proofs.moments.add_up_far.Goals as goal

pub loop-t-preserved : goal.loop-t-preserved
loop-t-preserved c = record {
  sums = sums_more _ _ c.loop-t.t _ _ c.read.new.row _ _ _ _ _ _ c.loop-t.invariant.sums c.add_far.ensures.adds
      (omega arith) c.read.ensures.values;
  small = c.add_far.ensures.small c.loop-t.t c.loop-t.invariant.small;
}

pub read-requires-clause-held : goal.read-requires-clause-held
read-requires-clause-held c =
    has_fewer c.args.format c.args.held.now (c.loop-t.t + 1) c.args.count (omega arith) c.requires.held
