use Rattle.fdmt_rows.proofs.GreatestValues.{one_more, at_is_in, greater_is_in}
use Rattle.fdmt_rows.proofs.greatest.Goals as goal

pub loop-k-preserved : goal.loop-k-preserved
loop-k-preserved c = record {
  bound = one_more c.args.row.now c.loop-k.k c.loop-k.most _ c.max-most.ensures c.loop-k.invariant.bound;
  found = greater_is_in c.args.row.now c.loop-k.most _ _ c.max-most.ensures
      c.loop-k.invariant.found (at_is_in c.args.row.now c.loop-k.k);
}
