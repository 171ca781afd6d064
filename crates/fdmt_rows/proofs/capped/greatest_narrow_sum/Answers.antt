use Rattle.std.proofs.Common.{◌≡◌, slice_index, arith}
use Rattle.fdmt_rows.specs.Capped.{capped_sum}
use Rattle.fdmt_rows.proofs.Raising.{one_sum_more, least_sum_more}
use Rattle.fdmt_rows.proofs.capped.greatest_narrow_sum.Goals as goal

pub loop-k-preserved : goal.loop-k-preserved
loop-k-preserved c =
    let a = c.args.a.now in
    let b = c.args.b.now in
    let sum_is : c.saturating_add.result ≡ capped_sum (slice_index a c.loop-k.k) (slice_index b c.loop-k.k) =
    omega (arith, c.saturating_add.ensures) in
    record {
      enough = one_sum_more a b c.loop-k.k c.loop-k.most _ _ sum_is c.max-most.ensures c.loop-k.invariant.enough;
      least = λ bound.
          least_sum_more a b c.loop-k.k c.loop-k.most _ _ bound sum_is c.max-most.ensures c.loop-k.invariant.least;
    }
