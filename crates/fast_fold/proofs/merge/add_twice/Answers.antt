use Rattle.std.proofs.Common.{◌+◌, refl, arith, length}
use Rattle.fast_fold.proofs.Turned.{part_more}
use Rattle.fast_fold.proofs.merge.add_twice.Goals as goal

pub loop-done-preserved : goal.loop-done-preserved
loop-done-preserved c = record {
  within = omega (arith, c.min.ensures);
  even = part_more c.loop-done.even c.add_turned.new.out c.args.first.now c.args.second.now (length c.args.even.now)
      _ c.args.turn _ c.loop-done.done _ (omega arith) refl c.add_turned.ensures c.loop-done.invariant.even;
  odd = part_more c.loop-done.odd c.add_turned-in-loop-done.new.out c.args.first.now c.args.second.now
      (length c.args.even.now) _ (c.args.turn + 1) _ c.loop-done.done _ (omega arith) refl
      c.add_turned-in-loop-done.ensures c.loop-done.invariant.odd;
}
