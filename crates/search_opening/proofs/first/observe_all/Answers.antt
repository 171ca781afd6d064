use Rattle.std.proofs.Common.{◌+◌, [], ◌∷◌, take, Some, length, sym, ap, subst, arith}
use Rattle.std.proofs.lemmas.List.{length-append}
use Rattle.disk_feeder.specs.Feeder.{headers_of}
use Rattle.search_opening.specs.First.{AreObserved}
use Rattle.search_opening.proofs.Observed.{none_observed, one_observed, earlier_observed}
use Rattle.search_opening.proofs.first.observe_all.Goals as goal

pub loop-transfer-init : goal.loop-transfer-init
loop-transfer-init g c = record {
  count = ap length c.new-observations.ensures;
  observed = subst (AreObserved []) (sym c.new-observations.ensures) none_observed;
}

pub loop-transfer-preserved : goal.loop-transfer-preserved
loop-transfer-preserved g c =
    let items = c.loop-transfer.observations.items in
    let longer = ap length c.push.ensures.items in
    let joined = length-append items (Some c.in-Ok.observation ∷ []) in
    record {
      count = omega (arith, longer, joined, c.loop-transfer.invariant.count);
      observed = subst (AreObserved (take (c.loop-transfer.transfer + 1) (headers_of c.args.feeder.now)))
          (sym c.push.ensures.items)
          (one_observed (headers_of c.args.feeder.now) c.loop-transfer.transfer c.header.result.now items
          c.in-Ok.observation c.loop-transfer.invariant.observed c.header.ensures c.in-Ok.ensures.ok);
    }

pub returns-in-Err-clause-refused : goal.returns-in-Err-clause-refused
returns-in-Err-clause-refused g c = record {
  header = c.header.result.now;
  there = c.header.ensures;
  cause = c.in-Err.ensures.fault;
  earlier = λ k other before there. earlier_observed (headers_of c.args.feeder.now) c.loop-transfer.transfer
      c.loop-transfer.observations.items c.loop-transfer.invariant.observed
      (omega (arith, c.loop-transfer-test.true, c.requires.all)) k other before there;
}
