use Rattle.std.proofs.Common.{Ok, ap}
use Rattle.fdmt_carry.proofs.Taking.{taken_more, not_refused}
use Rattle.fdmt_carry.proofs.building.schedule_of.Goals as goal

pub returns-then-not-branch-clause-all : goal.returns-then-not-branch-clause-all
returns-then-not-branch-clause-all c = λ in_order all none.
    not_refused c.args.rows.now c.args.narrow.items c.args.slots.items c.args.orders.now c.loop-i.i c.loop-i.builder
    c.in_ok-add.field-0 c.loop-i-test.true c.loop-i.invariant.builder c.in_ok-add.ensures.exact.1 c.if-not-branch.true
    in_order

pub loop-i-preserved : goal.loop-i-preserved
loop-i-preserved c = record {
  builder = taken_more c.args.narrow.items c.args.slots.items c.args.orders.now c.loop-i.i c.loop-i.builder
      c.add.new.self c.loop-i-test.true c.loop-i.invariant.builder
      (c.in_ok-add.ensures.taken (ap (λ b. Ok b) c.if-not-branch.false));
  order = c.in_ok-add.ensures.in_order c.loop-i.invariant.order;
}
