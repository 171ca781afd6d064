use Rattle.std.proofs.Common.{◌-◌}
use Rattle.fdmt_carry.specs.Plain.{NodesAreMade}
use Rattle.fdmt_carry.proofs.plain.plain_orders.Given as goal

abbrev pub invariant-loop-done : goal.invariant-loop-done
invariant-loop-done l = NodesAreMade l.plan l.rows (l.count - l.done) l.orders.items
