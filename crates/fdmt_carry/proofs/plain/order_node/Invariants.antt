use Rattle.fdmt_carry.proofs.Plainly.{NodeIsMade}
use Rattle.fdmt_carry.proofs.plain.order_node.Given as goal

abbrev pub invariant-loop-r : goal.invariant-loop-r
invariant-loop-r l = NodeIsMade l.plan l.rows l.k l.r l.orders.items
