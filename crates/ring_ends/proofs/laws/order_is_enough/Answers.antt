use Rattle.ring_ends.proofs.Ordered.{in_order}
use Rattle.ring_ends.proofs.laws.order_is_enough.Goals as goal

pub returns : goal.returns
returns c = in_order
