use Rattle.dada_hdu.proofs.Ordered.{both_in_order}
use Rattle.dada_hdu.proofs.laws.order_is_enough.Goals as goal

pub returns : goal.returns
returns c = both_in_order c.order_is_enough.ensures
