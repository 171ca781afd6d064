use Rattle.search_model.proofs.Order.{never, follows, precedes_or_shares}
use Rattle.search_model.proofs.laws.order_is_strict.Goals as goal

pub returns : goal.returns
returns c = record { never = never; follows = follows; compares = precedes_or_shares }
