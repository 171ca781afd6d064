use Rattle.recorded_search.proofs.ReadBack.{read_back}
use Rattle.recorded_search.proofs.laws.recorded_is_read_back.Goals as goal

pub returns : goal.returns
returns c = read_back c.headers_are_read_back.ensures c.whole_exactly.ensures c.walk_joins_data.ensures
    c.recorded_transfers_give_the_data.ensures
