use Rattle.stream_model.proofs.Itself.{itself}
use Rattle.stream_model.proofs.walk_laws.accepted_is_later.Goals as goal

pub returns : goal.returns
returns c = itself c.accepted_by_rows.ensures c.accepted_is_in_range.ensures
