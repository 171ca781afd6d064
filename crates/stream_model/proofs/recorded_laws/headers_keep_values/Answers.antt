use Rattle.stream_model.proofs.RecordedHeaders.{keeps_values}
use Rattle.stream_model.proofs.recorded_laws.headers_keep_values.Goals as goal

pub returns : goal.returns
returns c = keeps_values c.change_gives_value.ensures c.change_keeps_others.ensures c.changed_is_read_back.ensures
