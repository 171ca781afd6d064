use Rattle.stream_model.proofs.RecordedHeaders.{keeps_observation}
use Rattle.stream_model.proofs.recorded_laws.headers_keep_observation.Goals as goal

pub returns : goal.returns
returns c =
    keeps_observation c.change_gives_value.ensures c.change_keeps_others.ensures c.numbers_are_spelled.ensures
    c.accepted_by_rows.ensures
