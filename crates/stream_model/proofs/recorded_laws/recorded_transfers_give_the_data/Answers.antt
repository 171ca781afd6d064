use Rattle.stream_model.proofs.RecordedWalk.{transfers_give}
use Rattle.stream_model.proofs.recorded_laws.recorded_transfers_give_the_data.Goals as goal

pub returns : goal.returns
returns c =
    transfers_give
    (record {
      by_front = c.headers_by_front.ensures;
      are_text = c.headers_are_text.ensures;
      room = c.each_header_has_room.ensures;
      keep = c.headers_keep_values.ensures;
      observed = c.headers_keep_observation.ensures;
      itself = c.accepted_is_later.ensures;
      go_on = c.headers_continue.ensures;
      whole = c.whole_exactly.ensures;
      no_stop = c.no_stop_is_whole.ensures;
    })
