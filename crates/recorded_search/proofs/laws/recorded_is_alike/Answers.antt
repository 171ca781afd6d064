use Rattle.recorded_search.proofs.ObservedAlike.{Laws, observed_alike, can_be_searched}
use Rattle.recorded_search.proofs.laws.recorded_is_alike.Goals as goal

laws : goal.After-recorded_is_read_back → Laws
laws c = record {
  back = c.headers_are_read_back.ensures;
  by_front = c.headers_by_front.ensures;
  are_text = c.headers_are_text.ensures;
  by_rows = c.accepted_by_rows.ensures;
  whole = c.whole_exactly.ensures;
  joins = c.walk_joins_data.ensures;
  room = c.each_header_has_room.ensures;
  keep = c.headers_keep_values.ensures;
  observed = c.headers_keep_observation.ensures;
}

pub returns-clause-observed : goal.returns-clause-observed
returns-clause-observed c = observed_alike (laws c) c.recorded_is_read_back.ensures

pub returns-clause-searched : goal.returns-clause-searched
returns-clause-searched c = can_be_searched (laws c) c.recorded_is_read_back.ensures
