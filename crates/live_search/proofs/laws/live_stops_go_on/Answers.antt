use Rattle.live_search.proofs.Resuming.{go_on}
use Rattle.live_search.proofs.laws.live_stops_go_on.Goals as goal

pub returns : goal.returns
returns c =
    go_on c.samples_of_bytes.ensures c.edges_fall.ensures c.has_one_path.ensures c.paths_rise.ensures
    c.candidates_are_listed.ensures c.candidates_rise.ensures c.rising_lists_agree.ensures c.parts_join.ensures
    c.args.observation.now c.lies_in_range.ensures
