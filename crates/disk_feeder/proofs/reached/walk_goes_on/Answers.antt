use Rattle.disk_feeder.proofs.Prefixes.{WalkIsKnown, begins_walk}
use Rattle.disk_feeder.proofs.reached.walk_goes_on.Goals as goal

pub returns : goal.returns
returns c =
    let known : WalkIsKnown = record {
      streams = c.streams_begin.ensures;
      join = c.data_join.ensures;
      transfers = c.files_are_in_transfers.ensures;
      first = c.first_stop_counts.ensures;
      whole = c.no_stop_is_whole.ensures;
      more = c.one_transfer_more.ensures;
    } in
    begins_walk known
