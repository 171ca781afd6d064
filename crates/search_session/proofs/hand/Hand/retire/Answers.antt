use Rattle.std.proofs.Common.{length}
use Rattle.search_session.specs.Hands.{ShardsMoved}
use Rattle.search_session.proofs.Rows.{all_written}
use Rattle.search_session.proofs.Handling.{feeder_none}
use Rattle.search_session.proofs.hand.Hand.retire.Goals as goal

pub returns-clause-moved : goal.returns-clause-moved
returns-clause-moved g c =
    let items = c.args.self.now.shards.items in
    let new = c.retire_shards.new.slots in
    let moved : ShardsMoved 0 items new =
    rw c.as_mut_slice.ensures.value at c.retire_shards.ensures.moved in
    record {
      feeder = feeder_none g.I.Inputs.told g.I.Inputs.is_open g.I.Inputs.is_calm g.I.Inputs.faults c.args.hdu.now
          c.args.self.now.feeder c.requires.feeder;
      shards = rw (all_written (length items) items new moved.count) moved;
      recorder = c.retire_recorder.ensures.moved;
    }

pub returns-clause-retired : goal.returns-clause-retired
returns-clause-retired g c =
    let items = c.args.self.now.shards.items in
    let new = c.retire_shards.new.slots in
    let moved : ShardsMoved 0 items new =
    rw c.as_mut_slice.ensures.value at c.retire_shards.ensures.moved in
    record {
      shards = rw (all_written (length items) items new moved.count) c.retire_shards.ensures.retired;
      recorder = c.retire_recorder.ensures.retired;
    }
