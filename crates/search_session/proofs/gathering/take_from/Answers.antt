use Rattle.std.proofs.Common.{◌≡◌, List, Option, Some, length, slice_index_or, refl, sym, ap, ◌∙◌}
use Rattle.std.proofs.lemmas.List.{length-set}
use Rattle.std.proofs.lemmas.Option.{get_or_from_slice_get}
use Rattle.session_readers.specs.declared.shard.ShardActor.{ShardActor}
use Rattle.search_session.specs.Gathering.{GivesShard}
use Rattle.search_session.proofs.Rows.{all_written}
use Rattle.search_session.proofs.gathering.take_from.Goals as goal

pub returns : goal.returns
returns g c =
    let hands = c.args.hands.now in
    let place = c.args.place in
    let before = slice_index_or hands place c.index-hands-place.result in
    let items : List (Option ShardActor) = before.shards.items in
    let new : List (Option ShardActor) = c.take_shard.new.slots in
    let x = c.take_shard.result in
    let gave : GivesShard items c.args.number x new =
    rw c.as_mut_slice.ensures.value at c.take_shard.ensures in
    let count : length new ≡ length items = rw gave.slots (length-set items gave.place _) in
    record {
      before = before;
      there = c.requires.1
          ∙ ap (λ h. Some h) (sym (get_or_from_slice_get hands place c.requires.0 c.index-hands-place.result
          c.requires.1));
      after = _;
      hands = refl;
      gives = rw (all_written (length items) items new count) gave;
      recorder = refl;
    }
