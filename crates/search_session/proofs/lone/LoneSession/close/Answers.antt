use Rattle.std.proofs.Common.{[], ◌∷◌, length, Some, None, refl}
use Rattle.std.specs.Prelude.{⊤}
use Rattle.dada_hdu.specs.Passes.{data_ring, data_end}
use Rattle.dada_hdu.specs.Ended.{RingFinished}
use Rattle.search_session.proofs.Finishing.{passes_in_order, cleared_is, cleared_begins}
use Rattle.search_session.proofs.LoneEnds.{one_done}
use Rattle.search_session.proofs.lone.LoneSession.close.Goals as goal
use Rattle.session_readers.specs.Banks.{engines_of}

pub finish-blocks-requires-clause-readers : goal.finish-blocks-requires-clause-readers
finish-blocks-requires-clause-readers c =
    let s = c.args.self in
    let x = s.shard in
    let on = c.requires.on.1 in
    rw c.one_reader.ensures
    (c.order_is_enough.ensures s.hdu (Some x.pass ∷ [])
    (passes_in_order {F = ⊤} s.hdu (length (engines_of x.part)) (Some x ∷ []) None
    (one_done s.hdu x on.alone on.number on.shard c.requires.ended.shard)))

pub returns : goal.returns
returns c =
    let s = c.args.self in
    let x = s.shard in
    let on = c.requires.on.1 in
    let transfers = length (engines_of x.part) in
    let done = one_done s.hdu x on.alone on.number on.shard c.requires.ended.shard in
    let blocks = c.finish-blocks.result.blocks in
    let writer = s.feed.pass.blocks in
    let end : RingFinished (data_ring s.hdu) writer data_end (Some x.pass ∷ []) blocks =
    rw c.one_reader.ensures at c.finish-blocks.ensures.blocks in
    record {
      feed = c.in-Some.is;
      sealed = end.sealed;
      cleared = cleared_is {F = ⊤} s.hdu transfers (Some x ∷ []) None done writer blocks end 0 x refl;
      begins = cleared_begins {F = ⊤} s.hdu transfers (Some x ∷ []) None done writer blocks end 0 x refl;
      bank = refl;
    }
