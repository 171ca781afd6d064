use Rattle.std.proofs.Common.{◌≡◌, ℕ, ◌<◌, false, Option, slice_index_or}
use Rattle.session_readers.specs.declared.shard.ShardActor.{ShardActor}
use Rattle.search_session.specs.Gathering.{is_numbered}
use Rattle.search_session.proofs.gathering.place_of.Given as goal

abbrev pub invariant-loop-place : goal.invariant-loop-place
invariant-loop-place l = (k : ℕ) (d : Option ShardActor) → k < l.place →
    is_numbered l.number (slice_index_or l.slots k d) ≡ false
