-- A turn of a shard.
use Rattle.std.proofs.Common.{◌≡◌, ◌+◌, min, false, length, refl, sym, ◌∙◌, arith}
use Rattle.std.proofs.lemmas.Bool.{false≢true}
use Rattle.ring_core.specs.Machine.{greatest}
use Rattle.stream_model.specs.Blocks.{is_over}
use Rattle.session_readers.specs.declared.shard.ShardActor.{ShardActor}
use Rattle.session_readers.specs.Reads.{header_is_next, HasMore, ReadsNext}
use Rattle.session_readers.specs.Shards.{shard_cleared, EnginesFollow, ShardMoved}
use Rattle.session_readers.proofs.OneRead.{one_read, read_number, read_tries, read_blocks}
use Rattle.session_readers.specs.Banks.{engines_of}

-- a turn and its read
pub shard_turned : (x y : ShardActor) → x.ended ≡ false →
    x.ended ≡ is_over (length (engines_of x.part)) (shard_cleared x) → ReadsNext x.pass y.pass →
    EnginesFollow (shard_cleared x) (shard_cleared y) (engines_of x.part) (engines_of y.part) →
    y.turns ≡ min greatest (x.turns + 1) → ShardMoved 1 x y
shard_turned x y running over read engines turns = record {
  number = read_number (header_is_next x.pass) x.pass y.pass read;
  made = 1;
  most = omega arith;
  all = λ on. refl;
  none = λ ended. absurd (false≢true (sym running ∙ ended));
  stays = λ ended. absurd (false≢true (sym running ∙ ended));
  turns = turns;
  reads = one_read (HasMore (length (engines_of x.part))) x.pass y.pass (sym over ∙ running) read;
  tries = read_tries (header_is_next x.pass) x.pass y.pass read;
  grown = read_blocks (header_is_next x.pass) x.pass y.pass read;
  engines = engines;
}
