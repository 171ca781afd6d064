-- Turns of a lone session.
use Rattle.std.proofs.Common.{◌≡◌, ℕ, ◌+◌, ◌-◌, ◌≤◌, refl, ap, ◌∙◌, arith}
use Rattle.psr_base.specs.Told.{Told}
use Rattle.dada_hdu.specs.declared.hdu.Hdu.{Hdu}
use Rattle.dada_hdu.specs.declared.passes.HduReader.{HduReader}
use Rattle.dada_hdu.specs.Passes.{IsFreshReader}
use Rattle.search_session.specs.declared.lone.LoneSession.{LoneSession}
use Rattle.session_readers.specs.Shards.{ShardMoved}
use Rattle.search_session.specs.Feeds.{FeedOn, FeedMoved}
use Rattle.search_session.specs.Stages.{IsUnread}
use Rattle.search_session.specs.Lone.{feed_over, LoneOn, LoneMoved, HasLoneEnded, HasFileOpen}
use Rattle.search_session.proofs.Feeding.{feed_none, feed_still, feed_more}
use Rattle.search_session.proofs.Moves.{shard_none, shard_still, shard_more}

-- a reader that has done nothing has cleared no block
pub is_unread : (hdu : Hdu) (i : ℕ) (reader : HduReader) → IsFreshReader hdu i reader → IsUnread hdu i reader
is_unread hdu i reader fresh = record {
  reads = fresh.ring;
  number_is = ap (λ v. v.number) fresh.blocks;
  no_header = ap (λ v. v.cleared) fresh.header;
  no_block = ap (λ v. v.cleared) fresh.blocks;
}

module _ {I : Type 0} (told : I → Told) (is_open is_calm : I → Type 0) (faults : I → ℕ) where
  -- the feeder of a session over what is lent
  pub feed_on : (lent : I) (s : LoneSession) → LoneOn (told lent) s → HasFileOpen is_open lent s →
      FeedOn told is_open s.hdu (feed_over lent s.feed)
  feed_on lent s on file = record {
    writes = on.feed.writes;
    fits = on.feed.fits;
    file = file;
    feeding = on.feed.feeding;
    end = on.feed.end;
    count = on.feed.count;
  }

  stands : (n : ℕ) (lent : I) (s : LoneSession) → FeedMoved told is_calm faults n (feed_over lent s.feed)
      (feed_over lent s.feed) → ShardMoved n s.shard s.shard → LoneMoved told is_calm faults n lent s lent s
  stands n lent s feed shard = record { rings = refl; feed = feed; shard = shard }

  pub lone_none : (lent : I) (s : LoneSession) → LoneOn (told lent) s → LoneMoved told is_calm faults 0 lent s lent s
  lone_none lent s on = stands 0 lent s (feed_none told is_calm faults (feed_over lent s.feed) on.feed.count)
      (shard_none s.shard on.shard.count)

  pub lone_still : (n : ℕ) (lent : I) (s : LoneSession) → LoneOn (told lent) s → HasLoneEnded s →
      LoneMoved told is_calm faults n lent s lent s
  lone_still n lent s on ended = stands n lent s
      (feed_still told is_calm faults n (feed_over lent s.feed) on.feed.count ended.feed)
      (shard_still n s.shard on.shard.count ended.shard)

  pub lone_more : (n m : ℕ) (before lent after : I) (x y z : LoneSession) →
      LoneMoved told is_calm faults n before x lent y → LoneMoved told is_calm faults m lent y after z →
      LoneMoved told is_calm faults (n + m) before x after z
  lone_more n m before lent after x y z a b = record {
    rings = b.rings ∙ a.rings;
    feed = feed_more told is_calm faults n m (feed_over before x.feed) (feed_over lent y.feed) (feed_over after z.feed)
        a.feed b.feed;
    shard = shard_more n m x.shard y.shard z.shard a.shard b.shard;
  }

  -- once both ended, any more turns change nothing
  pub lone_rest : (n m : ℕ) (before after : I) (x y : LoneSession) → n ≤ m → LoneOn (told after) y → HasLoneEnded y →
      LoneMoved told is_calm faults n before x after y → LoneMoved told is_calm faults m before x after y
  lone_rest n m before after x y most on ended moved =
      let all : n + (m - n) ≡ m = omega arith in
      rw all at (lone_more n (m - n) before after after x y y moved (lone_still (m - n) after y on ended))
