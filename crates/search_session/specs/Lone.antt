-- A lone session: one feeder and one shard, which take turns in one thread. It holds no inputs: they are lent to it at
-- each turn, and it is seen over what was lent.
-- Source: this project's choice.
use Rattle.std.specs.Prelude.{◌≡◌, ℕ, ◌+◌, ◌*◌, ◌/◌, ◌≤◌, ◌<◌, ⊤, true, List, [], ◌∷◌, length, vec_len, take, slice_get, EachIndex, Option, Some, None, IsSome}
use Rattle.psr_base.specs.Told.{Told}
use Rattle.dada_model.specs.Fields.{HeaderText}
use Rattle.ring_words.specs.declared.shape.RingShape.{RingShape}
use Rattle.dada_hdu.specs.Answers.{header_entry}
use Rattle.dada_hdu.specs.declared.hdu.Hdu.{Hdu}
use Rattle.dada_hdu.specs.declared.passes.HduWriter.{HduWriter}
use Rattle.dada_hdu.specs.declared.passes.HduReader.{HduReader}
use Rattle.dada_hdu.specs.Passes.{data_shape, WritesBoth, HasFreshReader}
use Rattle.search_engine.specs.Engine.{most_fed}
use Rattle.disk_feeder.specs.declared.feeder.FeederSpace.{FeederSpace}
use Rattle.disk_feeder.specs.Feeder.{HasOpenFile, has_end, headers_of, plan_at, block_size, FeederFeeds, FeederFaultless}
use Rattle.disk_feeder.specs.Feeding.{header_entries}
use Rattle.disk_feeder.specs.Resting.{feeder_over, at_rest}
use Rattle.disk_feeder.specs.Turns.{sealed_headers, sealed_blocks}
use Rattle.session_readers.specs.declared.bank.Bank.{Bank}
use Rattle.search_session.specs.declared.feed.FeedActor.{FeedActor}
use Rattle.search_session.specs.declared.resting.RestingFeed.{RestingFeed}
use Rattle.search_session.specs.declared.lone.LoneSession.{LoneSession}
use Rattle.search_session.specs.declared.lone_space.LoneSpace.{LoneSpace}
use Rattle.session_readers.specs.Shards.{shard_cleared, shard_number, ShardOn, ShardMoved}
use Rattle.search_session.specs.Feeds.{FeedOn, FeedMoved}
use Rattle.search_session.specs.Stages.{IsUnread, IsUnfed}
use Rattle.session_readers.specs.Banks.{engines_of}

-- ---- the parts of a session

-- the actor that a resting feeder is over these inputs
abbrev pub feed_over : {I : Type 0} → I → RestingFeed → FeedActor I
feed_over lent f =
    record { part = feeder_over lent f.part; pass = f.pass; turns = f.turns; end = f.end }

-- the feeder of a session, at rest
abbrev pub lone_feeder : LoneSession → FeederSpace
lone_feeder s = s.feed.part

-- the engines of its shard
abbrev pub lone_bank : LoneSession → Bank
lone_bank s = s.shard.part

-- where the feeder has a file open, so have these inputs
abbrev pub HasFileOpen : {I : Type 0} → (I → Type 0) → I → LoneSession → Type 0
HasFileOpen is_open lent s = HasOpenFile (at_rest (lone_feeder s)) → is_open lent

-- ---- turns

-- Where its inputs tell this, the feeder stands for what its pass sealed. The shard, which is the one reader, was fed
-- what it cleared.
pub record LoneOn (told : Told) (s : LoneSession) : Type 0 where
  pub feed : FeedOn (λ (t : Told). t) (λ t. ⊤) s.hdu (feed_over told s.feed)
  pub shard : ShardOn s.hdu s.shard
  pub alone : (data_shape s.hdu).readers ≡ 1
  pub number : shard_number s.shard ≡ 0

-- n turns of each of both, or fewer of one that ended. In this and the following: what inputs tell, whether they are
-- calm, and how many calls have failed.
pub record LoneMoved {I : Type 0} (told : I → Told) (is_calm : I → Type 0) (faults : I → ℕ)
    (n : ℕ) (before : I) (old : LoneSession) (after : I) (new : LoneSession) : Type 0 where
  pub rings : new.hdu ≡ old.hdu
  pub feed : FeedMoved told is_calm faults n (feed_over before old.feed) (feed_over after new.feed)
  pub shard : ShardMoved n old.shard new.shard

-- both ended
pub record HasLoneEnded (s : LoneSession) : Type 0 where
  pub feed : IsSome s.feed.end
  pub shard : s.shard.ended ≡ true

-- ---- before the first turn

-- a header is sealed and no data, and no reader has read
pub record AreLoneRings (shape : RingShape) (header : HeaderText) (hdu : Hdu) (writer : HduWriter)
    (readers : List (Option HduReader)) : Type 0 where
  pub shape_is : data_shape hdu ≡ shape
  pub writes : WritesBoth hdu writer
  pub sealed : sealed_headers writer ≡ header_entry header ∷ []
  pub no_data : sealed_blocks writer ≡ []
  pub count : length readers ≡ shape.readers
  pub fresh : EachIndex readers (λ i. HasFreshReader hdu readers i)

-- The space of a session of this bank: rings of this shape, of which the header is sealed, their one reader, which has
-- read nothing, and space for a header.
pub record IsLoneSpace (bank : Bank) (shape : RingShape) (header : HeaderText) (space : LoneSpace) :
    Type 0 where
  pub shape_is : data_shape space.hdu ≡ shape
  pub writes : WritesBoth space.hdu space.writer
  pub sealed : sealed_headers space.writer ≡ header_entry header ∷ []
  pub no_data : sealed_blocks space.writer ≡ []
  pub alone : shape.readers ≡ 1
  pub reader : IsUnread space.hdu 0 space.reader
  pub room : 65537 ≤ vec_len space.bytes
  pub bank_is : space.bank ≡ bank

-- the bank of a space
abbrev pub bank_in : LoneSpace → Bank
bank_in space = space.bank

-- Where its inputs tell this, a resting feeder has accepted all first headers, of which this is the first, and met no
-- fault. It seals blocks of the rings' size, no more of them than the rings may carry.
pub record FeedsAlone (told : Told) (shape : RingShape) (header : HeaderText)
    (feeder : FeederSpace) : Type 0 where
  pub first : slice_get (headers_of (at_rest feeder)) 0 ≡ Some header
  pub feeds : FeederFeeds told (at_rest feeder)
      (header_entries (take 1 (headers_of (at_rest feeder)))) []
  pub running : has_end (at_rest feeder) ≡ None
  pub faultless : FeederFaultless (at_rest feeder)
  pub size : shape.size ≡ block_size (at_rest feeder)
  pub blocks : (plan_at (at_rest feeder)).max_bytes / block_size (at_rest feeder)
      + length (plan_at (at_rest feeder)).starts + 1 ≤ shape.max_blocks

-- how many transfers a resting feeder reads
abbrev pub transfers_at : FeederSpace → ℕ
transfers_at feeder = length (plan_at (at_rest feeder)).starts

-- The space and the feeder of one session: the bank has an engine for each transfer, which was fed nothing, and the
-- rings carry no more bytes than an engine may be fed.
pub record IsLoneReady (told : Told) (space : LoneSpace) (feeder : FeederSpace) : Type 0 where
  pub shape : RingShape
  pub header : HeaderText
  pub space_is : IsLoneSpace (bank_in space) shape header space
  pub feeds : FeedsAlone told shape header feeder
  pub transfers : 0 < transfers_at feeder
  pub engines : IsUnfed (transfers_at feeder) (bank_in space)
  pub few : shape.max_blocks * shape.size ≤ most_fed

-- a session before its first turn, where its inputs tell this
pub record LoneBegins (told : Told) (s : LoneSession) : Type 0 where
  pub on : LoneOn told s
  pub running : s.feed.end ≡ None
  pub faultless : FeederFaultless (at_rest (lone_feeder s))
  pub unread : shard_cleared s.shard ≡ []
  pub engines : length (engines_of (lone_bank s)) ≡ transfers_at (lone_feeder s)
