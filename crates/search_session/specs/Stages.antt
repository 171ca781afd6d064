-- The parts of a session before its first turn, and who works in which hand.
-- Source: this project's choice.
use Rattle.std.specs.Prelude.{◌≡◌, ℕ, ◌+◌, ◌*◌, ◌%◌, ◌<◌, ◌≤◌, false, All, IfSome, IsSomeAnd, List, [], ◌∷◌, ◌++◌, length, vec_len, slice_get, slice_set, Option, Some, None}
use Rattle.psr_base.specs.Told.{Told}
use Rattle.psr_base.specs.Made.{FilesSeen}
use Rattle.dada_hdu.specs.declared.hdu.Hdu.{Hdu}
use Rattle.dada_hdu.specs.declared.passes.HduReader.{HduReader}
use Rattle.dada_hdu.specs.declared.ended.HduEnded.TheVariants.{Here}
use Rattle.dada_hdu.specs.Passes.{data_shape, number_of, ReadsBoth, WritesBoth}
use Rattle.search_engine.specs.Engine.{EngineState, most_fed}
use Rattle.disk_feeder.specs.Feeder.{HasOpenFile, has_end, plan_at, FeederFits, FeederFeeds}
use Rattle.disk_feeder.specs.Turns.{sealed_headers, sealed_blocks}
use Rattle.dada_recorder.specs.declared.recorder.Recorder.{Recorder}
use Rattle.dada_recorder.specs.Recorder as recorder
use Rattle.session_readers.specs.declared.bank.Bank.{Bank}
use Rattle.search_session.specs.declared.feed.FeedActor.{FeedActor}
use Rattle.session_readers.specs.declared.shard.ShardActor.{ShardActor}
use Rattle.session_readers.specs.declared.record.RecordActor.{RecordActor}
use Rattle.search_session.specs.declared.hand.Hand.{Hand}
use Rattle.search_session.specs.declared.stage.Stage.{Stage}
use Rattle.session_readers.specs.Banks.{HasEngine, engines_of}
use Rattle.session_readers.specs.Shards.{headers_cleared, blocks_cleared, shard_cleared, shard_number, EnginesFollow}
use Rattle.search_session.specs.Feeds.{FeedMoved}
use Rattle.session_readers.specs.Records.{recorded_headers, recorded_blocks, RecordOn, RecordMoved}
use Rattle.search_session.specs.Hands.{HandOn}
use Rattle.search_session.specs.Gathering.{GivesShard}

-- ---- before the first turn

-- the reader with this number, which has cleared no block of either ring
pub record IsUnread (hdu : Hdu) (number : ℕ) (reader : HduReader) : Type 0 where
  pub reads : ReadsBoth hdu reader
  pub number_is : number_of (Here reader) ≡ number
  pub no_header : headers_cleared reader ≡ []
  pub no_block : blocks_cleared reader ≡ []

-- the first of these readers is that with this number, and has cleared nothing
abbrev pub IsFirstReader : Hdu → ℕ → List (Option HduReader) → Type 0
IsFirstReader hdu number readers =
    (reader : HduReader) × (slice_get readers 0 ≡ Some (Some reader)) × IsUnread hdu number reader

-- an engine for each transfer, which was fed nothing
pub record IsUnfed (transfers : ℕ) (bank : Bank) : Type 0 where
  pub count : length (engines_of bank) ≡ transfers
  pub each : (k : ℕ) → k < transfers →
      (e : EngineState) × HasEngine (engines_of bank) k e × (e.fed ≡ 0) × (e.has_ended ≡ false)

-- a recorder of blocks of these rings, which has recorded nothing
pub record IsFreshRecorder {F : Type 0} (files_open : F → Type 0) (hdu : Hdu) (r : Recorder F) :
    Type 0 where
  pub size : (data_shape hdu).size ≡ recorder.block_size r
  pub no_file : recorder.has_open_file r ≡ false
  pub closed : ¬ files_open r.files.now
  pub running : recorder.has_end r ≡ None
  pub stands : recorder.RecorderStands r [] []

pub record IsEmptyHand {I F : Type 0} (h : Hand I F) : Type 0 where
  pub feeder : h.feeder ≡ None
  pub shards : h.shards.items ≡ []
  pub recorder : h.recorder ≡ None

abbrev pub transfers_of : {I F : Type 0} → Stage I F → ℕ
transfers_of stage = length (plan_at stage.feeder).starts

-- how many recorders there are
abbrev pub recorder_count : {F : Type 0} → Option (Recorder F) → ℕ
recorder_count None = 0
recorder_count (Some r) = 1

-- A stage that can be driven: the writer and all readers of its rings, of which none has cleared a block; a feeder that
-- has not ended, and stands for what the writer sealed; for each shard a bank, with an unfed engine for each transfer,
-- and space for a header; a fresh recorder, where there is one; empty hands, one at least. Readers are as many as banks
-- and recorders, each at the place of its number, and the data ring carries no more bytes than an engine may be fed.
pub record StageOn {I F : Type 0} (told : I → Told) (is_open : I → Type 0) (files_open : F → Type 0)
    (stage : Stage I F) : Type 0 where
  pub writes : WritesBoth stage.hdu stage.writer
  pub fits : FeederFits stage.hdu stage.feeder
  pub file : HasOpenFile stage.feeder → is_open stage.feeder.inputs.now
  pub running : has_end stage.feeder ≡ None
  pub feeding : FeederFeeds (told stage.feeder.inputs.now) stage.feeder
      (sealed_headers stage.writer)
      (sealed_blocks stage.writer)
  pub transfers : 0 < transfers_of stage
  pub all_readers : length stage.readers.items ≡ (data_shape stage.hdu).readers
  pub readers_count : length stage.readers.items
      ≡ length stage.banks.items + recorder_count stage.recorder
  pub readers : (s : ℕ) → s < length stage.readers.items →
      (reader : HduReader) × (slice_get stage.readers.items s ≡ Some (Some reader))
      × IsUnread stage.hdu s reader
  pub banks : (s : ℕ) → s < length stage.banks.items →
      (bank : Bank) × (slice_get stage.banks.items s ≡ Some (Some bank)) × IsUnfed
      (transfers_of stage) bank
  pub spaces_count : length stage.spaces.items ≡ length stage.banks.items
  pub spaces : All (λ slot. IsSomeAnd slot (λ space. 65537 ≤ vec_len space)) stage.spaces.items
  pub recorder : IfSome stage.recorder (IsFreshRecorder files_open stage.hdu)
  pub few : (data_shape stage.hdu).max_blocks * (data_shape stage.hdu).size ≤ most_fed
  pub some_hand : 0 < length stage.hands.items
  pub empty : All IsEmptyHand stage.hands.items

-- ---- who works where: actor a in hand a modulo the hands; the feeder is actor 0, shard s actor s + 1, the recorder 8

-- the feeder, which began as this one, works in its hand
pub record HasFeeder {I F : Type 0} (told : I → Told) (is_calm : I → Type 0) (faults : I → ℕ)
    (start : FeedActor I) (hands : List (Hand I F)) : Type 0 where
  pub turns : ℕ
  pub hand : Hand I F
  pub there : slice_get hands 0 ≡ Some hand
  pub feeder : FeedActor I
  pub works : hand.feeder ≡ Some feeder
  pub moved : FeedMoved told is_calm faults turns start feeder

-- shard s works in its hand
pub record HasShard {I F : Type 0} (hands : List (Hand I F)) (s : ℕ) : Type 0 where
  pub hand : Hand I F
  pub there : slice_get hands ((s + 1) % length hands) ≡ Some hand
  pub shard : ShardActor
  pub place : ℕ
  pub works : slice_get hand.shards.items place ≡ Some (Some shard)
  pub number : shard_number shard ≡ s

-- the recorder, which began as this one, works in its hand
pub record HasRecorder {I F : Type 0} (seen : F → FilesSeen) (start : RecordActor F)
    (hands : List (Hand I F)) : Type 0 where
  pub turns : ℕ
  pub hand : Hand I F
  pub there : slice_get hands (8 % length hands) ≡ Some hand
  pub recorder : RecordActor F
  pub works : hand.recorder ≡ Some recorder
  pub moved : RecordMoved seen turns start recorder

-- a shard's engines are those of its bank, and were fed what it cleared
abbrev pub IsOfBank : List (Option Bank) → ShardActor → Type 0
IsOfBank banks x = (bank : Bank) → slice_get banks (shard_number x) ≡ Some (Some bank) →
    EnginesFollow [] (shard_cleared x) (engines_of bank) (engines_of x.part)

abbrev pub AreOfBanks : {I F : Type 0} → List (Option Bank) → List (Hand I F) → Type 0
AreOfBanks banks hands = All (λ h. All (λ slot. IfSome slot (IsOfBank banks)) h.shards.items) hands

-- ---- staffing

-- a shard of this bank, which has read nothing
pub record IsShardOf (bank : Bank) (number : ℕ) (x : ShardActor) : Type 0 where
  pub bank_is : x.part ≡ bank
  pub number_is : shard_number x ≡ number
  pub nothing : shard_cleared x ≡ []

-- a recorder before its first turn, with the reader of this number
pub record IsRecorderOf {F : Type 0} (part : Recorder F) (number : ℕ) (x : RecordActor F) :
    Type 0 where
  pub part_is : x.part ≡ part
  pub number_is : number_of x.pass ≡ number
  pub no_header : recorded_headers x ≡ []
  pub no_block : recorded_blocks x ≡ []
  pub running : x.end ≡ None

-- the recorder of a stage, which began with the reader of this number, works in its hand; or no hand has one
abbrev pub RecorderWorks : {I F : Type 0} → (F → FilesSeen) → Option (Recorder F) → ℕ →
    List (Hand I F) → Type 0
RecorderWorks seen None number hands = All (λ h. h.recorder ≡ None) hands
RecorderWorks seen (Some part) number hands =
    (start : RecordActor _) × IsRecorderOf part number start × HasRecorder seen start hands

-- a hand takes the feeder
pub record TakesFeeder {I F : Type 0} (old : List (Hand I F)) (feeder : FeedActor I)
    (new : List (Hand I F)) : Type 0 where
  pub before : Hand I F
  pub there : slice_get old 0 ≡ Some before
  pub after : Hand I F
  pub hands : new ≡ slice_set old 0 after
  pub works : after.feeder ≡ Some feeder
  pub shards : after.shards ≡ before.shards
  pub recorder : after.recorder ≡ before.recorder

-- the hand at a place takes a shard
pub record TakesShard {I F : Type 0} (old : List (Hand I F)) (place : ℕ) (shard : ShardActor)
    (new : List (Hand I F)) : Type 0 where
  pub before : Hand I F
  pub there : slice_get old place ≡ Some before
  pub after : Hand I F
  pub hands : new ≡ slice_set old place after
  pub feeder : after.feeder ≡ before.feeder
  pub shards : after.shards.items ≡ before.shards.items ++ Some shard ∷ []
  pub recorder : after.recorder ≡ before.recorder

-- the hand at a place takes the recorder
pub record TakesRecorder {I F : Type 0} (old : List (Hand I F)) (place : ℕ) (x : RecordActor F)
    (new : List (Hand I F)) : Type 0 where
  pub before : Hand I F
  pub there : slice_get old place ≡ Some before
  pub after : Hand I F
  pub hands : new ≡ slice_set old place after
  pub feeder : after.feeder ≡ before.feeder
  pub shards : after.shards ≡ before.shards
  pub works : after.recorder ≡ Some x

-- the hands take the recorder, where there is one
abbrev pub RecorderPlaced : {I F : Type 0} → (F → Type 0) → Hdu → Option (Recorder F) → ℕ →
    List (Hand I F) → List (Hand I F) → Type 0
RecorderPlaced files_open hdu None number old new = new ≡ old
RecorderPlaced files_open hdu (Some part) number old new =
    (x : RecordActor _) × RecordOn files_open hdu x × IsRecorderOf part number x
    × TakesRecorder old (8 % length old) x new

-- the banks and readers of a stage
pub record PartsOn (hdu : Hdu) (transfers : ℕ) (banks : List (Option Bank))
    (readers : List (Option HduReader)) :
    Type 0 where
  pub some : 0 < transfers
  pub unread : (s : ℕ) → s < length readers →
      (reader : HduReader) × (slice_get readers s ≡ Some (Some reader)) × IsUnread hdu s reader
  pub unfed : (s : ℕ) → s < length banks →
      (bank : Bank) × (slice_get banks s ≡ Some (Some bank)) × IsUnfed transfers bank

-- hands that took the first n shards
pub record AreStaffed {I F : Type 0} (told : I → Told) (is_open : I → Type 0)
    (files_open : F → Type 0) (hdu : Hdu) (banks : List (Option Bank)) (n count : ℕ)
    (hands : List (Hand I F)) : Type 0 where
  pub on : All (HandOn told is_open files_open hdu) hands
  pub few : All (λ h. length h.shards.items ≤ n) hands
  pub no_recorder : All (λ h. h.recorder ≡ None) hands
  pub count_is : length hands ≡ count
  pub placed : (s : ℕ) → s < n → HasShard hands s
  pub of_banks : AreOfBanks banks hands

-- the feeder before its first turn
abbrev pub feeder_of : {I F : Type 0} → Stage I F → FeedActor I
feeder_of stage = record { part = stage.feeder; pass = stage.writer; turns = 0; end = None }

-- ---- leaving the hands

-- the shard stands in some hand
pub record IsInHand {I F : Type 0} (hands : List (Hand I F)) (x : ShardActor) : Type 0 where
  pub hand_place : ℕ
  pub hand : Hand I F
  pub there : slice_get hands hand_place ≡ Some hand
  pub place : ℕ
  pub works : slice_get hand.shards.items place ≡ Some (Some x)

-- the hand at a place gave the shard with this number
pub record LeavesHand {I F : Type 0} (old : List (Hand I F)) (place number : ℕ) (x : ShardActor)
    (new : List (Hand I F)) : Type 0 where
  pub before : Hand I F
  pub there : slice_get old place ≡ Some before
  pub after : Hand I F
  pub hands : new ≡ slice_set old place after
  pub gives : GivesShard before.shards.items number x after.shards.items
  pub recorder : after.recorder ≡ before.recorder

-- the first hand gave the feeder
pub record GivesFeeder {I F : Type 0} (old : List (Hand I F)) (feeder : FeedActor I)
    (new : List (Hand I F)) : Type 0 where
  pub before : Hand I F
  pub there : slice_get old 0 ≡ Some before
  pub works : before.feeder ≡ Some feeder
  pub after : Hand I F
  pub hands : new ≡ slice_set old 0 after
  pub shards : after.shards ≡ before.shards
  pub recorder : after.recorder ≡ before.recorder

-- the shards with the numbers below n, in order, each of which stood in these hands
pub record AreGathered {I F : Type 0} (hands : List (Hand I F)) (n : ℕ)
    (shards : List (Option ShardActor)) : Type 0 where
  pub count : length shards ≡ n
  pub each : (s : ℕ) → s < n →
      (x : ShardActor) × (slice_get shards s ≡ Some (Some x)) × (shard_number x ≡ s)
      × IsInHand hands x
