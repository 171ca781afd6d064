-- The data of a stream, from the blocks of a feeder to the output. In the records `told` is what inputs tell, `is_open`
-- whether a name is open, `is_calm` whether they are calm, and `faults` how many calls have failed.
-- Source: this project's choice.
use Rattle.std.specs.Prelude.{◌≡◌, ◌≢◌, ℕ, ◌≤◌, List, [], length, Some, None}
use Rattle.psr_base.specs.Told.{Told}
use Rattle.psr_base.specs.Written.{SinkSeen}
use Rattle.dada_model.specs.Fields.{HeaderText}
use Rattle.ring_blocks.specs.declared.Entry.{Entry}
use Rattle.stream_model.specs.Blocks.{joined_bytes}
use Rattle.disk_feeder.specs.declared.answers.FeedEnd.{FeedEnd}
use Rattle.disk_feeder.specs.declared.answers.FeedEnd.TheVariants.{ReadFault}
use Rattle.disk_feeder.specs.declared.feeder.Feeder.{Feeder}
use Rattle.disk_feeder.specs.Feeder.{HasOpenFile, FeederSince, FeederMisses, FeederFaultless, FeederRead, FeederUnopened, has_end, plan_at, block_size}
use Rattle.disk_feeder.specs.Handing.{FeederHands}
use Rattle.drive_stream.specs.Endings.{Failed, Midway}
use Rattle.drive_stream.specs.Streams.{Standing, Leaving, StreamsOn, LeavesAt, most_streamed}

-- a stream stands of which no data byte was taken
pub record HasBegun {S : Type 0} (streams : Standing S) (stream : S) (now : SinkSeen) : Type 0 where
  pub header : HeaderText
  pub start : SinkSeen
  pub stands : streams header [] stream start now

-- What a feeder keeps that handed out blocks: its files, how they are told, and how faults of the inputs are counted;
-- of calm inputs a fault comes only at a file that isn't told and was not opened.
pub record KeepsOn {I : Type 0} (told : I → Told) (is_calm : I → Type 0) (faults : I → ℕ)
    (old new : Feeder I) : Type 0 where
  pub plan : plan_at new ≡ plan_at old
  pub size : block_size new ≡ block_size old
  pub names : (told new.inputs.now).bytes_under ≡ (told old.inputs.now).bytes_under
  pub count : faults old.inputs.now ≤ faults new.inputs.now
  pub since : (k : ℕ) → FeederSince k (faults old.inputs.now) old →
      FeederSince k (faults new.inputs.now) new
  pub reads_on : (before : Told) → FeederRead before (told old.inputs.now) old →
      FeederRead before (told new.inputs.now) new
  pub calm : is_calm old.inputs.now → is_calm new.inputs.now
  pub missing : is_calm old.inputs.now → FeederMisses (told old.inputs.now) old →
      FeederMisses (told new.inputs.now) new
  pub unopened : is_calm old.inputs.now → (before : Told) →
      FeederRead before (told old.inputs.now) old →
      FeederUnopened before (told old.inputs.now) old →
      FeederUnopened before (told new.inputs.now) new

-- it handed out blocks, and their data were taken
pub record TakesBlocks {I S : Type 0} (told : I → Told) (is_calm : I → Type 0) (faults : I → ℕ)
    (streams : Standing S) (old new : Feeder I) (a b : S) (before after : SinkSeen) :
    Type 0 where
  pub kept : KeepsOn told is_calm faults old new
  pub blocks : List Entry
  pub hands : FeederHands (told new.inputs.now) new blocks
  pub on : StreamsOn streams a (joined_bytes blocks) b before after

-- and more may come
pub record FlowsOn {I S : Type 0} (told : I → Told) (is_open : I → Type 0) (is_calm : I → Type 0)
    (faults : I → ℕ) (streams : Standing S) (old new : Feeder I) (a b : S)
    (before after : SinkSeen) : Type 0 where
  pub running : has_end new ≡ None
  pub file : HasOpenFile new → is_open new.inputs.now
  pub taken : TakesBlocks told is_calm faults streams old new a b before after

-- or the data ended so
pub record FlowsTo {I S : Type 0} (told : I → Told) (is_calm : I → Type 0) (faults : I → ℕ)
    (streams : Standing S) (old new : Feeder I) (a b : S) (before after : SinkSeen)
    (end : FeedEnd) : Type 0 where
  pub ended : has_end new ≡ Some end
  pub taken : TakesBlocks told is_calm faults streams old new a b before after
  pub few : length (joined_bytes taken.blocks) ≤ most_streamed

-- or a call of the output failed
pub record BreaksFlow {I S F : Type 0} (told : I → Told) (is_calm : I → Type 0) (faults : I → ℕ)
    (streams : Standing S) (leaves : Leaving F) (old new : Feeder I) (a : S)
    (before after : SinkSeen) : Type 0 where
  pub read : has_end new ≢ Some ReadFault
  pub quiet : has_end new ≡ None → FeederFaultless new
  pub kept : KeepsOn told is_calm faults old new
  pub blocks : List Entry
  pub hands : FeederHands (told new.inputs.now) new blocks
  pub left : LeavesAt streams leaves a (joined_bytes blocks) (Failed Midway) before after
