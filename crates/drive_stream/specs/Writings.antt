-- A stream that was opened, from its head to its end. In the records `told` is what inputs tell, `is_calm` whether they
-- are calm, and `faults` how many calls have failed.
-- Source: this project's choice.
use Rattle.std.specs.Prelude.{◌≡◌, ◌≢◌, ℕ, List, Option, Some, None}
use Rattle.psr_base.specs.Told.{Told}
use Rattle.psr_base.specs.Written.{SinkSeen}
use Rattle.dada_model.specs.Fields.{HeaderText}
use Rattle.ring_blocks.specs.declared.Entry.{Entry}
use Rattle.stream_model.specs.Blocks.{joined_bytes}
use Rattle.disk_feeder.specs.declared.answers.FeedEnd.{FeedEnd}
use Rattle.disk_feeder.specs.declared.answers.FeedEnd.TheVariants.{Whole, ReadFault}
use Rattle.disk_feeder.specs.declared.feeder.Feeder.{Feeder}
use Rattle.disk_feeder.specs.Feeder.{FeederFaultless, has_end}
use Rattle.disk_feeder.specs.Handing.{FeederHands}
use Rattle.run_outcome.specs.declared.stop.Stop.TheVariants.{SinkFault}
use Rattle.drive_stream.specs.declared.stop.StreamStop.{StreamStop}
use Rattle.drive_stream.specs.declared.stop.StreamStop.TheVariants.{Run}
use Rattle.drive_stream.specs.Endings.{Ending, Phase, Failed, AtEnd}
use Rattle.drive_stream.specs.Flows.{KeepsOn}
use Rattle.drive_stream.specs.Stops.{IsStopOf}
use Rattle.drive_stream.specs.Streams.{Leaving}

-- all that was handed out of it was taken, and this is left of it
abbrev pub LeavesOf : {S F : Type 0} → (HeaderText → S → Type 0) → Leaving F → S → List ℕ →
    Ending F → SinkSeen → SinkSeen → Type 0
LeavesOf opens leaves stream bytes ending before after = (header : HeaderText) →
    opens header stream → leaves header bytes ending before after

-- the data ended so, and the stream was closed
pub record WritesTo {I S F : Type 0} (told : I → Told) (is_calm : I → Type 0) (faults : I → ℕ)
    (opens : HeaderText → S → Type 0) (leaves : Leaving F) (old new : Feeder I) (stream : S)
    (before after : SinkSeen) (stop : Option (StreamStop F)) : Type 0 where
  pub end : FeedEnd
  pub ending : Ending F
  pub is : IsStopOf end ending stop
  pub ended : has_end new ≡ Some end
  pub kept : KeepsOn told is_calm faults old new
  pub blocks : List Entry
  pub hands : FeederHands (told new.inputs.now) new blocks
  pub left : LeavesOf opens leaves stream (joined_bytes blocks) ending before after

-- or a call of the output failed: once all data had come, or before
pub record BreaksWriting {I S F : Type 0} (told : I → Told) (is_calm : I → Type 0) (faults : I → ℕ)
    (opens : HeaderText → S → Type 0) (leaves : Leaving F) (old new : Feeder I) (stream : S)
    (before after : SinkSeen) (stop : Option (StreamStop F)) : Type 0 where
  pub is : stop ≡ Some (Run SinkFault)
  pub phase : Phase
  pub all : phase ≡ AtEnd → (bytes : ℕ) × (has_end new ≡ Some (Whole bytes))
  pub read : has_end new ≢ Some ReadFault
  pub quiet : has_end new ≡ None → FeederFaultless new
  pub kept : KeepsOn told is_calm faults old new
  pub blocks : List Entry
  pub hands : FeederHands (told new.inputs.now) new blocks
  pub left : LeavesOf opens leaves stream (joined_bytes blocks) (Failed phase) before after
