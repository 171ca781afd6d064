-- The stop of a run that streams its data through, once the data were opened.
-- Source: this project's choice.
use Rattle.std.specs.Prelude.{◌≡◌, ◌≢◌, Option, Some, None}
use Rattle.psr_base.specs.Written.{SinkSeen}
use Rattle.disk_feeder.specs.declared.answers.FeedEnd.{FeedEnd}
use Rattle.disk_feeder.specs.declared.answers.FeedEnd.TheVariants as feed
use Rattle.run_outcome.specs.declared.stop.Stop.{Stop}
use Rattle.run_outcome.specs.declared.stop.Stop.TheVariants.{ReadFault, SinkFault}
use Rattle.run_outcome.specs.Conversions.{stop_of_feed}
use Rattle.drive_stream.specs.declared.stop.StreamStop.{StreamStop}
use Rattle.drive_stream.specs.declared.stop.StreamStop.TheVariants as stops
use Rattle.drive_stream.specs.Endings.{Ending, Phase, All, Early, Failed, Refused, AtEnd, AtStop}
use Rattle.drive_stream.specs.Streams.{Standing, Leaving, EndsAs}

-- a stop of any run as one of such a run
abbrev pub as_run : {F : Type 0} → Option Stop → Option (StreamStop F)
as_run None = None
as_run (Some stop) = Some (stops.Run stop)

-- the stop of data that ended so; a fault of the inputs is told whether the output fails behind it or not
abbrev pub IsStopOf : {F : Type 0} → FeedEnd → Ending F → Option (StreamStop F) → Type 0
IsStopOf (feed.Whole bytes) All stop = stop ≡ None
IsStopOf (feed.Whole bytes) (Refused refusal) stop = stop ≡ Some (stops.Refused refusal)
IsStopOf (feed.Whole bytes) ending stop = ⊥
IsStopOf feed.ReadFault (Failed AtStop) stop = stop ≡ Some (stops.Run ReadFault)
IsStopOf end Early stop = stop ≡ as_run (stop_of_feed end)
IsStopOf end ending stop = ⊥

-- where a call of the output may fail, once the data have ended so
abbrev pub phase_at : FeedEnd → Phase
phase_at (feed.Whole bytes) = AtEnd
phase_at end = AtStop

-- a stream whose data ended so was closed
pub record Closes {S F : Type 0} (streams : Standing S) (leaves : Leaving F) (stream : S)
    (end : FeedEnd) (before after : SinkSeen) (stop : Option (StreamStop F)) : Type 0 where
  pub ending : Ending F
  pub is : IsStopOf end ending stop
  pub left : EndsAs streams leaves stream ending before after

-- or a call of the output failed
pub record BreaksClosing {S F : Type 0} (streams : Standing S) (leaves : Leaving F) (stream : S)
    (end : FeedEnd) (before after : SinkSeen) (stop : Option (StreamStop F)) : Type 0 where
  pub is : stop ≡ Some (stops.Run SinkFault)
  pub read : end ≢ feed.ReadFault
  pub left : EndsAs streams leaves stream (Failed (phase_at end)) before after
