-- The stops of faults.
-- Source: this project's choice.
use Rattle.std.specs.Prelude.{◌≡◌, ℕ, Option, Some, None}
use Rattle.dada_header.specs.declared.faults.HeaderFault.{HeaderFault}
use Rattle.dada_header.specs.declared.faults.HeaderFault.TheVariants as header
use Rattle.obs_plan.specs.declared.fault.ObsFault.{ObsFault}
use Rattle.obs_plan.specs.declared.fault.ObsFault.TheVariants as obs
use Rattle.disk_feeder.specs.declared.answers.HeaderCause.TheVariants.{Text, Fields}
use Rattle.disk_feeder.specs.declared.answers.FeedFault.{FeedFault}
use Rattle.disk_feeder.specs.declared.answers.FeedFault.TheVariants as begin
use Rattle.disk_feeder.specs.declared.answers.FeedEnd.{FeedEnd}
use Rattle.disk_feeder.specs.declared.answers.FeedEnd.TheVariants as feed
use Rattle.search_engine.specs.declared.fault.PlanFault.{PlanFault}
use Rattle.search_engine.specs.declared.fault.PlanFault.TheVariants as plan
use Rattle.dada_recorder.specs.declared.answers.RecordEnd.{RecordEnd}
use Rattle.dada_recorder.specs.declared.answers.RecordEnd.TheVariants as recorder
use Rattle.dada_recorder.specs.declared.answers.RecordFault.{RecordFault}
use Rattle.dada_recorder.specs.declared.answers.RecordFault.TheVariants as recording
use Rattle.search_words.specs.declared.fault.WordFault.{WordFault}
use Rattle.search_words.specs.declared.fault.WordFault.TheVariants as words
use Rattle.run_outcome.specs.declared.causes.PlanCause.TheVariants.{SumBound, FoldTooLarge, TooManyFolds, TooManyShards}
use Rattle.run_outcome.specs.declared.causes.RecordingCause.TheVariants.{NoUtc, BadUtc, Overfull, TooManyFiles}
use Rattle.run_outcome.specs.declared.stop.Stop.{Stop}
use Rattle.run_outcome.specs.declared.stop.Stop.TheVariants.{Words, Value, Header, Plan, Recording, Memory, ReadFault, Gap, TooLong, FileFault}

-- of words that say no settings
abbrev pub stop_of_words : WordFault → Stop
stop_of_words words.Refused = Words
stop_of_words (words.OutOfRange opt) = Value opt
stop_of_words words.Memory = Memory

-- of a file, by its number, whose first bytes are no header
abbrev pub stop_of_header : ℕ → HeaderFault → Stop
stop_of_header file header.Memory = Memory
stop_of_header file fault = Header file (Text fault)

-- of a file whose header has no observation
abbrev pub stop_of_fields : ℕ → ObsFault → Stop
stop_of_fields file obs.Memory = Memory
stop_of_fields file fault = Header file (Fields fault)

-- where first headers could not be read
abbrev pub stop_of_begin : FeedFault → Stop
stop_of_begin begin.ReadFault = ReadFault
stop_of_begin (begin.BadHeader file fault) = stop_of_header file fault

-- of a search that is refused
abbrev pub stop_of_plan : PlanFault → Stop
stop_of_plan (plan.SumBound max_sample cells factor) = Plan (SumBound max_sample cells factor)
stop_of_plan (plan.FoldTooLarge longest halvings) = Plan (FoldTooLarge longest halvings)
stop_of_plan (plan.TooManyFolds count) = Plan (TooManyFolds count)
stop_of_plan (plan.TooManyShards shards delays) = Plan (TooManyShards shards delays)
stop_of_plan plan.Memory = Memory

-- of a recording that is refused, under a header that was read
abbrev pub IsRecordingStop : RecordFault → Stop → Type 0
IsRecordingStop (recording.NotHeader fault) stop = ⊥
IsRecordingStop recording.NoUtc stop = stop ≡ Recording NoUtc
IsRecordingStop recording.BadUtc stop = stop ≡ Recording BadUtc
IsRecordingStop (recording.Overfull need size) stop = stop ≡ Recording (Overfull need size)
IsRecordingStop recording.TooManyFiles stop = stop ≡ Recording TooManyFiles

-- of a stream of files that was given up
abbrev pub stop_of_feed : FeedEnd → Option Stop
stop_of_feed (feed.Whole bytes) = None
stop_of_feed feed.ReadFault = Some ReadFault
stop_of_feed (feed.BadHeader file cause) = Some (Header file cause)
stop_of_feed (feed.Gap file expected found) = Some (Gap file expected found)
stop_of_feed (feed.TooLong limit) = Some (TooLong limit)

-- of a recorder: a call on the files that are made failed; its other ends stop no run
abbrev pub stop_of_recorder : Option RecordEnd → Option Stop
stop_of_recorder (Some recorder.FileFault) = Some FileFault
stop_of_recorder _ = None
