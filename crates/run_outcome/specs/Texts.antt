-- How a run that stopped is answered: its exit status, and the line that tells the user.
-- Source: this project's choice.
use Rattle.std.specs.Prelude.{ℕ, List, ◌++◌, codes}
use Rattle.std.specs.Fmt.{decimal}
use Rattle.dada_model.specs.Observation.{keyword}
use Rattle.dada_header.specs.declared.faults.HeaderFault.{HeaderFault}
use Rattle.dada_header.specs.declared.faults.HeaderFault.TheVariants as header
use Rattle.obs_plan.specs.declared.fault.ObsFault.{ObsFault}
use Rattle.obs_plan.specs.declared.fault.ObsFault.TheVariants as obs
use Rattle.disk_feeder.specs.declared.answers.HeaderCause.{HeaderCause}
use Rattle.disk_feeder.specs.declared.answers.HeaderCause.TheVariants.{Text, Fields}
use Rattle.search_words.specs.declared.opt.Opt.{Opt}
use Rattle.search_words.specs.declared.opt.Opt.TheVariants.{File}
use Rattle.search_words.specs.Table.{option_name}
use Rattle.run_outcome.specs.declared.causes.PlanCause.{PlanCause}
use Rattle.run_outcome.specs.declared.causes.PlanCause.TheVariants.{SumBound, FoldTooLarge, TooManyFolds, TooManyShards}
use Rattle.run_outcome.specs.declared.causes.RecordingCause.{RecordingCause}
use Rattle.run_outcome.specs.declared.causes.RecordingCause.TheVariants.{NoUtc, BadUtc, Overfull, TooManyFiles}
use Rattle.run_outcome.specs.declared.stop.Stop.{Stop}
use Rattle.run_outcome.specs.declared.stop.Stop.TheVariants.{Words, Value, Header, Plan, Recording, Memory, ReadFault, Gap, TooLong, TooMany, SinkFault, FileFault}

-- the exit status
abbrev pub status_of : Stop → ℕ
status_of Words = 2
status_of (Value opt) = 2
status_of (Header file cause) = 3
status_of (Plan cause) = 4
status_of (Recording cause) = 4
status_of Memory = 5
status_of ReadFault = 6
status_of (Gap file expected found) = 7
status_of (TooLong limit) = 8
status_of (TooMany count limit) = 9
status_of SinkFault = 10
status_of FileFault = 11

-- a cause as a user reads it: its name, and its numbers or its keyword
abbrev pub header_fault_text : HeaderFault → List ℕ
header_fault_text (header.Short had) = codes "Short " ++ decimal had
header_fault_text (header.NotText place) = codes "NotText " ++ decimal place
header_fault_text header.BadSize = codes "BadSize"
header_fault_text header.Memory = codes "Memory"

abbrev pub fields_text : ObsFault → List ℕ
fields_text (obs.Missing key) = codes "Missing " ++ keyword key
fields_text (obs.BadNumber key) = codes "BadNumber " ++ keyword key
fields_text (obs.OutOfProfile key) = codes "OutOfProfile " ++ keyword key
fields_text (obs.OutOfRange key) = codes "OutOfRange " ++ keyword key
fields_text (obs.TooNarrow bw nchan) =
    codes "TooNarrow " ++ decimal bw ++ codes " " ++ decimal nchan
fields_text (obs.Differs key) = codes "Differs " ++ keyword key
fields_text obs.Memory = codes "Memory"

abbrev pub cause_text : HeaderCause → List ℕ
cause_text (Text fault) = header_fault_text fault
cause_text (Fields fault) = fields_text fault

abbrev pub plan_text : PlanCause → List ℕ
plan_text (SumBound max_sample cells factor) = codes "SumBound " ++ decimal max_sample
    ++ codes " " ++ decimal cells ++ codes " " ++ decimal factor
plan_text (FoldTooLarge longest halvings) =
    codes "FoldTooLarge " ++ decimal longest ++ codes " " ++ decimal halvings
plan_text (TooManyFolds count) = codes "TooManyFolds " ++ decimal count
plan_text (TooManyShards shards delays) =
    codes "TooManyShards " ++ decimal shards ++ codes " " ++ decimal delays

abbrev pub recording_text : RecordingCause → List ℕ
recording_text NoUtc = codes "NoUtc"
recording_text BadUtc = codes "BadUtc"
recording_text (Overfull need size) =
    codes "Overfull " ++ decimal need ++ codes " " ++ decimal size
recording_text TooManyFiles = codes "TooManyFiles"

-- an option as a user writes it
abbrev pub option_text : Opt → List ℕ
option_text File = codes "FILE"
option_text opt = codes "--" ++ option_name opt

-- the line to the notes
abbrev pub note_of : Stop → List ℕ
note_of Words = codes "words refused\n"
note_of (Value opt) = codes "option " ++ option_text opt ++ codes " refused\n"
note_of (Header file cause) = codes "header of file " ++ decimal file ++ codes " refused: "
    ++ cause_text cause ++ codes "\n"
note_of (Plan cause) = codes "plan refused: " ++ plan_text cause ++ codes "\n"
note_of (Recording cause) = codes "plan refused: " ++ recording_text cause ++ codes "\n"
note_of Memory = codes "no memory\n"
note_of ReadFault = codes "read fault\n"
note_of (Gap file expected found) = codes "file " ++ decimal file ++ codes " has OBS_OFFSET "
    ++ decimal found ++ codes " where " ++ decimal expected ++ codes " was expected\n"
note_of (TooLong limit) = codes "more than " ++ decimal limit ++ codes " bytes\n"
note_of (TooMany count limit) =
    decimal count ++ codes " candidates, limit " ++ decimal limit ++ codes "\n"
note_of SinkFault = codes "sink fault\n"
note_of FileFault = codes "record fault\n"
