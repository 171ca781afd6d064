-- How a search ends that prints its parts while the data come, and what its exit status says.
-- Source: this project's choice.
use Rattle.std.specs.Prelude.{◌≡◌, ◌≢◌, ℕ, ◌+◌, ◌<◌, ◌≤◌, ◌⊎◌, List, length, Option, Some, None, Err, Contains}
use Rattle.std.specs.Option.{ForSome}
use Rattle.dada_model.specs.Fields.{HeaderText}
use Rattle.dada_model.specs.Observation.{Observation}
use Rattle.psr_base.specs.Told.{Told, InputsSeen}
use Rattle.psr_base.specs.Written.{SinkSeen, Noted, WroteAll}
use Rattle.search_model.specs.Plan.{plan_refusal}
use Rattle.search_words.specs.declared.fault.WordFault.{WordFault}
use Rattle.search_words.specs.Settings.{SettingsSeen, with_search}
use Rattle.stream_model.specs.Walk as walk
use Rattle.stream_model.specs.Walk.{FileStream, WalkStop, stop_at, transfer_data, walk_stop}
use Rattle.stream_model.specs.WalkLaws.{AreWalked}
use Rattle.disk_feeder.specs.declared.answers.HeaderCause.{HeaderCause}
use Rattle.disk_feeder.specs.Filling.{HoldsAll}
use Rattle.disk_feeder.specs.Plan.{AreTold}
use Rattle.warm_restart.specs.declared.checkpoint.Checkpoint.{Checkpoint}
use Rattle.warm_restart.specs.declared.checkpoint.CheckpointFault.{CheckpointFault}
use Rattle.warm_restart.specs.declared.checkpoint.CheckpointFault.TheVariants as check
use Rattle.warm_restart.specs.Checkpoint.{IsCheckpointText, IsJudged}
use Rattle.warm_restart.specs.Counts.{greatest_count}
use Rattle.run_outcome.specs.declared.stop.Stop.TheVariants.{Header, ReadFault}
use Rattle.run_outcome.specs.Conversions.{stop_of_words}
use Rattle.run_outcome.specs.Ends.{CountsFaults}
use Rattle.run_outcome.specs.Lone.{SayAlone, ExplainsAlone}
use Rattle.run_outcome.specs.Runs.{CanSearch, RefusesFirstHeader, first_observation, stop_of_walk, stream_for}
use Rattle.run_outcome.specs.Firsts.{first_file}
use Rattle.drive_stream.specs.declared.stop.StreamStop.{StreamStop}
use Rattle.drive_stream.specs.Endings.{Ending}
use Rattle.drive_stream.specs.declared.stop.StreamStop.TheVariants as streamed
use Rattle.drive_stream.specs.Laws.{IsFromOutside, RefusesAtEnd}
use Rattle.drive_stream.specs.Outcome.{EndsStream}
use Rattle.drive_stream.specs.Stops.{as_run}
use Rattle.search_opening.specs.Settings.{OfRun, OfRunFirsts, OfRunTo}
use Rattle.live_search.specs.Live.{Task}
use Rattle.psr_part.specs.declared.stop.PartStop.{PartStop}
use Rattle.psr_part.specs.declared.stop.PartStop.TheVariants.{Run}
use Rattle.psr_part.specs.Part.{check_names, check_text_of}
use Rattle.psr_part.specs.Texts.{end_status, stop_of_checkpoint}
use Rattle.psr_live.specs.declared.task.LiveRefusal.{LiveRefusal}
use Rattle.psr_live.specs.Task.{LeavesLive, RefusesLive, spectra_of, text_of, live_block}
use Rattle.psr_live.specs.Texts.{live_note, live_statuses, stop_of_stream}
use Rattle.psr_live.specs.Words.{every_in, live_alone}

-- ---- what it is over

-- the words say these settings
abbrev pub SayLive : List (List ℕ) → SettingsSeen → Type 0
SayLive words s = SayAlone live_alone words s

-- CHECK says this checkpoint, where it is told; data may have spectra past its place
pub record GoesOnFrom (told : Told) (words : List (List ℕ)) (from : Checkpoint) : Type 0 where
  pub text : ForSome (check_text_of told words) (λ text. IsCheckpointText text from)
  pub before : from.place < greatest_count

-- what is searched, in parts of how many spectra, and from which checkpoint on
abbrev pub task_in : List (List ℕ) → SettingsSeen → Checkpoint → Task
task_in words s from = record { search = s.search; every = every_in words; from = from }

-- the text of all data of the files
abbrev pub text_in : List (List ℕ) → SettingsSeen → Checkpoint → FileStream → List ℕ
text_in words s from w =
    text_of (first_observation w 0) (task_in words s from) (transfer_data w 0)

-- how many spectra they have
abbrev pub spectra_in : FileStream → ℕ
spectra_in w = spectra_of (first_observation w 0) (transfer_data w 0)

-- P holds of the settings that the words say and of the files that they name, where the bytes of all are told
abbrev pub ForLive : List (List ℕ) → Told → (SettingsSeen → FileStream → Type 0) → Type 0
ForLive words told P = (s : SettingsSeen) (files : List (List ℕ)) → SayLive words s →
    AreTold told s.names files → P s (stream_for s files)

-- ---- its ends

-- the words say no settings, or there was no memory: no file was opened
pub record EndsAtWords (words : List (List ℕ)) (inputs : InputsSeen) (before after : SinkSeen)
    (stop : Option PartStop) : Type 0 where
  pub fault : WordFault
  pub explains : ExplainsAlone live_alone words fault
  pub is : stop ≡ Some (Run (stop_of_words fault))
  pub untouched : after ≡ before
  pub unread : inputs.faults_after ≡ inputs.faults_before

-- they say settings, and CHECK no checkpoint that is accepted, or it could not be read; nothing else was
pub record EndsAtCheck (words : List (List ℕ)) (inputs : InputsSeen) (is_calm : Type 0)
    (before after : SinkSeen) (stop : Option PartStop) : Type 0 where
  pub settings : SettingsSeen
  pub says : SayLive words settings
  pub fault : CheckpointFault
  pub is : stop ≡ Some (stop_of_checkpoint fault)
  pub judged : fault ≢ check.Failed → ForSome (check_text_of inputs.told words)
      (λ text. IsJudged text greatest_count (Err fault))
  pub late : (place until : ℕ) → fault ≡ check.Place place until →
      (until ≡ greatest_count) × (until ≤ place)
  pub untouched : after ≡ before
  pub read : CountsFaults inputs is_calm (check_names words) (fault ≡ check.Failed)

-- what it leaves of data bytes, by their ending
abbrev pub LeavesIn : List (List ℕ) → SettingsSeen → Checkpoint → Observation → HeaderText →
    List ℕ → Ending LiveRefusal → SinkSeen → SinkSeen → Type 0
LeavesIn words s from o header bytes ending before after =
    LeavesLive o (task_in words s from) bytes ending before after

-- What stands against such a run is answered by its stop, or there is no memory, or the inputs or the output failed: a
-- first header that is refused, and one whose search is; a file that stops the walk where none before it does, whatever
-- is told of later ones. Where nothing does, all data go through, or are refused at their end.
pub record AnswersCauses (s : SettingsSeen) (leaves : Observation → HeaderText → List ℕ →
    Ending LiveRefusal → SinkSeen → SinkSeen → Type 0) (told : Told) (before after : SinkSeen)
    (stop : Option (StreamStop LiveRefusal)) : Type 0 where
  pub accepted : OfRun told s (λ w. AreWalked w → CanSearch s.search (first_file w 0) →
      walk_stop w ≡ walk.Whole → (stop ≡ None)
      ⊎ (RefusesAtEnd leaves w before after stop ⊎ IsFromOutside stop))
  pub headers : OfRunFirsts told s (λ w. (file : ℕ) (cause : HeaderCause) →
      RefusesFirstHeader w file cause → ((k : ℕ) × (other : HeaderCause)
      × (stop ≡ Some (streamed.Run (Header k other)))) ⊎ IsFromOutside stop)
  pub refusals : OfRunFirsts told s (λ w. AreWalked w → (refusal : LiveRefusal) →
      RefusesLive s.search (first_observation w 0) refusal → ((other : LiveRefusal)
      × (stop ≡ Some (streamed.Refused other))
      × RefusesLive s.search (first_observation w 0) other) ⊎ IsFromOutside stop)
  pub stops : (file : ℕ) → file < length s.names → OfRunTo (file + 1) told s (λ w. AreWalked w →
      CanSearch s.search (first_file w 0) → ((k : ℕ) → k < file → stop_at w k ≡ None) →
      (at : WalkStop) → stop_at w file ≡ Some at →
      (stop ≡ as_run (stop_of_walk s.max_bytes at)) ⊎ IsFromOutside stop)

-- or it goes on from a checkpoint, and its data stream through it to the output; what was told under the names of the
-- files stands then
pub record EndsStreamed (words : List (List ℕ)) (inputs : InputsSeen) (is_calm : Type 0)
    (before after : SinkSeen) (stop : Option PartStop) : Type 0 where
  pub settings : SettingsSeen
  pub says : SayLive words settings
  pub from : Checkpoint
  pub goes_on : GoesOnFrom inputs.told words from
  pub told : Told
  pub names : told.bytes_under ≡ inputs.told.bytes_under
  pub streamed : Option (StreamStop LiveRefusal)
  pub is : stop ≡ stop_of_stream streamed
  pub ends : EndsStream live_block (λ o header. plan_refusal o settings.search ≡ None)
      (λ o header refusal. RefusesLive settings.search o refusal)
      (LeavesIn words settings from) (with_search tt settings) told before after streamed
  pub causes : AnswersCauses settings (LeavesIn words settings from) told before after streamed
  pub read : CountsFaults inputs (is_calm × HoldsAll inputs.told (check_names words))
      settings.names (stop ≡ Some (Run ReadFault))

abbrev pub EndsLive : List (List ℕ) → InputsSeen → Type 0 → SinkSeen → SinkSeen →
    Option PartStop → Type 0
EndsLive words inputs is_calm before after stop = EndsAtWords words inputs before after stop
    ⊎ (EndsAtCheck words inputs is_calm before after stop
    ⊎ EndsStreamed words inputs is_calm before after stop)

-- ---- the outcome

-- The outcome of the search for these words over these inputs, which may be calm: its exit status, and its line to the
-- notes, are those of its stop, if it came to one; and it ended so. There is no other status.
pub record Outcome (words : List (List ℕ)) (inputs : InputsSeen) (is_calm : Type 0)
    (out_before out_after notes_before notes_after : SinkSeen) (status : ℕ) : Type 0 where
  pub stop : Option PartStop
  pub answered : status ≡ end_status stop
  pub known : Contains live_statuses status
  pub ends : EndsLive words inputs is_calm out_before out_after stop
  pub silent : stop ≡ None → notes_after ≡ notes_before
  pub noted : (what : PartStop) → stop ≡ Some what →
      Noted (live_note what) notes_before notes_after

-- The headline: all data were read and searched, the first header and the search are accepted, the data reach the place
-- of the checkpoint, and the output has grown by exactly their text.
pub record WritesText (words : List (List ℕ)) (told : Told) (before after : SinkSeen) :
    Type 0 where
  pub from : Checkpoint
  pub goes_on : GoesOnFrom told words from
  pub text : ForLive words told (λ s w. AreWalked w × CanSearch s.search (first_file w 0)
      × (walk_stop w ≡ walk.Whole) × (from.place ≤ spectra_in w)
      × WroteAll (text_in words s from w) before after)
