-- What the exit status of a levelling says.
-- Source: this project's choice.
use Rattle.std.specs.Prelude.{◌≡◌, ℕ, ◌⊎◌, List, Option, Some, None, option_map}
use Rattle.psr_base.specs.Told.{Told, InputsSeen}
use Rattle.psr_base.specs.Written.{SinkSeen, Noted}
use Rattle.run_outcome.specs.declared.stop.Stop.TheVariants.{ReadFault}
use Rattle.run_outcome.specs.Ends.{CountsFaults}
use Rattle.run_outcome.specs.Firsts.{ReadsFirsts}
use Rattle.search_opening.specs.Settings.{OfRunFirsts}
use Rattle.level_words.specs.declared.fault.LevelFault.{LevelFault}
use Rattle.level_words.specs.Settings.{LevelSeen, SayLevel, ExplainsLevel}
use Rattle.stream_model.specs.WalkLaws.{AreWalked}
use Rattle.drive_stream.specs.declared.stop.StreamStop.{StreamStop}
use Rattle.drive_stream.specs.declared.stop.StreamStop.TheVariants as stream
use Rattle.drive_stream.specs.Laws.{IsFromOutside}
use Rattle.drive_stream.specs.Outcome.{BreaksStream, EndsStream, OfHead, ReadsHead}
use Rattle.psr_level.specs.declared.refusal.LevelRefusal.{LevelRefusal}
use Rattle.psr_level.specs.declared.stop.LevelStop.{LevelStop}
use Rattle.psr_level.specs.declared.stop.LevelStop.TheVariants.{Run}
use Rattle.psr_level.specs.Levels.{CanLevel, Leaves, Refuses, level_block}
use Rattle.psr_level.specs.Notes.{end_status, level_note, stop_of_stream, stop_of_words}

-- how the stream of a levelling of these settings ends
abbrev pub EndsLevel : LevelSeen → Told → SinkSeen → SinkSeen →
    Option (StreamStop LevelRefusal) → Type 0
EndsLevel s told before after stop =
    EndsStream level_block (CanLevel s) (Refuses s) (Leaves s) s.run told before after stop

-- its words say no settings, or there was no memory
pub record EndsAtWords (words : List (List ℕ)) (inputs : InputsSeen) (before after : SinkSeen)
    (stop : Option LevelStop) : Type 0 where
  pub fault : LevelFault
  pub explains : ExplainsLevel words fault
  pub is : stop ≡ Some (stop_of_words fault)
  pub untouched : after ≡ before
  pub unread : inputs.faults_after ≡ inputs.faults_before

-- or they say these, and it ends so
pub record EndsSettings (words : List (List ℕ)) (inputs : InputsSeen) (is_calm : Type 0)
    (before after : SinkSeen) (stop : Option LevelStop) : Type 0 where
  pub settings : LevelSeen
  pub says : SayLevel words settings
  pub read : CountsFaults inputs is_calm settings.run.names (stop ≡ Some (Run ReadFault))
  pub stream : Option (StreamStop LevelRefusal)
  pub is : stop ≡ option_map stop_of_stream stream
  pub ends : EndsLevel settings inputs.told before after stream

-- The outcome of a levelling: its exit status and its line to the notes are those of its stop, if it came to one.
pub record Outcome (words : List (List ℕ)) (inputs : InputsSeen) (is_calm : Type 0)
    (out_before out_after notes_before notes_after : SinkSeen) (status : ℕ) : Type 0 where
  pub stop : Option LevelStop
  pub answered : status ≡ end_status stop
  pub ends : EndsAtWords words inputs out_before out_after stop
      ⊎ EndsSettings words inputs is_calm out_before out_after stop
  pub silent : stop ≡ None → notes_after ≡ notes_before
  pub noted : (what : LevelStop) → stop ≡ Some what →
      Noted (level_note what) notes_before notes_after

-- What was read where the program refuses an observation, by the stop: the first header and no byte past it. Memory,
-- the inputs or the output may fail first.
pub record ReadsRefused (s : LevelSeen) (before after : Told)
    (stop : Option (StreamStop LevelRefusal)) : Type 0 where
  pub stopped : (refusal : LevelRefusal) → stop ≡ Some (stream.Refused refusal) →
      ReadsHead s.run before after
  pub refused : OfRunFirsts before s.run (λ w. AreWalked w → (refusal : LevelRefusal) →
      OfHead (λ o header. Refuses s o header refusal) w →
      ReadsFirsts s.run.names w before after ⊎ IsFromOutside stop)

-- What was read at 5: no file, or the first header and no byte past it; at 12, and at 3 if that header is accepted and
-- refused by the settings, it and no byte past it. And what a fault of the inputs left at 6, of them and of the output.
pub record LeavesFiles (words : List (List ℕ)) (is_calm : Type 0) (before after : Told)
    (out_before out_after : SinkSeen) (status : ℕ) : Type 0 where
  pub unread : status ≡ 5 → (after ≡ before) ⊎ ((s : LevelSeen) → SayLevel words s →
      ReadsHead s.run before after)
  pub masked : status ≡ 12 → (s : LevelSeen) → SayLevel words s → ReadsHead s.run before after
  pub refused : status ≡ 3 → (s : LevelSeen) → SayLevel words s →
      OfRunFirsts before s.run (λ w. AreWalked w → (refusal : LevelRefusal) →
      OfHead (λ o header. Refuses s o header refusal) w → ReadsFirsts s.run.names w before after)
  pub broken : status ≡ 6 → (s : LevelSeen) → SayLevel words s →
      BreaksStream level_block (CanLevel s) (Leaves s) s.run is_calm before after
      out_before out_after
