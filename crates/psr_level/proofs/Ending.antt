-- How a levelling ends, by its settings and by its words.
use Rattle.std.proofs.Common.{◌≡◌, ℕ, List, [], ◌∷◌, Option, Some, None, length, sym, ap, ◌∙◌, subst}
use Rattle.std.specs.Prelude.{option_map}
use Rattle.psr_base.specs.Inputs.{HasReadFrom}
use Rattle.psr_base.specs.Told.{Told}
use Rattle.psr_base.specs.Written.{SinkSeen, WroteAll}
use Rattle.disk_feeder.specs.Filling.{HoldsAll}
use Rattle.run_outcome.specs.declared.stop.Stop.TheVariants.{ReadFault}
use Rattle.search_words.specs.Settings.{RunInRange}
use Rattle.search_opening.specs.Settings.{OfRun}
use Rattle.level_words.specs.Settings.{LevelSeen, SayLevel}
use Rattle.drive_stream.specs.Laws.{StreamsEnd}
use Rattle.drive_stream.specs.declared.stop.StreamStop.{StreamStop}
use Rattle.drive_stream.specs.declared.stop.StreamStop.TheVariants as stream
use Rattle.psr_level.specs.declared.refusal.LevelRefusal.{LevelRefusal}
use Rattle.psr_level.specs.declared.refusal.LevelRefusal.TheVariants.{LongTime}
use Rattle.psr_level.specs.declared.stop.LevelStop.{LevelStop}
use Rattle.psr_level.specs.declared.stop.LevelStop.TheVariants.{Run}
use Rattle.psr_level.specs.Complete.{IsComplete}
use Rattle.psr_level.specs.Files.{ForLevel, level_file}
use Rattle.psr_level.specs.Levels.{CanLevel, Leaves, Refuses, level_block}
use Rattle.psr_level.specs.Notes.{stop_of_stream}
use Rattle.psr_level.specs.Outcome.{EndsLevel, EndsSettings}

-- the inputs failed exactly where the stream says so
says_fault : (o : Option (StreamStop LevelRefusal)) → option_map stop_of_stream o ≡ Some (Run ReadFault) →
    o ≡ Some (stream.Run ReadFault)
says_fault (Some (stream.Run stop)) is = let same : stop ≡ ReadFault = cc in ap (λ x. Some (stream.Run x)) same
says_fault (Some (stream.Refused LongTime)) is = absurd cc
says_fault o is = absurd cc

fault_says : (o : Option (StreamStop LevelRefusal)) → o ≡ Some (stream.Run ReadFault) →
    option_map stop_of_stream o ≡ Some (Run ReadFault)
fault_says o is = ap (option_map stop_of_stream) is

pub ends_settings : {I : Type 0} (told : I → Told) (is_calm : I → Type 0) (faults : I → ℕ) (words : List (List ℕ))
    (s : LevelSeen) (old new : I) (before after : SinkSeen) (o : Option (StreamStop LevelRefusal))
    (stop : Option LevelStop) → SayLevel words s → stop ≡ option_map stop_of_stream o →
    HasReadFrom told is_calm faults (o ≡ Some (stream.Run ReadFault)) old new →
    (is_calm old → HoldsAll (told old) s.run.names → o ≡ Some (stream.Run ReadFault) → ⊥) →
    EndsLevel s (told old) before after o →
    EndsSettings words
    (record { told = told old; faults_before = faults old; faults_after = faults new }) (is_calm old) before after stop
ends_settings told is_calm faults words s old new before after o stop says is read serves ends =
    let to : stop ≡ Some (Run ReadFault) → o ≡ Some (stream.Run ReadFault) = λ e. says_fault o (sym is ∙ e) in
    record {
      settings = s;
      says = says;
      read = record {
        rose = λ failed. read.rose (to failed);
        quiet = λ fine. read.quiet (λ failed. fine (is ∙ fault_says o failed));
        count = read.count;
        serves = λ calm holds failed. serves calm holds (to failed);
      };
      stream = o;
      is = is;
      ends = ends;
    }

-- the same words never say two different settings
pub says_once : (words : List (List ℕ)) (s t : LevelSeen) → SayLevel words s → SayLevel words t → t ≡ s
says_once words s t one other = other.values ∙ sym one.values

-- a levelling that came to no stop has written the levelled file
pub whole_written : (s : LevelSeen) → StreamsEnd level_block (CanLevel s) (Refuses s) (Leaves s) → RunInRange s.run →
    s.run.starts ≡ 0 ∷ [] → (told : Told) (before after : SinkSeen) (o : Option (StreamStop LevelRefusal)) →
    EndsLevel s told before after o → o ≡ None →
    OfRun told s.run (λ w. WroteAll (level_file s w) before after)
whole_written s law range one told before after o ends none files are =
    let Ends : Option (StreamStop LevelRefusal) → Type 0 = λ x. EndsLevel s told before after x in
    (law s.run told before after (record { range = range; one = ap (length {A = ℕ}) one }) (subst Ends none ends) files
    are).3

-- whatever settings the words say
pub for_words : (words : List (List ℕ)) (t : LevelSeen) → SayLevel words t → (told : Told) (before after : SinkSeen) →
    OfRun told t.run (λ w. WroteAll (level_file t w) before after) →
    ForLevel words told (λ s w. WroteAll (level_file s w) before after)
for_words words t one told before after wrote s says =
    let P : LevelSeen → Type 0 = λ x. OfRun told x.run (λ w. WroteAll (level_file x w) before after) in
    subst P (sym (says_once words t s one says)) wrote

pub complete_for : (words : List (List ℕ)) (t : LevelSeen) → SayLevel words t → (told : Told) (status other : ℕ) →
    other ≡ status → IsComplete t told status → (s : LevelSeen) → SayLevel words s → IsComplete s told other
complete_for words t one told status other same complete s says =
    let P : LevelSeen → Type 0 = λ x. IsComplete x told other in
    let Q : ℕ → Type 0 = λ n. IsComplete t told n in
    subst P (sym (says_once words t s one says)) (subst Q (sym same) complete)
