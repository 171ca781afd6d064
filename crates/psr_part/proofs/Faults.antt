-- What a fault of the inputs leaves.
use Rattle.std.proofs.Common.{◌≡◌, ◌≢◌, ℕ, List, Bool, true, false, Some, None, Err, inl, refl, ap, ◌∙◌}
use Rattle.std.specs.Prelude.{IsSome, Result, if◌then◌else◌}
use Rattle.std.specs.Str.{bytes_eq}
use Rattle.psr_base.specs.Told.{Told, OfFile, BreaksOff}
use Rattle.search_model.specs.Parts.{check_line}
use Rattle.search_words.specs.declared.fault.WordFault.{WordFault}
use Rattle.search_words.specs.declared.fault.WordFault.TheVariants as word
use Rattle.warm_restart.specs.declared.checkpoint.Checkpoint.{Checkpoint}
use Rattle.warm_restart.specs.declared.checkpoint.CheckpointFault.{CheckpointFault}
use Rattle.warm_restart.specs.declared.checkpoint.CheckpointFault.TheVariants as check
use Rattle.warm_restart.specs.Named.{most_read, named_text, new_word}
use Rattle.run_outcome.specs.declared.stop.Stop.{Stop}
use Rattle.run_outcome.specs.declared.stop.Stop.TheVariants.{Memory, ReadFault}
use Rattle.run_outcome.specs.Conversions.{stop_of_words}
use Rattle.drive_lone.specs.declared.stop.LoneStop.{LoneStop}
use Rattle.drive_lone.specs.declared.stop.LoneStop.TheVariants as lone
use Rattle.drive_lone.specs.Stops.{FailsReading}
use Rattle.psr_part.specs.declared.stop.PartStop.{PartStop}
use Rattle.psr_part.specs.declared.stop.PartStop.TheVariants.{Run}
use Rattle.psr_part.specs.Texts.{stop_of_checkpoint}
use Rattle.psr_part.specs.Part.{check_word}
use Rattle.psr_part.specs.Outcome.{LeavesAtFault}

-- words that are refused are no fault of the inputs
pub not_words : (f : WordFault) (stop : Stop) → stop ≡ stop_of_words f → Some (Run stop) ≡ Some (Run ReadFault) → ⊥
not_words word.Refused stop of same = absurd cc
not_words fault stop of same = absurd cc

-- nor is a checkpoint that is not read want of memory
pub not_memory : (f : CheckpointFault) (stop : PartStop) → stop ≡ stop_of_checkpoint f →
    Some stop ≡ Some (Run Memory) → ⊥
not_memory check.Failed stop of same = absurd cc
not_memory fault stop of same = absurd cc

-- CHECK was not read
failed_is : (f : CheckpointFault) (stop : PartStop) → stop ≡ stop_of_checkpoint f → Some stop ≡ Some (Run ReadFault) →
    f ≡ check.Failed
failed_is check.Failed stop of same = refl
failed_is fault stop of same = absurd cc

abbrev pub as_result : CheckpointFault → Result Checkpoint CheckpointFault
as_result f = Err f

-- a file that is told tells the text that its name stands for
named_there : (is_new : Bool) (word : List ℕ) (told : Told) → IsSome (told.bytes_under word) →
    IsSome (if is_new then Some (check_line 0 0) else told.bytes_under word)
named_there true word told there = refl
named_there false word told there = there

pub at_check : (words : List (List ℕ)) (is_calm : Type 0) (word : List ℕ) (old new : Told) (f : CheckpointFault)
    (stop : PartStop) → word ≡ check_word words → (word ≡ new_word → as_result f ≢ Err check.Failed) →
    (as_result f ≡ Err check.Failed → OfFile old word (λ _. BreaksOff most_read word old new)) →
    (is_calm → IsSome (named_text old word) → as_result f ≢ Err check.Failed) →
    stop ≡ stop_of_checkpoint f → Some stop ≡ Some (Run ReadFault) → LeavesAtFault words is_calm old new None
at_check words is_calm word old new f stop is not_new broke serves of same =
    let failed : as_result f ≡ Err check.Failed = ap as_result (failed_is f stop of same) in
    inl (
      refl,
      record {
        other = λ e. not_new (is ∙ e) failed;
        broke = rw is at (broke failed);
        missing = λ calm there.
            let told : IsSome (old.bytes_under word) = rw is there in
            serves calm (named_there (bytes_eq word new_word) word old told) failed;
      },
    )

-- a search that had no session fails reading at this stop
pub fails : {F : Type 0} (x : LoneStop F) (stop : Stop) → x ≡ lone.Run stop → Some (Run stop) ≡ Some (Run ReadFault) →
    FailsReading (Err x)
fails x stop is same = let e : stop ≡ ReadFault = cc in rw (is, e) refl
