-- What a run leaves of its inputs.
use Rattle.std.proofs.Common.{◌≡◌, ℕ, inl, Ok, Err, Result, refl, subst}
use Rattle.psr_base.specs.Inputs.{HasReadFrom}
use Rattle.psr_base.specs.Told.{Told}
use Rattle.disk_feeder.specs.declared.feeder.Feeder.{Feeder}
use Rattle.disk_feeder.specs.Feeder.{FeederRead}
use Rattle.run_outcome.specs.declared.stop.Stop.{Stop}
use Rattle.run_outcome.specs.declared.stop.Stop.TheVariants.{Memory}
use Rattle.run_outcome.specs.Runs.{Task, SettingsFor}
use Rattle.search_opening.specs.Ended.{LeavesBefore, HasReadSince}
use Rattle.drive_session.specs.declared.found.Found.{Found}
use Rattle.drive_session.specs.Wholes.{LeavesInputs}

-- a feeder over inputs has read since these
pub read_since : {I : Type 0} (told : I → Told) (is_calm : I → Type 0) (faults : I → ℕ) (failed : Type 0)
    (before start : I) (feeder : Feeder I) → start ≡ before →
    HasReadFrom told is_calm faults failed start feeder.inputs.now →
    FeederRead (told start) (told feeder.inputs.now) feeder → HasReadSince told is_calm before feeder
read_since told is_calm faults failed before start feeder begins read reads =
    subst (λ i. HasReadSince told is_calm i feeder) begins
    (record { names = read.names; calm = read.calm; reads = reads })

-- where a run stops before its session
pub leaves_before : (task : Task) (s : SettingsFor task) (is_calm : Type 0) (old new : Told) (stop : Stop) →
    LeavesBefore task s is_calm old new stop → LeavesInputs task s is_calm old new (Err stop)
leaves_before task s is_calm old new stop left = record {
  unread = λ want. left.unread (one_err (Err stop) stop Memory refl want);
  broken = left.broken;
}
  where
    one_err : (r : Result Found Stop) (a b : Stop) → r ≡ Err a → r ≡ Err b → a ≡ b
    one_err r a b one other = cc

-- and before anything was opened
pub memory_leaves : (task : Task) (s : SettingsFor task) (is_calm : Type 0) (told : Told) →
    LeavesInputs task s is_calm told told (Err Memory)
memory_leaves task s is_calm told = record {
  unread = λ want words says. inl refl;
  broken = λ failed. absurd cc;
}

pub ok_is_no_err : (found : Found) (stop : Stop) → Ok found ≡ Err stop → ⊥
ok_is_no_err found stop is = cc
