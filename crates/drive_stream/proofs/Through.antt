-- A run from its settings on: over the inputs before anything was read.
use Rattle.std.proofs.Common.{◌≡◌, ℕ, List, [], Option, Some, inl, inr, refl, sym, ap, ◌∙◌, subst}
use Rattle.std.specs.Prelude.{slice_index_or, IsSome}
use Rattle.psr_base.specs.Inputs.{HasReadFrom}
use Rattle.psr_base.specs.Told.{Told}
use Rattle.psr_base.specs.Written.{SinkSeen}
use Rattle.dada_model.specs.Fields.{HeaderText}
use Rattle.dada_model.specs.Observation.{Observation}
use Rattle.search_words.specs.Settings.{RunSeen}
use Rattle.disk_feeder.specs.declared.feeder.Feeder.{Feeder}
use Rattle.disk_feeder.specs.Feeder.{FeederRead}
use Rattle.disk_feeder.specs.Filling.{HoldsAll}
use Rattle.run_outcome.specs.declared.stop.Stop.{Stop}
use Rattle.run_outcome.specs.declared.stop.Stop.TheVariants as halts
use Rattle.drive_stream.specs.declared.stop.StreamStop.{StreamStop}
use Rattle.drive_stream.specs.declared.stop.StreamStop.TheVariants.{Run, Refused}
use Rattle.drive_stream.specs.Endings.{Ending}
use Rattle.drive_stream.specs.Opening.{LeavesBefore}
use Rattle.drive_stream.specs.Outcome.{BreaksFed, EndsStream, LeavesInputs, ReadsHead, ReadsRefused, SaysBefore}

module _ {F : Type 0} (block : Observation → ℕ) (takes : Observation → HeaderText → Type 0)
    (refuses : Observation → HeaderText → F → Type 0)
    (leaves : Observation → HeaderText → List ℕ → Ending F → SinkSeen → SinkSeen → Type 0) (s : RunSeen) where
  -- there was no memory for the feeder
  pub no_memory_ends : (told : Told) (seen : SinkSeen) →
      EndsStream block takes refuses leaves s told seen seen (Some (Run halts.Memory))
  no_memory_ends told seen =
      inl (record { what = Run halts.Memory; is = refl; says = (tt, tt); untouched = refl })

pub stopped_ends : {I F : Type 0} (told : I → Told) (block : Observation → ℕ)
    (takes : Observation → HeaderText → Type 0)
    (refuses : Observation → HeaderText → F → Type 0)
    (leaves : Observation → HeaderText → List ℕ → Ending F → SinkSeen → SinkSeen → Type 0) (s : RunSeen) (old start : I)
    (seen : SinkSeen) (stop : StreamStop F) → start ≡ old → SaysBefore refuses s (told start) stop →
    EndsStream block takes refuses leaves s (told old) seen seen (Some stop)
stopped_ends told block takes refuses leaves s old start seen stop same says =
    inl (record {
      what = stop;
      is = refl;
      says = subst (λ i. SaysBefore refuses s (told i) stop) same says;
      untouched = refl;
    })

module _ {I : Type 0} (told : I → Told) (is_calm : I → Type 0) (faults : I → ℕ) where
  pub names_through : (old start mid : I) (failed : Type 0) → start ≡ old →
      HasReadFrom told is_calm faults failed start mid → (told mid).bytes_under ≡ (told old).bytes_under
  names_through old start mid failed same read = read.names ∙ ap (λ i. (told i).bytes_under) same

  pub serves_through : (s : RunSeen) (old start mid : I) (failed fails : Type 0) → start ≡ old →
      HasReadFrom told is_calm faults failed start mid →
      (is_calm mid → HoldsAll (told mid) s.names → fails → ⊥) →
      is_calm old → HoldsAll (told old) s.names → fails → ⊥
  serves_through s old start mid failed fails same read serves calm holds =
      let names = names_through old start mid failed same read in
      serves (read.calm (subst is_calm (sym same) calm)) (λ k below.
      subst (λ (under : List ℕ → Option (List ℕ)). IsSome (under (slice_index_or s.names k []))) (sym names)
      (holds k below))

-- ---- what was read

-- no file was opened, as there was no memory
pub left_unread : {F : Type 0} (block : Observation → ℕ) (takes : Observation → HeaderText → Type 0)
    (leaves : Observation → HeaderText → List ℕ → Ending F → SinkSeen → SinkSeen → Type 0) (s : RunSeen)
    (is_calm : Type 0) (told : Told) (seen : SinkSeen) →
    LeavesInputs block takes leaves s is_calm told told seen seen (Some (Run halts.Memory))
left_unread block takes leaves s is_calm told seen = record { unread = λ is. inl refl; broken = λ is. absurd cc }

run_same : {F : Type 0} (stop : StreamStop F) (a b : Stop) → stop ≡ Run a → Some stop ≡ Some (Run b) → a ≡ b
run_same stop a b here is = cc

pub left_early : {I F : Type 0} (told : I → Told) (is_calm : I → Type 0) (block : Observation → ℕ)
    (takes : Observation → HeaderText → Type 0)
    (leaves : Observation → HeaderText → List ℕ → Ending F → SinkSeen → SinkSeen → Type 0) (s : RunSeen)
    (old start new : I) (seen : SinkSeen) (stop : StreamStop F) → start ≡ old →
    LeavesBefore s (is_calm start) (told start) (told new) stop →
    LeavesInputs block takes leaves s (is_calm old) (told old) (told new) seen seen (Some stop)
left_early {I} {F} told is_calm block takes leaves s old start new seen stop same left =
    let P : I → Type 0 = λ i.
    LeavesInputs block takes leaves s (is_calm i) (told i) (told new) seen seen (Some stop) in
    subst P same (by stop left)
  where
    by : (stop : StreamStop F) → LeavesBefore s (is_calm start) (told start) (told new) stop →
        LeavesInputs block takes leaves s (is_calm start) (told start) (told new) seen seen (Some stop)
    by (Run stop) left = record {
      unread = λ is. inr (left.unread (run_same (Run stop) stop halts.Memory refl is));
      broken = λ is. inl (left.broke (run_same (Run stop) stop halts.ReadFault refl is), refl);
    }
    by (Refused refusal) left = record { unread = λ is. absurd cc; broken = λ is. absurd cc }

pub left_broken : {I F : Type 0} (told : I → Told) (is_calm : I → Type 0) (faults : I → ℕ)
    (block : Observation → ℕ) (takes : Observation → HeaderText → Type 0)
    (leaves : Observation → HeaderText → List ℕ → Ending F → SinkSeen → SinkSeen → Type 0) (s : RunSeen)
    (seen after : SinkSeen) (old start mid new : I) (failed : Type 0) (stop : Option (StreamStop F)) → start ≡ old →
    HasReadFrom told is_calm faults failed start mid → (stop ≡ Some (Run halts.Memory) → ⊥) →
    (f : Feeder I) →
    (stop ≡ Some (Run halts.ReadFault) → (told mid).bytes_under ≡ (told old).bytes_under →
    FeederRead (told old) (told mid) f →
    BreaksFed block takes leaves s (is_calm mid) (told old) (told new) seen after) →
    FeederRead (told start) (told mid) f →
    LeavesInputs block takes leaves s (is_calm old) (told old) (told new) seen after stop
left_broken told is_calm faults block takes leaves s seen after old start mid new failed stop same read memory f
    broken begins =
    let Read : _ → Type 0 = λ i. FeederRead (told i) (told mid) f in
    record {
      unread = λ is. absurd (memory is);
      broken = λ is.
          let names = names_through told is_calm faults old start mid failed same read in
          let broke = broken is names (subst Read same begins) in
          let b = broke.read in
          let calmer : is_calm old → is_calm mid = λ calm. read.calm (subst is_calm (sym same) calm) in
          inr (record {
            fed = broke.fed;
            read = record {
              there = b.there;
              passed = b.passed;
              cut = b.cut;
              stood = b.stood;
              past = b.past;
              through = b.through;
              missing = λ calm. b.missing (calmer calm);
              shut = λ calm. b.shut (calmer calm);
              unopened = λ calm. b.unopened (calmer calm);
            };
          });
    }

-- ---- what was read where the program refuses

pub refused_unread : {F : Type 0}
    (leaves : Observation → HeaderText → List ℕ → Ending F → SinkSeen → SinkSeen → Type 0) (s : RunSeen) (told : Told)
    (seen : SinkSeen) → ReadsRefused leaves s told told seen seen (Some (Run halts.Memory))
refused_unread leaves s told seen refusal is = absurd cc

pub refused_early : {I F : Type 0} (told : I → Told) (is_calm : I → Type 0)
    (leaves : Observation → HeaderText → List ℕ → Ending F → SinkSeen → SinkSeen → Type 0) (s : RunSeen)
    (old start new : I) (seen : SinkSeen) (stop : StreamStop F) → start ≡ old →
    LeavesBefore s (is_calm start) (told start) (told new) stop →
    ReadsRefused leaves s (told old) (told new) seen seen (Some stop)
refused_early told is_calm leaves s old start new seen (Run stop) same left refusal is files are =
    absurd cc
refused_early told is_calm leaves s old start new seen (Refused other) same left refusal is files are =
    let Reads : _ → Type 0 = λ i. ReadsHead s (told i) (told new) in inl (subst Reads same left files are)
