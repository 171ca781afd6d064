-- Files that are told, by the settings and by the feeder's plan.
use Rattle.std.proofs.Common.{◌≡◌, ℕ, ◌+◌, ◌<◌, List, [], Option, None, length, sym, ap, ◌∙◌, subst}
use Rattle.std.specs.Prelude.{⊤, slice_index_or}
use Rattle.psr_base.specs.Told.{Told, OfFile}
use Rattle.dada_model.specs.Fields.{HeaderText}
use Rattle.dada_model.specs.Observation.{Observation}
use Rattle.search_words.specs.Settings.{RunSeen}
use Rattle.stream_model.specs.Walk.{FileStream, stop_at}
use Rattle.disk_feeder.specs.declared.feeder.Feeder.{Feeder}
use Rattle.disk_feeder.specs.Feeder.{HasPlan, plan_at}
use Rattle.disk_feeder.specs.Plan.{stream_of, AreTold, AreToldAt}
use Rattle.disk_feeder.specs.Reading.{NoStopBefore}
use Rattle.run_outcome.specs.Runs.{stream_for}
use Rattle.search_opening.specs.Settings.{OfRun, OfRunAt, PassesRunTo}
use Rattle.drive_stream.specs.Outcome.{BeginsWith, OfHead, first_header}

-- files are told as long as what is told under the names stands
pub still_told : (Needed : ℕ → Type 0) (old new : Told) (names files : List (List ℕ)) →
    new.bytes_under ≡ old.bytes_under → AreToldAt Needed old names files → AreToldAt Needed new names files
still_told Needed old new names files same are = record {
  count = are.count;
  each = λ k below needed.
      ap (λ (under : List ℕ → Option (List ℕ)). under (slice_index_or names k [])) same ∙ are.each k below needed;
}

-- so is what holds of a file that is told
pub file_still : (old new : Told) (name : List ℕ) (P : List ℕ → Type 0) → new.bytes_under ≡ old.bytes_under →
    OfFile new name P → OfFile old name P
file_still old new name P same holds file is =
    holds file (ap (λ (under : List ℕ → Option (List ℕ)). under name) same ∙ is)

-- what holds of a header and its observation holds of the files that begin with them
pub of_head : (o : Observation) (h : HeaderText) (w : FileStream) → BeginsWith o h w →
    (P : Observation → HeaderText → Type 0) → P o h → OfHead P w
of_head o h w is P holds =
    let Q : Observation → Type 0 = λ p. P p (first_header w) in
    let R : HeaderText → Type 0 = λ g. P o g in
    subst Q (sym is.is) (subst R (sym is.header_is) holds)

-- of all files, those that are needed are told
pub some_told : (Needed : ℕ → Type 0) (told : Told) (names files : List (List ℕ)) → AreTold told names files →
    AreToldAt Needed told names files
some_told Needed told names files are = record { count = are.count; each = λ k below needed. are.each k below }

-- and where none of them is left out, all are
pub all_told : (told : Told) (names files : List (List ℕ)) → AreToldAt (λ k. ⊤) told names files →
    AreTold told names files
all_told told names files are = record { count = are.count; each = λ k below. are.each k below tt }

module _ {I : Type 0} (f : Feeder I) (s : RunSeen) (size : ℕ) (plan : HasPlan f s.names s.starts size s.max_bytes)
    (old new : Told) (same : new.bytes_under ≡ old.bytes_under) where
  same_stream : (files : List (List ℕ)) → stream_of (plan_at f) files ≡ stream_for s files
  same_stream files =
      ap (λ (starts : List ℕ). record { files = files; starts = starts; max_bytes = (plan_at f).max_bytes })
      plan.transfers
      ∙ ap (λ (limit : ℕ). record { files = files; starts = s.starts; max_bytes = limit }) plan.limit

  -- What holds of the feeder's files holds of those of the settings. Which are needed is said by the starts of the
  -- transfers and the count of the files.
  pub of_plan : (Needed : List ℕ → ℕ → ℕ → Type 0) (P : FileStream → Type 0) →
      ((files : List (List ℕ)) →
      AreToldAt (Needed (plan_at f).starts (length (plan_at f).names)) new (plan_at f).names files →
      P (stream_of (plan_at f) files)) → OfRunAt (Needed s.starts (length s.names)) old s P
  of_plan Needed P holds files are =
      let Names : List (List ℕ) → Type 0 = λ names. AreToldAt (Needed s.starts (length names)) new names files in
      let Starts : List ℕ → Type 0 = λ starts.
      AreToldAt (Needed starts (length (plan_at f).names)) new (plan_at f).names files in
      subst P (same_stream files)
      (holds files (subst Starts (sym plan.transfers) (subst Names (sym plan.files)
      (still_told (Needed s.starts (length s.names)) old new s.names files same are))))

  -- of all files, what holds of the feeder's where all of these are told
  pub all_of_plan : (P : FileStream → Type 0) →
      ((files : List (List ℕ)) → AreTold new (plan_at f).names files → P (stream_of (plan_at f) files)) →
      OfRun old s P
  all_of_plan P holds files are =
      of_plan (λ starts count k. ⊤) P (λ fs each. holds fs (all_told new (plan_at f).names fs each)) files
      (some_told (λ k. ⊤) old s.names files are)

  -- no file before this one stops the walk
  pub passes_run : (file : ℕ) → NoStopBefore (plan_at f) new file → PassesRunTo file old s
  passes_run file passed k below =
      of_plan (λ starts count j. j < k + 1) (λ w. stop_at w k ≡ None) (passed k below)
