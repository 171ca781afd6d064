-- Settings that a run can be driven by, all words that say them, and the files that they name.
-- Source: this project's choice.
use Rattle.std.specs.Prelude.{◌≡◌, ℕ, ◌+◌, ◌<◌, true, List, length, None}
use Rattle.psr_base.specs.Told.{Told}
use Rattle.search_model.specs.Search.{SettingsInRange}
use Rattle.search_words.specs.Settings.{SettingsOf, RunInRange, with_search}
use Rattle.stream_model.specs.Walk.{FileStream, stop_at}
use Rattle.disk_feeder.specs.Plan.{AreTold, AreToldAt, IsFirstFile}
use Rattle.run_outcome.specs.Runs.{Task, RecordingAlone, SettingsFor, IfSearch, Says, MayBegin, CanBegin, stream_for}

-- settings that a run can be driven by: every value lies in its range, and files that are recorded alone are recorded
pub record CanBeDriven (task : Task) (s : SettingsFor task) : Type 0 where
  pub range : RunInRange (with_search tt s)
  pub search : IfSearch task s.search SettingsInRange
  pub records : task ≡ RecordingAlone → s.recording ≡ true

-- P holds of all words that say the settings
abbrev pub ForWords : (task : Task) → SettingsFor task → (List (List ℕ) → Type 0) → Type 0
ForWords task s P = (words : List (List ℕ)) → Says task words s → P words

-- P holds of the files that the settings name, as a walk sees them, where the bytes of all are told
abbrev pub OfRun : {S : Type 0} → Told → SettingsOf S → (FileStream → Type 0) → Type 0
OfRun told s P = (files : List (List ℕ)) → AreTold told s.names files → P (stream_for s files)

-- where those are told that the settings need
abbrev pub OfRunAt : {S : Type 0} → (ℕ → Type 0) → Told → SettingsOf S → (FileStream → Type 0) →
    Type 0
OfRunAt Needed told s P = (files : List (List ℕ)) → AreToldAt Needed told s.names files →
    P (stream_for s files)

-- the first file of each transfer
abbrev pub OfRunFirsts : {S : Type 0} → Told → SettingsOf S → (FileStream → Type 0) → Type 0
OfRunFirsts told s = OfRunAt (IsFirstFile s.starts (length s.names)) told s

-- so many files from the first on
abbrev pub OfRunTo : {S : Type 0} → ℕ → Told → SettingsOf S → (FileStream → Type 0) → Type 0
OfRunTo opened told s = OfRunAt (λ k. k < opened) told s

-- what first headers say is judged: of each first file that is told, by itself; and P holds where all are told
abbrev pub JudgesRun : {S : Type 0} → Told → SettingsOf S → Type 0 → (FileStream → Type 0) → Type 0
JudgesRun told s Each P = Each × OfRunFirsts told s P

-- nothing stands against a run by its first files
abbrev pub BeginsRun : (task : Task) → Told → SettingsFor task → Type 0
BeginsRun task told s = JudgesRun told s (MayBegin task s told) (λ w. CanBegin task s w)

-- none of the files before this one stops the walk, each by the files up to it
abbrev pub PassesRunTo : {S : Type 0} → ℕ → Told → SettingsOf S → Type 0
PassesRunTo file told s = (k : ℕ) → k < file → OfRunTo (k + 1) told s (λ w. stop_at w k ≡ None)
