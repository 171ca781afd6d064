-- What a run of either program leaves, from its settings to the end of its session, or where it stops before.
-- Source: this project's choice.
use Rattle.std.specs.Prelude.{◌≡◌, ◌≢◌, ℕ, ◌^◌, ◌<◌, true, false, List, map, Option, Some, Result, Ok, Err}
use Rattle.psr_base.specs.Told.{Told}
use Rattle.psr_base.specs.Made.{FilesSeen}
use Rattle.search_model.specs.declared.search.Search.{Search}
use Rattle.search_words.specs.Settings.{SettingsOf}
use Rattle.ring_ends.specs.declared.finished.Finished.{Finished}
use Rattle.disk_feeder.specs.declared.answers.FeedEnd.TheVariants as feed
use Rattle.disk_feeder.specs.declared.answers.FeedEnd.TheVariants.{Whole}
use Rattle.dada_recorder.specs.declared.answers.RecordEnd.TheVariants.{FileFault}
use Rattle.transfer_text.specs.Searched.{ObservedTransfer, candidate_total}
use Rattle.transfer_text.specs.Found.{HoldTransfers}
use Rattle.run_outcome.specs.declared.stop.Stop.{Stop}
use Rattle.run_outcome.specs.declared.stop.Stop.TheVariants.{Memory, ReadFault}
use Rattle.run_outcome.specs.Ends.{StopsBefore, IsRunFed, IsRecorded}
use Rattle.run_outcome.specs.Runs.{Task, Searching, RecordingAlone, Alone, SettingsFor, IfSearch, observed_transfers}
use Rattle.run_outcome.specs.Outcomes.{blocks_of, ReadsNoData, LeavesAtFault, AllCleared}
use Rattle.search_opening.specs.Settings.{ForWords, OfRun}
use Rattle.drive_session.specs.declared.found.Found.{Found}

-- how many shards it has
abbrev pub shards_of : (task : Task) → SettingsFor task → ℕ
shards_of Searching s = s.search.shards
shards_of RecordingAlone s = 0
shards_of (Alone lone) s = 1

-- a run was given up before its session, for all words that say its settings
abbrev pub IsStopped : (task : Task) → SettingsFor task → Told → Stop → Type 0
IsStopped task s told stop = ForWords task s (λ words. StopsBefore task words told stop)

-- it read no data, for all words that say its settings
abbrev pub ReadsNone : (task : Task) → SettingsFor task → Told → Told → Type 0
ReadsNone task s before after = ForWords task s (λ words. ReadsNoData task words before after)

-- what a fault of its inputs leaves, for all words that say its settings
abbrev pub LeavesRun : (task : Task) → SettingsFor task → Type 0 → Told → Told → Option Finished →
    Type 0
LeavesRun task s is_calm before after blocks =
    ForWords task s (λ words. LeavesAtFault task words is_calm before after blocks)

-- the inputs failed
abbrev pub FailsReading : Result Found Stop → Type 0
FailsReading (Ok found) = found.feed ≡ feed.ReadFault
FailsReading (Err stop) = stop ≡ ReadFault

-- What a run has read of its inputs, where it did not go through: no data, where there was no memory; and at a fault of
-- theirs what that leaves.
pub record LeavesInputs (task : Task) (s : SettingsFor task) (is_calm : Type 0) (before after : Told)
    (result : Result Found Stop) : Type 0 where
  pub unread : result ≡ Err Memory → ReadsNone task s before after
  pub broken : FailsReading result → LeavesRun task s is_calm before after
      (blocks_of (λ (found : Found). found.blocks) result)

-- each shard cleared all that was sealed, and the recorder did where no call on its files failed
pub record ClearsAll (task : Task) (s : SettingsFor task) (found : Found) : Type 0 where
  pub shards : IfSearch task s.search (λ search. AllCleared found.blocks 0 search.shards)
  pub recorder : s.recording ≡ true → found.recorded ≢ Some FileFault →
      AllCleared found.blocks (shards_of task s) 1

-- the books of a search hold the candidates of all data that went through, which are counted in 64
-- bits; where the files are told these are their data
pub record HoldsFound {S : Type 0} (search : Search) (s : SettingsOf S) (told : Told)
    (found : Found) : Type 0 where
  pub transfers : List ObservedTransfer
  pub held : HoldTransfers search transfers found.observations.items
      (map (λ row. row.items) found.books.items) found.spectra.items
  pub total : candidate_total search transfers < 2 ^ 64
  pub known : OfRun told s (λ w. transfers ≡ observed_transfers w)

-- A run went to the end of its session. Its feeder and its recorder did, for all words that say its settings, what a
-- run does; its readers cleared what was sealed; and its books hold what was searched, where all data were read. Where
-- nothing is recorded the files stand; and if no file was open before, none is, unless a call on them failed. In this:
-- whether a file is open, and what files show.
pub record IsDriven {F : Type 0} (task : Task) (s : SettingsFor task) (told : Told)
    (files_open : F → Type 0) (seen : F → FilesSeen) (before after : F) (found : Found) : Type 0 where
  pub fed : ForWords task s (λ words. IsRunFed task words told found.blocks found.feed)
  pub recorded : ForWords task s (λ words.
      IsRecorded task words told found.blocks found.feed found.recorded (seen before) (seen after))
  pub stands : s.recording ≡ false → after ≡ before
  pub closed : found.recorded ≢ Some FileFault → ¬ files_open before → ¬ files_open after
  pub cleared : ClearsAll task s found
  pub held : IfSearch task s.search (λ search. (bytes : ℕ) → found.feed ≡ Whole bytes →
      HoldsFound search s told found)
