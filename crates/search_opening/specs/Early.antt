-- What a stop before the session of a run says of the files, and what was read by then.
-- Source: this project's choice.
use Rattle.std.specs.Prelude.{◌≡◌, true, ⊤}
use Rattle.psr_base.specs.Told.{Told}
use Rattle.search_words.specs.Settings.{RunSeen}
use Rattle.disk_feeder.specs.declared.answers.HeaderCause.TheVariants.{Text, Fields}
use Rattle.run_outcome.specs.declared.stop.Stop.{Stop}
use Rattle.run_outcome.specs.declared.stop.Stop.TheVariants.{Memory, ReadFault, Header, Plan, Recording}
use Rattle.run_outcome.specs.Runs.{Task, SettingsFor, is_search, IfSearch, RefusesSearch, RefusesSearchAt, RefusesToRecord, RefusesRecordingAt}
use Rattle.run_outcome.specs.Ends.{ComesBefore}
use Rattle.run_outcome.specs.Firsts.{ReadsFirsts, RefusesTextAt, RefusesFieldsAt, BreaksFirstAt, RefusesFirstFields}
use Rattle.search_opening.specs.Settings.{OfRunFirsts, JudgesRun}

-- what a stop before the session says of the files, over the first ones that it needs
abbrev pub SaysEarly : (task : Task) → SettingsFor task → Told → Stop → Type 0
SaysEarly task s told (Header file (Text fault)) = RefusesTextAt told s.names s.starts file fault
SaysEarly task s told (Header file (Fields fault)) =
    JudgesRun told s (RefusesFieldsAt told s.names s.starts file fault)
    (λ w. RefusesFirstFields w file fault)
SaysEarly task s told (Plan cause) = (is_search task ≡ true)
    × JudgesRun told s (IfSearch task s.search (λ search. RefusesSearchAt search s told cause))
    (λ w. IfSearch task s.search (λ search. RefusesSearch search w cause))
SaysEarly task s told (Recording cause) =
    JudgesRun told s (RefusesRecordingAt task s told cause) (λ w. RefusesToRecord task s w cause)
SaysEarly task s told Memory = ⊤
SaysEarly task s told ReadFault = ⊤
SaysEarly task s told _ = ⊥

-- A run was given up before its session: the stop is one that comes there, and what it says of the files is so.
pub record StopsEarly (task : Task) (s : SettingsFor task) (told : Told) (stop : Stop) : Type 0 where
  pub kind : ComesBefore stop
  pub says : SaysEarly task s told stop

-- What it has read, over its settings: the first headers of all transfers and nothing else, where there was no memory;
-- and a fault came before that of some transfer was judged.
pub record LeavesEarly (s : RunSeen) (is_calm : Type 0) (before after : Told) (stop : Stop) :
    Type 0 where
  pub unread : stop ≡ Memory → OfRunFirsts before s (λ w. ReadsFirsts s.names w before after)
  pub broke : stop ≡ ReadFault → BreaksFirstAt s.names s.starts is_calm before after

-- what a stop says of the files stands as long as what is told under their names does
abbrev pub EarlyStopsStand : Type 0
EarlyStopsStand = (task : Task) (s : SettingsFor task) (old new : Told) (stop : Stop) →
    new.bytes_under ≡ old.bytes_under → SaysEarly task s new stop → SaysEarly task s old stop
