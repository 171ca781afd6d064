-- What a run has for a search.
use Rattle.std.proofs.Common.{◌≡◌, ◌+◌, ◌≤◌, true, Bool, List, Option, length, refl, ap, arith}
use Rattle.std.specs.Prelude.{if◌then◌else◌}
use Rattle.dada_model.specs.Observation.{Observation}
use Rattle.search_model.specs.Search.{SettingsInRange}
use Rattle.search_model.specs.declared.search.Search.{Search}
use Rattle.search_words.specs.declared.settings.RunSettings.{RunSettings}
use Rattle.search_words.specs.Settings.{run_seen}
use Rattle.session_readers.specs.declared.bank.Bank.{Bank}
use Rattle.run_outcome.specs.declared.purpose.Purpose.{Purpose}
use Rattle.run_outcome.specs.declared.purpose.Purpose.TheVariants as purpose
use Rattle.run_outcome.specs.Runs.{Task, Searching, RecordingAlone, Alone, SearchFor, IfSearch, task_of, search_for, settings_for}
use Rattle.search_opening.specs.Spaces.{AreBanksOf, recorders}

-- what follows of the search, where there is one
pub if_search : {P Q : Search → Type 0} (task : Task) (search : SearchFor task) →
    ((found : Search) → P found → Q found) → IfSearch task search P → IfSearch task search Q
if_search Searching search follows holds = follows search holds
if_search RecordingAlone search follows holds = tt
if_search (Alone lone) search follows holds = follows search holds

-- its rings have a reader: a bank, or the recorder where nothing is searched
pub some_reader : (for : Purpose) (run : RunSettings) (observations : List (Option Observation))
    (banks : List (Option Bank)) → IfSearch (task_of for) (search_for for) SettingsInRange →
    (for ≡ purpose.Record → run.recording ≡ true) → AreBanksOf (task_of for) (settings_for for run) observations banks →
    1 ≤ length banks + recorders (run_seen run)
some_reader (purpose.Search search) run observations banks range records are =
    let shards : length banks ≡ search.shards = are.count in
    let least = range.parts.least_shards in
    omega (arith, shards, least)
some_reader purpose.Record run observations banks range records are =
    let one : recorders (run_seen run) ≡ 1 = ap (λ (b : Bool). if b then 1 else 0) (records refl) in
    omega (arith, one)
