-- What contracts see of a search that writes while the data come.
-- Source: this project's choice.
use Rattle.std.specs.Prelude.{◌≡◌, ℕ, ◌+◌, ◌*◌, ◌<◌, ◌≤◌, ◌++◌, ◌&&◌, All, Bool, true, false, List, [], length, min, not, take, nat_lt, if◌then◌else◌}
use Rattle.dada_model.specs.Observation.{Observation}
use Rattle.psr_base.specs.Written.{SinkSeen, WroteAll, WroteFront}
use Rattle.search_model.specs.declared.candidate.Candidate.{Candidate}
use Rattle.search_model.specs.declared.search.Search.{Search}
use Rattle.search_model.specs.Observed.{candidates_of, filterbank_of, labels_of}
use Rattle.search_model.specs.Parts.{check_line, first_needed}
use Rattle.search_model.specs.Search.{SettingsInRange}
use Rattle.search_engine.specs.Engine.{EngineState, HasFoundPart, HoldsNoFullChunk, IsOpenedEngine, SameShard, StandsForPart, scope_of, searched_to, spectra_fed}
use Rattle.search_engine.specs.Scope.{scope_from, scope_of_part, spectrum_size}
use Rattle.warm_restart.specs.Checkpoint.{CanBeSaid}
use Rattle.warm_restart.specs.Counts.{greatest_count}
use Rattle.warm_restart.specs.declared.checkpoint.Checkpoint.{Checkpoint}
use Rattle.live_search.specs.LiveText.{after_parts, counted, greatest_number, layout_of, next_end, printed, pulse_lines, text_so_far}
use Rattle.live_search.specs.declared.live.TheConstants.{STEP}
use Rattle.live_search.specs.declared.live.LiveSearch.{LiveSearch}

-- so many spectra are a number of steps
pub record AreSteps (spectra : ℕ) : Type 0 where
  pub steps : ℕ
  pub count : spectra ≡ steps * STEP

-- parts can have so many spectra
pub record IsEvery (every : ℕ) : Type 0 where
  pub some : 1 ≤ every
  pub most : every ≤ greatest_count
  pub even : AreSteps every

-- the settings that an engine has: one shard, and chunks that no part divides
abbrev pub settings_of : Search → Search
settings_of s = record s { shards = 1; chunk = STEP }

-- With which spectrum an engine begins: one that is needed by no pulse from `place` on, or the first such. It is a
-- number of steps, and the first spectrum that is needed for some place that is no later.
pub record BeginsFor (s : Search) (place first : ℕ) : Type 0 where
  pub even : AreSteps first
  pub needed : ℕ
  pub early : needed ≤ place
  pub is : first ≡ first_needed s needed

-- what is searched, in parts of how many spectra, and from which checkpoint on
pub record Task : Type 0 where
  pub search : Search
  pub every : ℕ
  pub from : Checkpoint

-- a task that can be done
pub record IsTask (t : Task) : Type 0 where
  pub range : SettingsInRange t.search
  pub unfolded : t.search.fold_max < t.search.fold_min
  pub every : IsEvery t.every
  pub from : CanBeSaid t.from

-- the engine does it in an observation, and looks for the pulses from `place` on
pub record SearchesFrom (o : Observation) (t : Task) (place : ℕ) (e : EngineState) : Type 0 where
  pub search : e.search ≡ settings_of t.search
  pub shard : e.shard ≡ 0
  pub running : e.has_ended ≡ false
  pub first : ℕ
  pub begins : BeginsFor t.search t.from.place first
  pub scope : scope_of e ≡ scope_of_part o.channels first place greatest_count

-- Where it stands once so many spectra came. Its place is that of the checkpoint after the first n parts. The CHECK line
-- of that checkpoint is due where no spectrum came after it.
pub record IsPlaced (t : Task) (n spectra : ℕ) (w : LiveSearch) : Type 0 where
  pub until : w.until ≡ next_end t.every w.from.place
  pub before : spectra < w.until
  pub due : w.due ≡ true → (spectra ≡ w.from.place) × (1 ≤ n)
  pub past : w.due ≡ false → 1 ≤ n → w.from.place < spectra

-- its checkpoint is that after the first n parts, whatever data follow
abbrev pub IsAfter : Observation → Task → List ℕ → ℕ → Checkpoint → Type 0
IsAfter o t bytes n at = (more : List ℕ) → All (λ byte. byte < 256) more →
    at ≡ after_parts (layout_of o t.search t.every) t.from
    (candidates_of o t.search (bytes ++ more)) n

-- a search of this task was fed these data bytes of an observation
pub record WasFed (o : Observation) (t : Task) (bytes : List ℕ) (w : LiveSearch) : Type 0 where
  pub task : IsTask t
  pub every : w.every ≡ t.every
  pub size : w.spectrum ≡ spectrum_size o
  pub searches : SearchesFrom o t w.from.place w.engine
  pub fed : StandsForPart o bytes w.engine
  pub full : HoldsNoFullChunk w.engine
  pub parts : ℕ
  pub placed : IsPlaced t parts (filterbank_of o bytes).spectra w
  pub at : IsAfter o t bytes parts w.from

-- there is a task that it does, and there are bytes that it was fed
pub record IsLive (o : Observation) (w : LiveSearch) : Type 0 where
  pub task : Task
  pub bytes : List ℕ
  pub was : WasFed o task bytes w

-- the text so far of a task over these data bytes, once the first of them came
abbrev pub so_far : Observation → Task → List ℕ → List ℕ → List ℕ
so_far o t all first =
    text_so_far (layout_of o t.search t.every) t.from (filterbank_of o first).spectra
    (candidates_of o t.search all)

-- Data bytes came after others: if the text so far was written before, it was written after them, whatever data follow.
abbrev pub WroteOn : Observation → Task → List ℕ → List ℕ → SinkSeen → SinkSeen → Type 0
WroteOn o t before piece old new =
    (more : List ℕ) (start : SinkSeen) → All (λ byte. byte < 256) more →
    WroteAll (so_far o t (before ++ piece ++ more) before) start old →
    WroteAll (so_far o t (before ++ piece ++ more) (before ++ piece)) start new

-- a call failed: the front was written of the text so far after some of the bytes
abbrev pub BrokeOff : Observation → Task → List ℕ → List ℕ → SinkSeen → SinkSeen → Type 0
BrokeOff o t before bytes old new =
    (more : List ℕ) (start : SinkSeen) → All (λ byte. byte < 256) more →
    WroteAll (so_far o t (before ++ bytes ++ more) before) start old →
    (n : ℕ) × (n ≤ length bytes)
    × WroteFront (so_far o t (before ++ bytes ++ more) (before ++ take n bytes)) start new

-- ---- the steps of a search

-- a CHECK line is due, and a spectrum came after its place
abbrev pub is_overdue : ℕ → LiveSearch → Bool
is_overdue spectra w = w.due && nat_lt w.from.place spectra

abbrev pub due_line : ℕ → LiveSearch → List ℕ
due_line spectra w =
    if is_overdue spectra w then check_line w.from.place w.from.pulses else []

-- the search once the line is written
abbrev pub after_line : ℕ → LiveSearch → LiveSearch
after_line spectra w = record w { due = w.due && not (is_overdue spectra w) }

-- the lines of the last part's pulses, unless they were written, and how many pulses are printed with them
abbrev pub last_pulses : Observation → LiveSearch → ℕ → List Candidate → List ℕ
last_pulses o w spectra part =
    if w.due then [] else pulse_lines (labels_of o) w.engine.book.limit spectra part

abbrev pub last_count : LiveSearch → List Candidate → ℕ
last_count w part =
    if w.due then w.from.pulses else counted w.from.pulses (printed w.engine.book.limit part)

-- the search of a part ended, of which so many pulses were printed, and the next one began
pub record HasBegun (pulses : ℕ) (old new : LiveSearch) : Type 0 where
  pub every : new.every ≡ old.every
  pub size : new.spectrum ≡ old.spectrum
  pub place : new.from.place ≡ old.until
  pub pulses_are : new.from.pulses ≡ counted old.from.pulses pulses
  pub until : new.until ≡ min (old.until + old.every) greatest_number
  pub due : new.due ≡ true
  pub same : SameShard new.engine old.engine
  pub scope : scope_of new.engine ≡ scope_from (searched_to old.engine) (scope_of old.engine)
  pub running : new.engine.has_ended ≡ old.engine.has_ended
  pub fed : new.engine.fed ≡ old.engine.fed
  pub unpacker : new.engine.unpacker ≡ old.engine.unpacker
  pub stands : (o : Observation) (bytes : List ℕ) → StandsForPart o bytes old.engine →
      StandsForPart o bytes new.engine

-- how many bytes it was fed
abbrev pub fed_of : LiveSearch → ℕ
fed_of w = w.engine.fed

-- an engine was opened for the pulses from `place` on, and fed nothing
pub record IsOpenedFrom (o : Observation) (s : Search) (place : ℕ) (e : EngineState) : Type 0 where
  pub opened : IsOpenedEngine e (settings_of s) 0
  pub first : ℕ
  pub begins : BeginsFor s place first
  pub scope : scope_of e ≡ scope_of_part o.channels first place greatest_count
  pub stands : StandsForPart o [] e

-- ---- what the calls of the engine leave

-- of the next bytes the engine took so many, none of which lies past the end of the part
pub record Came (o : Observation) (t : Task) (before bytes : List ℕ) (count : ℕ)
    (old new : LiveSearch) : Type 0 where
  pub was : WasFed o t before old
  pub state : new ≡ record old { engine = new.engine }
  pub same : SameShard new.engine old.engine
  pub scope : scope_of new.engine ≡ scope_of old.engine
  pub running : new.engine.has_ended ≡ false
  pub stands : StandsForPart o (before ++ take count bytes) new.engine
  pub full : HoldsNoFullChunk new.engine
  pub within : (filterbank_of o (before ++ take count bytes)).spectra ≤ old.until
  pub most : count ≤ length bytes
  pub numbers : All (λ byte. byte < 256) bytes

-- the data ended, so many whole spectra, all of which were searched
pub record HasEnded (o : Observation) (t : Task) (bytes : List ℕ) (old new : LiveSearch)
    (spectra : ℕ) : Type 0 where
  pub was : WasFed o t bytes old
  pub state : new ≡ record old { engine = new.engine }
  pub same : SameShard new.engine old.engine
  pub scope : scope_of new.engine ≡ scope_of old.engine
  pub found : HasFoundPart o bytes new.engine
  pub count : spectra ≡ spectra_fed new.engine
