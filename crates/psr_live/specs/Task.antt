-- What a search does that prints its parts while the data come.
-- Source: this project's choice.
use Rattle.std.specs.Prelude.{◌≡◌, ℕ, ◌*◌, ◌<◌, ◌≤◌, ◌++◌, All as Each, List, Option}
use Rattle.dada_model.specs.Observation.{Observation}
use Rattle.psr_base.specs.Written.{SinkSeen, WroteAll, WroteFront}
use Rattle.search_model.specs.declared.search.Search.{Search}
use Rattle.search_model.specs.Observed.{candidates_of, filterbank_of}
use Rattle.search_model.specs.Plan.{PlanRefusal, plan_refusal}
use Rattle.search_engine.specs.Scope.{spectrum_size}
use Rattle.run_outcome.specs.Runs.{IsPlanCause}
use Rattle.drive_stream.specs.Endings.{Ending, All, Early, Failed, Refused, Midway, AtEnd, AtStop}
use Rattle.live_search.specs.LiveText.{layout_of, live_text, stopped_text}
use Rattle.live_search.specs.Live.{Task, WasFed, so_far}
use Rattle.live_search.specs.declared.live.LiveSearch.{LiveSearch}
use Rattle.psr_live.specs.declared.task.LiveRefusal.{LiveRefusal}
use Rattle.psr_live.specs.declared.task.LiveRefusal.TheVariants.{Plan, Beyond}
use Rattle.psr_live.specs.declared.task.LiveTask.{LiveTask}

abbrev pub task_of : LiveTask → Task
task_of t = record { search = t.search; every = t.every; from = t.from }

-- why no search is begun: what is refused first
abbrev pub IsRefusal : Option PlanRefusal → LiveRefusal → Type 0
IsRefusal first (Plan cause) = IsPlanCause first cause
IsRefusal first (Beyond place spectra) = ⊥

abbrev pub RefusesLive : Search → Observation → LiveRefusal → Type 0
RefusesLive s o refusal = IsRefusal (plan_refusal o s) refusal

-- how many bytes a block of the data has: those of 512 spectra
abbrev pub live_block : Observation → ℕ
live_block o = 512 * spectrum_size o

-- how many spectra these data bytes of an observation have
abbrev pub spectra_of : Observation → List ℕ → ℕ
spectra_of o bytes = (filterbank_of o bytes).spectra

-- the text of data that came to their end, and of data that stopped early
abbrev pub text_of : Observation → Task → List ℕ → List ℕ
text_of o t bytes = live_text o t.search t.every t.from bytes

abbrev pub stopped_of : Observation → Task → List ℕ → List ℕ
stopped_of o t bytes = stopped_text (layout_of o t.search t.every) t.from (spectra_of o bytes)
    (candidates_of o t.search bytes)

-- a search was fed these data bytes, and the output has taken the text so far, whatever data follow
pub record Streams (o : Observation) (t : Task) (bytes : List ℕ) (w : LiveSearch)
    (start now : SinkSeen) : Type 0 where
  pub was : WasFed o t bytes w
  pub wrote : (more : List ℕ) → Each (λ byte. byte < 256) more →
      WroteAll (so_far o t (bytes ++ more) bytes) start now

-- What it leaves of these data bytes. Their text, where they reach the place of the checkpoint, and else nothing; where
-- they stopped early the text of data that do. Where a call of the output failed, the front of it; or of the text of
-- these data and whatever follows them.
abbrev pub LeavesLive : Observation → Task → List ℕ → Ending LiveRefusal → SinkSeen → SinkSeen →
    Type 0
LeavesLive o t bytes All start now = (t.from.place ≤ spectra_of o bytes)
    × WroteAll (text_of o t bytes) start now
LeavesLive o t bytes Early start now = WroteAll (stopped_of o t bytes) start now
LeavesLive o t bytes (Failed Midway) start now =
    (more : List ℕ) → Each (λ byte. byte < 256) more →
    WroteFront (text_of o t (bytes ++ more)) start now
LeavesLive o t bytes (Failed AtEnd) start now = (t.from.place ≤ spectra_of o bytes)
    × WroteFront (text_of o t bytes) start now
LeavesLive o t bytes (Failed AtStop) start now = WroteFront (stopped_of o t bytes) start now
LeavesLive o t bytes (Refused (Beyond place spectra)) start now = (place ≡ t.from.place)
    × (spectra ≡ spectra_of o bytes) × (spectra < place) × (now ≡ start)
LeavesLive o t bytes (Refused (Plan cause)) start now = ⊥
