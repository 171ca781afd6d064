-- Laws of runs that stream their data through; functions of this crate carry them.
-- Source: this project's choice.
use Rattle.std.specs.Prelude.{◌≡◌, ℕ, ◌+◌, ◌<◌, ◌⊎◌, List, length, Option, Some, None}
use Rattle.psr_base.specs.Told.{Told}
use Rattle.psr_base.specs.Written.{SinkSeen}
use Rattle.dada_model.specs.Fields.{HeaderText}
use Rattle.dada_model.specs.Observation.{Observation}
use Rattle.search_words.specs.Settings.{RunSeen}
use Rattle.stream_model.specs.Walk.{FileStream, WalkStop, Whole, transfer_data, stop_at, walk_stop}
use Rattle.stream_model.specs.WalkLaws.{AreWalked}
use Rattle.disk_feeder.specs.declared.answers.HeaderCause.{HeaderCause}
use Rattle.run_outcome.specs.declared.stop.Stop.TheVariants.{Header, Memory, ReadFault, SinkFault}
use Rattle.run_outcome.specs.Runs.{RefusesFirstHeader, stop_of_walk}
use Rattle.search_opening.specs.Settings.{OfRun, OfRunFirsts, OfRunTo}
use Rattle.drive_stream.specs.declared.stop.StreamStop.{StreamStop}
use Rattle.drive_stream.specs.declared.stop.StreamStop.TheVariants.{Run}
use Rattle.drive_stream.specs.declared.stop.StreamStop.TheVariants as stops
use Rattle.drive_stream.specs.Endings.{Ending, All, Refused}
use Rattle.drive_stream.specs.Opening.{IsOfOne}
use Rattle.drive_stream.specs.Outcome.{EndsStream, OfHead}
use Rattle.drive_stream.specs.Stops.{as_run}

-- A run that came to no stop took all data: where all files are told, no file stops their walk, the first header is
-- accepted, the program takes it, and leaves what it leaves of all data.
abbrev pub StreamsEnd : {F : Type 0} → (Observation → ℕ) →
    (Observation → HeaderText → Type 0) → (Observation → HeaderText → F → Type 0) →
    (Observation → HeaderText → List ℕ → Ending F → SinkSeen → SinkSeen → Type 0) → Type 0
StreamsEnd block takes refuses leaves = (s : RunSeen) (told : Told) (before after : SinkSeen) →
    IsOfOne s → EndsStream block takes refuses leaves s told before after None → OfRun told s (λ w.
    (walk_stop w ≡ Whole) × AreWalked w × OfHead takes w
    × OfHead (λ o header. leaves o header (transfer_data w 0) All before after) w)

-- a stop that neither words nor files nor the program are the cause of: there was no memory, or the inputs failed, or
-- the output did
abbrev pub IsFromOutside : {F : Type 0} → Option (StreamStop F) → Type 0
IsFromOutside stop =
    (stop ≡ Some (Run Memory)) ⊎ ((stop ≡ Some (Run ReadFault)) ⊎ (stop ≡ Some (Run SinkFault)))

-- the program refuses all data at their end
abbrev pub RefusesAtEnd : {F : Type 0} →
    (Observation → HeaderText → List ℕ → Ending F → SinkSeen → SinkSeen → Type 0) → FileStream →
    SinkSeen → SinkSeen → Option (StreamStop F) → Type 0
RefusesAtEnd {F} leaves w before after stop = (refusal : F) × (stop ≡ Some (stops.Refused refusal))
    × OfHead (λ o header. leaves o header (transfer_data w 0) (Refused refusal) before after) w

-- Q holds of each run of which this is known: how it ends
abbrev pub ForEnds : {F : Type 0} → (Observation → ℕ) →
    (Observation → HeaderText → Type 0) → (Observation → HeaderText → F → Type 0) →
    (Observation → HeaderText → List ℕ → Ending F → SinkSeen → SinkSeen → Type 0) →
    (RunSeen → Told → SinkSeen → SinkSeen → Option (StreamStop F) → Type 0) → Type 0
ForEnds {F} block takes refuses leaves Q = (s : RunSeen) (told : Told) (before after : SinkSeen)
    (stop : Option (StreamStop F)) → IsOfOne s →
    EndsStream block takes refuses leaves s told before after stop → Q s told before after stop

-- a header and data that are accepted and taken: the run goes through, unless the program refuses them at their end
abbrev pub AcceptedGoesThrough : {F : Type 0} → (Observation → ℕ) →
    (Observation → HeaderText → Type 0) → (Observation → HeaderText → F → Type 0) →
    (Observation → HeaderText → List ℕ → Ending F → SinkSeen → SinkSeen → Type 0) → Type 0
AcceptedGoesThrough block takes refuses leaves =
    ForEnds block takes refuses leaves (λ s told before after stop.
    OfRun told s (λ w. AreWalked w → OfHead takes w → walk_stop w ≡ Whole →
    (stop ≡ None) ⊎ (RefusesAtEnd leaves w before after stop ⊎ IsFromOutside stop)))

-- a first header that is refused: the run ends at a refused header
abbrev pub HeadersAreAnswered : {F : Type 0} → (Observation → ℕ) →
    (Observation → HeaderText → Type 0) → (Observation → HeaderText → F → Type 0) →
    (Observation → HeaderText → List ℕ → Ending F → SinkSeen → SinkSeen → Type 0) → Type 0
HeadersAreAnswered block takes refuses leaves =
    ForEnds block takes refuses leaves (λ s told before after stop.
    OfRunFirsts told s (λ w. (file : ℕ) (cause : HeaderCause) → RefusesFirstHeader w file cause →
    ((k : ℕ) × (other : HeaderCause) × (stop ≡ Some (Run (Header k other))))
    ⊎ IsFromOutside stop))

-- a first header that is accepted, and refused by the program: the run ends at such a refusal
abbrev pub RefusalsAreAnswered : {F : Type 0} → (Observation → ℕ) →
    (Observation → HeaderText → Type 0) → (Observation → HeaderText → F → Type 0) →
    (Observation → HeaderText → List ℕ → Ending F → SinkSeen → SinkSeen → Type 0) → Type 0
RefusalsAreAnswered {F} block takes refuses leaves =
    ForEnds block takes refuses leaves (λ s told before after stop.
    OfRunFirsts told s (λ w. AreWalked w → (refusal : F) →
    OfHead (λ o header. refuses o header refusal) w →
    ((other : F) × (stop ≡ Some (stops.Refused other))
    × OfHead (λ o header. refuses o header other) w) ⊎ IsFromOutside stop))

-- a file stops the walk, and none before it does, whatever is told of later ones: the run ends at that stop
abbrev pub StopsAreAnswered : {F : Type 0} → (Observation → ℕ) →
    (Observation → HeaderText → Type 0) → (Observation → HeaderText → F → Type 0) →
    (Observation → HeaderText → List ℕ → Ending F → SinkSeen → SinkSeen → Type 0) → Type 0
StopsAreAnswered block takes refuses leaves =
    ForEnds block takes refuses leaves (λ s told before after stop.
    (file : ℕ) → file < length s.names → OfRunTo (file + 1) told s (λ w. AreWalked w →
    OfHead takes w → ((k : ℕ) → k < file → stop_at w k ≡ None) → (at : WalkStop) →
    stop_at w file ≡ Some at →
    (stop ≡ as_run (stop_of_walk s.max_bytes at)) ⊎ IsFromOutside stop))
