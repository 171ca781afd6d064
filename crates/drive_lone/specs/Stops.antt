-- Why a program that searches alone stops before its session, and what that says of the files.
-- Source: this project's choice.
use Rattle.std.specs.Prelude.{◌≡◌, ℕ, ◌⊎◌, ⊤, List, [], ◌∷◌, Some, Result, Ok, Err}
use Rattle.dada_model.specs.Bounds.{ObservationInRange}
use Rattle.dada_model.specs.Observation.{Observation}
use Rattle.psr_base.specs.Told.{Told}
use Rattle.search_model.specs.declared.search.Search.{Search}
use Rattle.search_words.specs.Settings.{RunSeen, SettingsSeen}
use Rattle.stream_model.specs.Walk.{FileStream}
use Rattle.stream_model.specs.WalkLaws.{AreWalked}
use Rattle.disk_feeder.specs.declared.answers.FeedEnd.TheVariants as feed
use Rattle.search_opening.specs.Plans.{IsOfPlan, StopsSearch}
use Rattle.run_outcome.specs.declared.stop.Stop.TheVariants.{Memory, ReadFault}
use Rattle.run_outcome.specs.Firsts.{ReadsFirsts}
use Rattle.run_outcome.specs.Lone.{LoneSearch}
use Rattle.run_outcome.specs.Outcomes.{ReadsNoData}
use Rattle.run_outcome.specs.Runs.{Alone, ForFirsts, JudgesFirsts, OfEachFirst, first_observation}
use Rattle.run_outcome.specs.Ends.{ComesBefore, StopsBefore}
use Rattle.search_opening.specs.Early.{SaysEarly, LeavesEarly}
use Rattle.search_opening.specs.Settings.{OfRunFirsts, JudgesRun}
use Rattle.drive_lone.specs.declared.found.LoneFound.{LoneFound}
use Rattle.drive_lone.specs.declared.stop.LoneStop.{LoneStop}
use Rattle.drive_lone.specs.declared.stop.LoneStop.TheVariants.{Run, Unscoped}
use Rattle.drive_lone.specs.Scopes.{SaysObservation}

-- the inputs failed
abbrev pub FailsReading : {F : Type 0} → Result LoneFound (LoneStop F) → Type 0
FailsReading (Ok found) = found.feed ≡ feed.ReadFault
FailsReading (Err (Run stop)) = stop ≡ ReadFault
FailsReading (Err (Unscoped refusal)) = ⊥

-- the header of the transfer is accepted, and the program refuses its observation
abbrev pub RefusesFirst : {F : Type 0} → (Observation → F → Type 0) → FileStream → F → Type 0
RefusesFirst refuses w refusal = AreWalked w × refuses (first_observation w 0) refusal

-- the header of the first file is accepted, and this is its observation
pub record BeginsWith (o : Observation) (w : FileStream) : Type 0 where
  pub walked : AreWalked w
  pub is : first_observation w 0 ≡ o

-- ---- over the observation

-- The bank of a run could not be opened: there was no memory, the program refuses the observation, or it does not and
-- the plan of the search is refused.
abbrev pub StopsBank : {F : Type 0} → (Observation → Type 0) → (Observation → F → Type 0) →
    Search → Observation → LoneStop F → Type 0
StopsBank accepts refuses s o (Run stop) =
    (stop ≡ Memory) ⊎ (IsOfPlan stop × accepts o × StopsSearch s (Some o ∷ []) stop)
StopsBank accepts refuses s o (Unscoped refusal) = refuses o refusal

-- ---- over the files of settings

-- one that comes before a session
abbrev pub ComesAlone : {F : Type 0} → LoneStop F → Type 0
ComesAlone (Run stop) = ComesBefore stop
ComesAlone (Unscoped refusal) = ⊤

-- The first header is accepted, and P holds of its observation. Whatever is told, P holds of some observation; where
-- the first file is told, that is the one of its header.
pub record OfHeader (s : SettingsSeen) (told : Told) (P : Observation → Type 0) : Type 0 where
  pub observation : Observation
  pub range : ObservationInRange observation
  pub holds : P observation
  pub first : JudgesRun told s (OfEachFirst told s (SaysObservation observation))
      (BeginsWith observation)

-- what it says of the files, over the first ones that it needs: that a search is refused is said where the program
-- accepts the observation
abbrev pub SaysAlone : {F : Type 0} → (Observation → Type 0) → (Observation → F → Type 0) →
    LoneSearch → SettingsSeen → Told → LoneStop F → Type 0
SaysAlone accepts refuses lone s told (Run stop) = SaysEarly (Alone lone) s told stop
    × (IsOfPlan stop → OfHeader s told accepts)
SaysAlone accepts refuses lone s told (Unscoped refusal) =
    OfHeader s told (λ o. refuses o refusal)

pub record StopsEarly {F : Type 0} (accepts : Observation → Type 0)
    (refuses : Observation → F → Type 0) (s : SettingsSeen) (told : Told) (stop : LoneStop F) :
    Type 0 where
  pub kind : ComesAlone stop
  pub says : (lone : LoneSearch) → SaysAlone accepts refuses lone s told stop

-- what it has read: where the program refuses the observation, the first header and nothing else
abbrev pub LeavesAlone : {F : Type 0} → RunSeen → Type 0 → Told → Told → LoneStop F → Type 0
LeavesAlone s is_calm before after (Run stop) = LeavesEarly s is_calm before after stop
LeavesAlone s is_calm before after (Unscoped refusal) =
    OfRunFirsts before s (λ w. ReadsFirsts s.names w before after)

-- ---- over words

-- The first header is accepted, and P holds of its observation. Whatever is told, P holds of some observation; where
-- the first file is told, that is the one of its header.
pub record ForHeader (lone : LoneSearch) (words : List (List ℕ)) (told : Told)
    (P : Observation → Type 0) : Type 0 where
  pub observation : Observation
  pub range : ObservationInRange observation
  pub holds : P observation
  pub first : JudgesFirsts (Alone lone) words told
      (λ s. OfEachFirst told s (SaysObservation observation)) (λ s w. BeginsWith observation w)

-- it stops so, by its cause, whatever words say the settings
abbrev pub StopsAlone : {F : Type 0} → (Observation → Type 0) → (Observation → F → Type 0) →
    LoneSearch → List (List ℕ) → Told → LoneStop F → Type 0
StopsAlone accepts refuses lone words told (Run stop) =
    StopsBefore (Alone lone) words told stop
    × (IsOfPlan stop → ForHeader lone words told accepts)
StopsAlone accepts refuses lone words told (Unscoped refusal) =
    ForHeader lone words told (λ o. refuses o refusal)

-- the first header was read, and nothing past it
abbrev pub ReadsHeader : LoneSearch → List (List ℕ) → Told → Told → Type 0
ReadsHeader lone words before after =
    ForFirsts (Alone lone) words before (λ s w. ReadsFirsts s.names w before after)

-- what was read by then: no data, where there was no memory, and where the program refuses the observation
abbrev pub ReadsBefore : {F : Type 0} → LoneSearch → List (List ℕ) → Told → Told → LoneStop F →
    Type 0
ReadsBefore lone words before after (Run stop) =
    stop ≡ Memory → ReadsNoData (Alone lone) words before after
ReadsBefore lone words before after (Unscoped refusal) = ReadsHeader lone words before after
