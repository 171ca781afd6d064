-- What a lone run comes to, for all words that say its settings.
use Rattle.std.proofs.Common.{◌≡◌, ℕ, List, length, sym, subst}
use Rattle.psr_base.specs.Told.{Told}
use Rattle.dada_model.specs.Observation.{Observation}
use Rattle.search_model.specs.declared.search.Search.{Search}
use Rattle.search_engine.specs.Scope.{Scope}
use Rattle.search_words.specs.Settings.{SettingsSeen, with_search}
use Rattle.stream_model.specs.Walk.{FileStream}
use Rattle.disk_feeder.specs.Plan.{AreToldAt, IsFirstFile}
use Rattle.run_outcome.specs.Lone.{LoneSearch}
use Rattle.run_outcome.specs.declared.stop.Stop.{Stop}
use Rattle.run_outcome.specs.declared.stop.Stop.TheVariants.{Memory}
use Rattle.run_outcome.specs.Ends.{WordsSayOnce}
use Rattle.run_outcome.specs.Outcomes.{ReadsNoData}
use Rattle.run_outcome.specs.Firsts.{ReadsFirsts}
use Rattle.run_outcome.specs.Runs.{Task, SettingsFor, Alone, OfEachFirst, Says, ForFirsts, stream_for}
use Rattle.search_opening.specs.Early.{LeavesEarly}
use Rattle.search_opening.specs.Ended.{EarlyStopsAreSaid}
use Rattle.search_opening.specs.Settings.{OfRunFirsts, ForWords}
use Rattle.drive_lone.specs.declared.found.LoneFound.{LoneFound}
use Rattle.drive_lone.specs.declared.stop.LoneStop.{LoneStop}
use Rattle.drive_lone.specs.declared.stop.LoneStop.TheVariants.{Run, Unscoped}
use Rattle.drive_lone.specs.Scopes.{SaysObservation}
use Rattle.drive_lone.specs.Stops.{BeginsWith, ForHeader, LeavesAlone, OfHeader, ReadsBefore, StopsEarly, StopsAlone}
use Rattle.drive_lone.specs.Found.{GoesAlone, IsFoundAlone}

-- words say one settings: so what holds of the first files of a run holds for them
for_firsts : WordsSayOnce → (task : Task) (words : List (List ℕ)) (s : SettingsFor task) (told : Told)
    (P : SettingsFor task → FileStream → Type 0) → Says task words s → OfRunFirsts told s (P s) →
    ForFirsts task words told P
for_firsts once task words s told P says holds t files says' are =
    let same = once task words s t says says' in
    let Told : SettingsFor task → Type 0 = λ u. AreToldAt (IsFirstFile u.starts (length u.names)) told u.names files in
    subst (λ u. P u (stream_for u files)) same (holds files (subst Told (sym same) are))

pub for_header : WordsSayOnce → (lone : LoneSearch) (words : List (List ℕ)) (s : SettingsSeen) (told : Told)
    (P : Observation → Type 0) → Says (Alone lone) words s → OfHeader s told P → ForHeader lone words told P
for_header once lone words s told P says of = record {
  observation = of.observation;
  range = of.range;
  holds = of.holds;
  first = (
    λ t says'. subst (λ u. OfEachFirst told u (SaysObservation of.observation))
        (once (Alone lone) words s t says says') of.first.0,
    for_firsts once (Alone lone) words s told (λ t w. BeginsWith of.observation w) says of.first.1,
  );
}

pub stops_alone : {F : Type 0} → WordsSayOnce → EarlyStopsAreSaid → (accepts : Observation → Type 0)
    (refuses : Observation → F → Type 0) (s : SettingsSeen) (told : Told) (stop : LoneStop F) →
    StopsEarly accepts refuses s told stop → (lone : LoneSearch) →
    ForWords (Alone lone) s (λ words. StopsAlone accepts refuses lone words told stop)
stops_alone once said accepts refuses s told (Run stop) early lone words says = (
  said (Alone lone) s told stop (record { kind = early.kind; says = (early.says lone).0 }) words says,
  λ plan. for_header once lone words s told accepts says ((early.says lone).1 plan),
)
stops_alone once said accepts refuses s told (Unscoped refusal) early lone words says =
    for_header once lone words s told (λ o. refuses o refusal) says (early.says lone)

-- what was read by a stop before the session
pub reads_before : {F : Type 0} → WordsSayOnce → (s : SettingsSeen) (is_calm : Type 0) (before after : Told)
    (stop : LoneStop F) → LeavesAlone (with_search tt s) is_calm before after stop →
    ((x : Stop) → LeavesEarly (with_search tt s) is_calm before after x → (lone : LoneSearch) →
    x ≡ Memory → ForWords (Alone lone) s (λ words. ReadsNoData (Alone lone) words before after)) →
    (lone : LoneSearch) → ForWords (Alone lone) s (λ words. ReadsBefore lone words before after stop)
reads_before once s is_calm before after (Run stop) leaves unread lone words says =
    λ want. unread stop leaves lone want words says
reads_before once s is_calm before after (Unscoped refusal) leaves unread lone words says =
    for_firsts once (Alone lone) words s before (λ t w. ReadsFirsts t.names w before after) says leaves

pub is_found : (scopes : Observation → Search → Scope → Type 0) (s : SettingsSeen) (told : Told) (o : Observation)
    (scope : Scope) (found : LoneFound) → scopes o s.search scope → GoesAlone s told o scope found →
    IsFoundAlone scopes s told found
is_found scopes s told o scope found scoped went = record {
  scope = scope;
  scoped = subst (λ x. scopes x s.search scope) (sym went.observed) scoped;
  range = went.range;
  says = went.says;
  first = went.first;
  cleared = went.cleared;
  held = went.held;
}
