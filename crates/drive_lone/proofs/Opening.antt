-- How a lone run is opened, or stops before its session.
use Rattle.std.proofs.Common.{◌≡◌, ◌≢◌, ℕ, ◌*◌, ◌<◌, ◌≤◌, false, None, List, [], ◌∷◌, Option, Some, Result, Ok, Err, length, map, inl, inr, refl, sym, ap, ◌∙◌, subst, arith}
use Rattle.std.specs.Prelude.{IfErr, slice_get}
use Rattle.std.proofs.lemmas.Bool.{true≢false}
use Rattle.std.proofs.lemmas.List.{length-map}
use Rattle.std.proofs.lemmas.Option.{slice_get_within}
use Rattle.psr_base.specs.Told.{Told}
use Rattle.dada_model.specs.Bounds.{ObservationInRange}
use Rattle.dada_model.specs.Fields.{HeaderText}
use Rattle.dada_model.specs.Observation.{Observation}
use Rattle.search_model.specs.declared.search.Search.{Search}
use Rattle.search_words.specs.Settings.{SettingsSeen, AllInRange, with_search}
use Rattle.stream_model.specs.Walk.{FileStream, observation_at}
use Rattle.stream_model.specs.WalkLaws.{IsAccepted}
use Rattle.search_model.specs.Plan.{plan_refusal}
use Rattle.search_engine.specs.Engine.{most_fed}
use Rattle.search_engine.specs.Scope.{Scope}
use Rattle.disk_feeder.specs.declared.feeder.Feeder.{Feeder}
use Rattle.disk_feeder.specs.Feeder.{HasPlan, headers_of}
use Rattle.session_readers.specs.declared.bank.Bank.{Bank}
use Rattle.search_session.specs.declared.lone_space.LoneSpace.{LoneSpace}
use Rattle.search_session.specs.Lone.{IsLoneSpace}
use Rattle.search_opening.specs.Feeders.{HasAcceptedFirsts}
use Rattle.search_opening.specs.First.{AreFirsts, AreFirstsAt, AreObserved, ComesFirst}
use Rattle.search_opening.specs.Plans.{IsOfPlan, RefusesObservation, StopsSearch}
use Rattle.run_outcome.specs.declared.causes.PlanCause.{PlanCause}
use Rattle.run_outcome.specs.declared.stop.Stop.{Stop}
use Rattle.run_outcome.specs.declared.stop.Stop.TheVariants.{Plan, Memory, ReadFault}
use Rattle.run_outcome.specs.Firsts.{first_name, ReadsFirsts}
use Rattle.run_outcome.specs.Lone.{LoneSearch, IsOfOne}
use Rattle.run_outcome.specs.Runs.{Alone, OfEachFirst, MayBegin, CanSearchFirst, IsPlanCause, RefusesSearch, RefusesSearchAt, first_observation, stream_for}
use Rattle.run_outcome.specs.Ends.{ComesBefore}
use Rattle.search_opening.specs.Begun.{HasFirsts}
use Rattle.search_opening.specs.Early as early
use Rattle.search_opening.specs.Early.{SaysEarly, EarlyStopsStand}
use Rattle.search_opening.specs.Ended.{FirstsStayTold}
use Rattle.search_opening.specs.Settings.{OfRunFirsts}
use Rattle.drive_lone.specs.declared.stop.LoneStop.{LoneStop}
use Rattle.drive_lone.specs.declared.stop.LoneStop.TheVariants.{Run, Unscoped}
use Rattle.drive_lone.specs.Scopes.{IsBankOf, SaysObservation}
use Rattle.drive_lone.specs.Stops.{LeavesAlone, OfHeader, SaysAlone, StopsEarly, StopsBank}
use Rattle.drive_lone.specs.Openings.{IsFeederReady, IsOpenedAlone, shape_for}
use Rattle.drive_lone.proofs.Told.{file_before_reading}

-- ---- the one observation

one_of : (said : List Observation) → length said ≡ 1 → (o : Observation) × (said ≡ o ∷ [])
one_of [] one = absurd (omega (arith, one))
one_of (o ∷ []) one = (o, refl)
one_of (o ∷ p ∷ more) one = absurd (omega (arith, one))

pub only_observed : (headers : List HeaderText) (observations : List (Option Observation)) →
    AreObserved headers observations → length headers ≡ 1 → (o : Observation) × (observations ≡ Some o ∷ [])
only_observed headers observations are one =
    let count : length are.said ≡ 1 =
    sym (length-map are.said Ok) ∙ sym (ap length are.accepted) ∙ length-map headers _ ∙ one in
    let only = one_of are.said count in
    (only.0, are.here ∙ ap (map (λ (x : Observation). Some x)) only.1)

pub first_is : (w : FileStream) (o : Observation) → AreFirsts w (Some o ∷ []) → o ≡ first_observation w 0
first_is w o firsts =
    let one : 1 ≡ length w.starts = firsts.count in
    let at = firsts.each 0 (omega (arith, one)) in
    inside o (first_observation w 0) at
  where
    inside : (a b : Observation) → slice_get (Some a ∷ []) 0 ≡ Some (Some b) → a ≡ b
    inside a b is = cc

-- ---- stops

plan_comes : (stop : Stop) → IsOfPlan stop → ComesBefore stop
plan_comes stop is = subst ComesBefore (sym is.1) tt

-- the one observation is that of each place
one_place : (o p : Observation) (k : ℕ) → k ≡ 0 → slice_get (Some o ∷ []) k ≡ Some (Some p) → o ≡ p
one_place o p k is there =
    inside o p (subst (λ i. slice_get (Some o ∷ []) i ≡ Some (Some p)) is there)
  where
    inside : (a b : Observation) → slice_get (Some a ∷ []) 0 ≡ Some (Some b) → a ≡ b
    inside a b at = cc

-- and of the first file of the transfer, where it is told
module _ (s : SettingsSeen) (told : Told) (headers : List HeaderText) (o : Observation) (one : length s.starts ≡ 1)
    (each : AreFirstsAt told s.names s.starts headers (Some o ∷ [])) where
  each_accepted : OfEachFirst told s IsAccepted
  each_accepted k below file is =
      let first = each k below file is in
      record {
        header = first.header;
        observation = first.observation;
        is_header = first.is_header;
        is_observation = first.is_observation;
      }

  each_says : OfEachFirst told s (SaysObservation o)
  each_says k below file is =
      let first = each k below file is in
      record {
        accepted = each_accepted k below file is;
        is = sym (one_place o first.observation k (omega (arith, below, one)) first.said ∙ first.is);
      }

  -- what holds of it holds of the file
  each_of_one : (P : Observation → Type 0) → P o → OfEachFirst told s (λ file. P (observation_at file))
  each_of_one P holds k below file is =
      let first = each k below file is in
      subst P (one_place o first.observation k (omega (arith, below, one)) first.said ∙ first.is) holds

  search_at : (cause : PlanCause) → RefusesObservation s.search (Some o ∷ []) cause → RefusesSearchAt s.search s told cause
  search_at cause r =
      let within = slice_get_within (Some o ∷ []) r.transfer (Some r.observation) r.there in
      let first : r.transfer ≡ 0 = omega (arith, within) in
      let there : r.transfer < length s.starts = omega (arith, first, one) in
      record {
        accepted = each_accepted;
        transfer = r.transfer;
        there = there;
        refused = each_of_one (λ p. IsPlanCause (plan_refusal p s.search) cause)
            (subst (λ p. IsPlanCause (plan_refusal p s.search) cause)
            (sym (one_place o r.observation r.transfer first r.there)) r.refused) r.transfer there;
        earlier = λ k below. absurd (omega (arith, below, first));
      }

  begins_at : s.recording ≡ false → plan_refusal o s.search ≡ None → (lone : LoneSearch) →
      MayBegin (Alone lone) s told
  begins_at unrecorded fits lone = record {
    accepted = each_accepted;
    searched = each_of_one (λ p. plan_refusal p s.search ≡ None) fits;
    recorded = λ on. absurd (true≢false (sym on ∙ unrecorded));
  }

-- in a walk
search_in : (s : Search) (w : FileStream) (o : Observation) (cause : PlanCause) → AreFirsts w (Some o ∷ []) →
    RefusesObservation s (Some o ∷ []) cause → RefusesSearch s w cause
search_in s w o cause firsts r =
    let within = slice_get_within (Some o ∷ []) r.transfer (Some r.observation) r.there in
    let first : r.transfer ≡ 0 = omega (arith, within) in
    let count : 1 ≡ length w.starts = firsts.count in
    record {
      accepted = firsts.walked;
      transfer = 0;
      there = omega (arith, count);
      refused = subst (λ p. IsPlanCause (plan_refusal p s) cause)
          (sym (one_place o r.observation r.transfer first r.there) ∙ first_is w o firsts) r.refused;
      earlier = λ k below. absurd (omega (arith, below));
    }

-- the search of the one observation is refused
plan_says : (lone : LoneSearch) (s : SettingsSeen) (told : Told) (headers : List HeaderText) (o : Observation)
    (stop : Stop) → length s.starts ≡ 1 → AreFirstsAt told s.names s.starts headers (Some o ∷ []) →
    OfRunFirsts told s (λ w. AreFirsts w (Some o ∷ [])) → StopsSearch s.search (Some o ∷ []) stop →
    SaysEarly (Alone lone) s told stop
plan_says lone s told headers o stop one each firsts stops =
    subst (λ x. SaysEarly (Alone lone) s told x) (sym stops.1) (
      refl,
      (
        search_at s told headers o one each stops.0 stops.2,
        λ files are. search_in s.search (stream_for s files) o stops.0 (firsts files are) stops.2,
      ),
    )

no_plan : IsOfPlan Memory → ⊥
no_plan is = let not : Memory ≡ Plan is.0 = is.1 in absurd cc

pub memory_stops : {F : Type 0} (accepts : Observation → Type 0) (refuses : Observation → F → Type 0)
    (s : SettingsSeen) (told : Told) → StopsEarly accepts refuses s told (Run Memory)
memory_stops accepts refuses s told = record {
  kind = tt;
  says = λ lone. (tt, λ plan. absurd (no_plan plan));
}

-- the one observation is that of the first file
only_firsts : {I : Type 0} (told : I → Told) (is_open : I → Type 0) (s : SettingsSeen) (f : Feeder I)
    (observations : List (Option Observation)) (o : Observation) → HasFirsts told is_open (with_search tt s) f observations →
    observations ≡ Some o ∷ [] → OfRunFirsts (told f.inputs.now) s (λ w. AreFirsts w (Some o ∷ []))
only_firsts told is_open s f observations o begun one =
    subst (λ os. OfRunFirsts (told f.inputs.now) s (λ w. AreFirsts w os)) one begun.firsts

-- and of the file by itself
each_first : {I : Type 0} (told : I → Told) (is_open : I → Type 0) (s : SettingsSeen) (f : Feeder I)
    (observations : List (Option Observation)) (o : Observation) → HasFirsts told is_open (with_search tt s) f observations →
    observations ≡ Some o ∷ [] → AreFirstsAt (told f.inputs.now) s.names s.starts (headers_of f) (Some o ∷ [])
each_first told is_open s f observations o begun one =
    subst (λ os. AreFirstsAt (told f.inputs.now) s.names s.starts (headers_of f) os) one begun.each

-- what holds of it holds of the observation of the first header
header_of_first : {I : Type 0} (told : I → Told) (is_open : I → Type 0) (s : SettingsSeen) (f : Feeder I)
    (observations : List (Option Observation)) (o : Observation) (P : Observation → Type 0) → length s.starts ≡ 1 →
    HasFirsts told is_open (with_search tt s) f observations → observations ≡ Some o ∷ [] → ObservationInRange o → P o →
    OfHeader s (told f.inputs.now) P
header_of_first told is_open s f observations o P single begun one range holds =
    let firsts = only_firsts told is_open s f observations o begun one in
    record {
      observation = o;
      range = range;
      holds = holds;
      first = (
        each_says s (told f.inputs.now) (headers_of f) o single
            (each_first told is_open s f observations o begun one),
        λ files are. record {
          walked = (firsts files are).walked;
          is = sym (first_is (stream_for s files) o (firsts files are));
        },
      );
    }

pub bank_stops : {I F : Type 0} (told : I → Told) (is_open : I → Type 0) (accepts : Observation → Type 0)
    (refuses : Observation → F → Type 0) (s : SettingsSeen) (f : Feeder I) (observations : List (Option Observation))
    (o : Observation) (stop : LoneStop F) → length s.starts ≡ 1 →
    HasFirsts told is_open (with_search tt s) f observations → observations ≡ Some o ∷ [] → ObservationInRange o →
    StopsBank accepts refuses s.search o stop → StopsEarly accepts refuses s (told f.inputs.now) stop
bank_stops told is_open accepts refuses s f observations o (Run stop) single begun one range (inl want) =
    subst (λ (x : Stop). StopsEarly accepts refuses s (told f.inputs.now) (Run x)) (sym want)
    (memory_stops accepts refuses s (told f.inputs.now))
bank_stops told is_open accepts refuses s f observations o (Run stop) single begun one range
    (inr (plan, accepted, stops)) =
    record {
      kind = plan_comes stop plan;
      says = λ lone. (
        plan_says lone s (told f.inputs.now) (headers_of f) o stop single
            (each_first told is_open s f observations o begun one)
            (only_firsts told is_open s f observations o begun one) stops,
        λ again. header_of_first told is_open s f observations o accepts single begun one range accepted,
      );
    }
bank_stops told is_open accepts refuses s f observations o (Unscoped refusal) single begun one range refused =
    record {
      kind = tt;
      says = λ lone. header_of_first told is_open s f observations o (λ p. refuses p refusal) single begun one range
          refused;
    }

pub bank_readable : {F : Type 0} (accepts : Observation → Type 0) (refuses : Observation → F → Type 0)
    (s : Search) (o : Observation) (stop : LoneStop F) → StopsBank accepts refuses s o stop → stop ≢ Run ReadFault
bank_readable accepts refuses s o (Run stop) (inl want) is = cc
bank_readable accepts refuses s o (Run stop) (inr (plan, accepted, stops)) is = let cause = plan.1 in cc
bank_readable accepts refuses s o (Unscoped refusal) refused is = cc

-- a first header is refused, or could not be read: so it is whatever a run is for, and of no plan then
pub begin_stops : {F : Type 0} (accepts : Observation → Type 0) (refuses : Observation → F → Type 0)
    (s : SettingsSeen) (told : Told) (stop : Stop) → ComesFirst stop →
    ComesBefore stop → ((lone : LoneSearch) → early.StopsEarly (Alone lone) s told stop) →
    StopsEarly accepts refuses s told (Run stop)
begin_stops accepts refuses s told stop first kind stops = record {
  kind = kind;
  says = λ lone. ((stops lone).says, λ is. absurd (subst ComesFirst is.1 first));
}

-- what a stop says of the files stands as long as what is told under the names does
header_before_reading : FirstsStayTold → (s : SettingsSeen) (old new : Told) (P : Observation → Type 0) →
    new.bytes_under ≡ old.bytes_under → OfHeader s new P → OfHeader s old P
header_before_reading stay s old new P same of = record {
  observation = of.observation;
  range = of.range;
  holds = of.holds;
  first = (
    λ k below. file_before_reading old new (first_name s.names s.starts k) (SaysObservation of.observation) same
        (of.first.0 k below),
    λ files are. of.first.1 files (stay s.names s.starts old new files same are),
  );
}

alone_before_reading : {F : Type 0} → EarlyStopsStand → FirstsStayTold → (accepts : Observation → Type 0)
    (refuses : Observation → F → Type 0) (lone : LoneSearch) (s : SettingsSeen) (old new : Told) (stop : LoneStop F) →
    new.bytes_under ≡ old.bytes_under → SaysAlone accepts refuses lone s new stop →
    SaysAlone accepts refuses lone s old stop
alone_before_reading stand stay accepts refuses lone s old new (Run stop) same says = (
  stand (Alone lone) s old new stop same says.0,
  λ plan. header_before_reading stay s old new accepts same (says.1 plan),
)
alone_before_reading stand stay accepts refuses lone s old new (Unscoped refusal) same says =
    header_before_reading stay s old new (λ p. refuses p refusal) same says

pub stops_before_reading : {F : Type 0} → EarlyStopsStand → FirstsStayTold → (accepts : Observation → Type 0)
    (refuses : Observation → F → Type 0) (s : SettingsSeen) (old new : Told) (stop : LoneStop F) →
    new.bytes_under ≡ old.bytes_under → StopsEarly accepts refuses s new stop → StopsEarly accepts refuses s old stop
stops_before_reading stand stay accepts refuses s old new stop same stops = record {
  kind = stops.kind;
  says = λ lone. alone_before_reading stand stay accepts refuses lone s old new stop same (stops.says lone);
}

-- ---- what was read

-- once the first headers were read, it stops for want of memory, or for what was judged of them
pub leaves_opening : {I T F : Type 0} (told : I → Told) (is_calm : Type 0) (s : SettingsSeen) (old mid new : I)
    (r : Result T (LoneStop F)) → OfRunFirsts (told old) s (λ w. ReadsFirsts s.names w (told old) (told mid)) →
    new ≡ mid → r ≢ Err (Run ReadFault) →
    IfErr r (LeavesAlone (with_search tt s) is_calm (told old) (told new))
leaves_opening told is_calm s old mid new (Ok opened) only same readable = tt
leaves_opening {I} {T} {F} told is_calm s old mid new (Err (Run stop)) only same readable =
    let Reads : _ → Type 0 = λ i. OfRunFirsts (told old) s (λ w. ReadsFirsts s.names w (told old) (told i)) in
    let stopped : Stop → Result T (LoneStop F) = λ x. Err (Run x) in
    record {
      unread = λ want. subst Reads (sym same) only;
      broke = λ failed. absurd (readable (ap stopped failed));
    }
leaves_opening told is_calm s old mid new (Err (Unscoped refusal)) only same readable =
    let Reads : _ → Type 0 = λ i. OfRunFirsts (told old) s (λ w. ReadsFirsts s.names w (told old) (told i)) in
    subst Reads (sym same) only

-- ---- what is opened

plan_stays : {I : Type 0} (told : I → Told) (s : SettingsSeen) (old new : Feeder I) → HasAcceptedFirsts told old new →
    HasPlan old s.names s.starts s.size s.max_bytes → HasPlan new s.names s.starts s.size s.max_bytes
plan_stays told s old new is plan = record {
  files = is.kept.plan.names ∙ plan.files;
  transfers = is.kept.plan.starts ∙ plan.transfers;
  limit = is.kept.plan.limit ∙ plan.limit;
  block = is.kept.plan.size ∙ plan.block;
  headers = is.kept.plan.headers ∙ plan.headers;
}

feeder_ready : {I : Type 0} (told : I → Told) (is_open : I → Type 0) (s : SettingsSeen) (header : HeaderText)
    (old new : Feeder I) (observations : List (Option Observation)) → HasAcceptedFirsts told old new →
    HasFirsts told is_open (with_search tt s) old observations → slice_get (headers_of old) 0 ≡ Some header →
    IsFeederReady told is_open s header new
feeder_ready told is_open s header old new observations is begun first =
    let Open : _ → Type 0 = is_open in
    record {
      plan = plan_stays told s old new is begun.plan;
      first = ap (λ hs. slice_get hs 0) is.kept.headers ∙ first;
      feeds = is.feeds;
      faultless = is.kept.faultless;
      running = is.kept.running;
      file = λ open_file. subst Open (sym is.inputs) (begun.file (is.kept.reading open_file));
    }

pub is_opened : {I : Type 0} (told : I → Told) (is_open : I → Type 0) (s : SettingsSeen) (old new : Feeder I)
    (observations : List (Option Observation)) (o : Observation) (scope : Scope) (bank : Bank) (header : HeaderText)
    (space : LoneSpace) → HasAcceptedFirsts told old new → HasFirsts told is_open (with_search tt s) old observations →
    observations ≡ Some o ∷ [] → AllInRange s → IsOfOne s → slice_get (headers_of old) 0 ≡ Some header →
    IsBankOf s.search o scope bank → IsLoneSpace bank (shape_for s) header space →
    (shape_for s).max_blocks * s.size ≤ most_fed →
    plan_refusal o s.search ≡ None →
    ((w : FileStream) → AreFirsts w (Some o ∷ []) → CanSearchFirst s.search w (length w.starts)) →
    IsOpenedAlone told is_open s new o scope space
is_opened told is_open s old new observations o scope bank header space is begun only range one first bank_is space_is
    total plan fits =
    record {
      one = one;
      most = omega (arith, range.run.most_bytes);
      header = header;
      feeder = feeder_ready told is_open s header old new observations is begun first;
      bank = bank;
      bank_is = bank_is;
      space_is = space_is;
      total = total;
      begins = λ lone. subst (λ i. MayBegin (Alone lone) s (told i)) (sym is.inputs)
          (begins_at s (told old.inputs.now) (headers_of old) o one.transfer
          (each_first told is_open s old observations o begun only) one.unrecorded plan lone);
      says = subst (λ i. OfEachFirst (told i) s (SaysObservation o)) (sym is.inputs)
          (each_says s (told old.inputs.now) (headers_of old) o one.transfer
          (each_first told is_open s old observations o begun only));
      firsts = subst (λ i. OfRunFirsts (told i) s (λ w. AreFirsts w (Some o ∷ []))) (sym is.inputs)
          (only_firsts told is_open s old observations o begun only);
      fits = fits;
    }
