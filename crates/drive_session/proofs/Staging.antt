-- The stage of a run's session.
use Rattle.std.proofs.Common.{◌≡◌, ℕ, ◌+◌, ◌<◌, Bool, true, false, List, Option, Some, None, length, refl, sym, ap, ◌∙◌, subst, arith}
use Rattle.std.specs.Prelude.{IfSome}
use Rattle.psr_base.specs.Told.{Told}
use Rattle.dada_model.specs.Observation.{Observation}
use Rattle.search_model.specs.declared.search.Search.{Search}
use Rattle.dada_hdu.specs.declared.hdu.Hdu.{Hdu}
use Rattle.dada_hdu.specs.Passes.{data_shape}
use Rattle.disk_feeder.specs.declared.feeder.Feeder.{Feeder}
use Rattle.disk_feeder.specs.Feeder.{headers_of, plan_at}
use Rattle.dada_recorder.specs.declared.recorder.Recorder.{Recorder}
use Rattle.dada_recorder.specs.declared.space.RecorderSpace.{RecorderSpace}
use Rattle.dada_recorder.specs.Blocks.{RecordPlan}
use Rattle.dada_recorder.specs.Recorder.{IsSpaceFor, IsFreshFor}
use Rattle.session_readers.specs.declared.bank.Bank.{Bank}
use Rattle.search_session.specs.Books.{HasBank}
use Rattle.search_session.specs.Stages.{IsUnfed, IsFreshRecorder, recorder_count}
use Rattle.session_readers.specs.Banks.{engines_of}
use Rattle.search_opening.specs.declared.space.StageSpace.{StageSpace}
use Rattle.search_opening.specs.Engines.{AreEnginesFor}
use Rattle.search_opening.specs.First.{AreObserved}
use Rattle.search_opening.specs.Space.{AreStaged}
use Rattle.run_outcome.specs.Runs.{Task, Searching, RecordingAlone, Alone, SettingsFor}
use Rattle.search_opening.specs.declared.spaces.Spaces.{Spaces}
use Rattle.search_opening.specs.Ready.{IsReady, IsOpened}
use Rattle.drive_session.specs.Sessions.{RecordsReady, SearchesReady}
use Rattle.search_opening.specs.Spaces.{AreBanksOf, HasRecorderSpace, recorders, plan_for, shape_for}
use Rattle.drive_session.proofs.Recorded.{as_many, observation_at_place}

-- ---- banks

unfed_bank : (s : Search) (shard : ℕ) (headers : List _) (observations : List (Option Observation)) (bank : Bank)
    (n : ℕ) → AreObserved headers observations → AreEnginesFor s shard observations (engines_of bank) →
    length observations ≡ n → IsUnfed n bank
unfed_bank s shard headers observations bank n observed engines count = record {
  count = engines.count ∙ count;
  each = λ k below.
      let is = observation_at_place headers observations k observed (omega (arith, below, count)) in
      let engine = engines.each k is.0 is.1 in
      (engine.0, engine.1, engine.2.opened.nothing_fed, engine.2.opened.running);
}

unfed_banks : (task : Task) (s : SettingsFor task) (headers : List _) (observations : List (Option Observation))
    (banks : List (Option Bank)) (n : ℕ) → AreObserved headers observations → length observations ≡ n →
    AreBanksOf task s observations banks → (shard : ℕ) → shard < length banks →
    (bank : Bank) × HasBank banks shard bank × IsUnfed n bank
unfed_banks Searching s headers observations banks n observed count are shard below =
    let bank = are.each shard (omega (arith, below, are.count)) in
    (bank.0, bank.1, unfed_bank s.search shard headers observations bank.0 n observed bank.2 count)
unfed_banks RecordingAlone s headers observations banks n observed count are shard below =
    let none = ap length are in absurd (omega (arith, none, below))
unfed_banks (Alone lone) s headers observations banks n observed count are shard below = absurd are

-- ---- the stage

pub is_staged : {I F : Type 0} (told : I → Told) (is_open : I → Type 0) (files_open : F → Type 0) (task : Task)
    (s : SettingsFor task) (offsets : List ℕ) (feeder : Feeder I) (observations : List (Option Observation))
    (stage : StageSpace I F) (recorder : Option (Recorder F)) →
    IsReady told is_open task s offsets feeder observations stage → recorder_count recorder ≡ recorders s →
    ((hdu : Hdu) → (data_shape hdu).size ≡ s.size → IfSome recorder (IsFreshRecorder files_open hdu)) →
    AreStaged told is_open files_open stage feeder recorder
is_staged told is_open files_open task s offsets feeder observations stage recorder ready count fresh =
    let many = as_many (headers_of feeder) observations ready.observed in
    let starts = ap length ready.plan.transfers in
    let headers = ready.plan.headers in
    let banks = ready.stage_is.banks in
    record {
      banks = banks;
      shape = shape_for s (length banks.items);
      header = ready.header;
      space_is = ready.stage_is.space;
      feeds = ready.feeds;
      transfers = omega (arith, starts, ready.some);
      engines = unfed_banks task s (headers_of feeder) observations banks.items (length (plan_at feeder).starts)
          ready.observed (omega (arith, many, headers, starts)) ready.stage_is.banks_are;
      readers = ap (λ n. length banks.items + n) (sym count);
      recorder_is = fresh _ (ap (λ shape. shape.size) ready.stage_is.space.rings.shape_is);
      few = ready.stage_is.total;
    }

pub records_fresh : {I F : Type 0} (told : I → Told) (is_open : I → Type 0) (files_open : F → Type 0) (task : Task)
    (s : SettingsFor task) (offsets : List ℕ) (feeder : Feeder I) (observations : List (Option Observation))
    (stage : StageSpace I F) (r : Recorder F) →
    RecordsReady told is_open files_open task s offsets feeder observations stage r → (hdu : Hdu) →
    (data_shape hdu).size ≡ s.size → IsFreshRecorder files_open hdu r
records_fresh told is_open files_open task s offsets feeder observations stage r ready hdu size = record {
  size = size ∙ sym ready.fresh.block_is;
  no_file = ready.fresh.closed;
  closed = ready.closed;
  running = ready.fresh.running;
  stands = ready.fresh.stands;
}

-- ---- what the space of a recorder says

records_of : (records : Bool) (plan : RecordPlan) (size : ℕ) (at : Option RecorderSpace) (space : RecorderSpace) →
    HasRecorderSpace records plan size at → at ≡ Some space → (records ≡ true) × IsSpaceFor space plan size
records_of false plan size at space has is = let none = sym has ∙ is in absurd cc
records_of true plan size at space has is =
    let both : Some has.0 ≡ Some space = sym has.1 ∙ is in
    let same : has.0 ≡ space = cc in
    (refl, subst (λ sp. IsSpaceFor sp plan size) same has.2)

records_not : (records : Bool) (plan : RecordPlan) (size : ℕ) (at : Option RecorderSpace) →
    HasRecorderSpace records plan size at → at ≡ None → records ≡ false
records_not false plan size at has is = refl
records_not true plan size at has is = let none = sym has.1 ∙ is in absurd cc

pub records_ready : {I F : Type 0} (told : I → Told) (is_open : I → Type 0) (files_open : F → Type 0) (task : Task)
    (s : SettingsFor task) (feeder : Feeder I) (observations : List (Option Observation)) (spaces : Spaces I F)
    (space : RecorderSpace) (r : Recorder F) →
    (opened : IsOpened told is_open task s feeder observations spaces) → spaces.recorder ≡ Some space →
    ((plan : RecordPlan) (block : ℕ) → IsSpaceFor space plan block → IsFreshFor r plan block) →
    ¬ files_open r.files.now →
    RecordsReady told is_open files_open task s opened.offsets feeder observations spaces.stage r
records_ready told is_open files_open task s feeder observations spaces space r opened is fresh closed =
    let plan = plan_for s opened.offsets in
    let has = records_of s.recording plan s.size spaces.recorder space opened.recorder_is is in
    record {
      ready = opened.ready;
      records = has.0;
      fresh = fresh plan s.size has.1;
      closed = closed;
    }

pub searches_ready : {I F : Type 0} (told : I → Told) (is_open : I → Type 0) (task : Task) (s : SettingsFor task)
    (feeder : Feeder I) (observations : List (Option Observation)) (spaces : Spaces I F) →
    (opened : IsOpened told is_open task s feeder observations spaces) → spaces.recorder ≡ None →
    SearchesReady told is_open task s opened.offsets feeder observations spaces.stage
searches_ready told is_open task s feeder observations spaces opened is = record {
  ready = opened.ready;
  records_not = records_not s.recording (plan_for s opened.offsets) s.size spaces.recorder opened.recorder_is is;
}
