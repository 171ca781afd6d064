-- The session of a lone run: before its first turn, and what it left.
use Rattle.std.proofs.Common.{◌≡◌, ℕ, ◌+◌, ◌/◌, ◌≤◌, List, [], ◌∷◌, Option, Some, length, sym, ap, ◌∙◌, subst, arith}
use Rattle.std.specs.Prelude.{slice_get}
use Rattle.std.specs.List.{sum_by, range_with_len}
use Rattle.std.proofs.lemmas.Bool.{true≢false}
use Rattle.psr_base.specs.Inputs.{HasReadFrom}
use Rattle.psr_base.specs.Told.{Told, OfFile}
use Rattle.dada_model.specs.Bounds.{ObservationInRange}
use Rattle.dada_model.specs.Observation.{Observation}
use Rattle.search_words.specs.Settings.{SettingsSeen}
use Rattle.ring_ends.specs.Ended.{sealed_at_end, cleared_at_end}
use Rattle.stream_model.specs.Blocks.{transfer_bytes}
use Rattle.stream_model.specs.Walk.{FileStream}
use Rattle.search_engine.specs.Scope.{Scope}
use Rattle.search_engine.specs.Engine.{EngineState, HasFoundIn, scope_of}
use Rattle.disk_feeder.specs.declared.answers.FeedEnd.TheVariants.{Whole}
use Rattle.disk_feeder.specs.declared.feeder.Feeder.{Feeder}
use Rattle.disk_feeder.specs.declared.feeder.FeederSpace.{FeederSpace}
use Rattle.disk_feeder.specs.declared.stream.Stream.{Stream}
use Rattle.disk_feeder.specs.Feeder.{FeederRead, stream_at, plan_at, block_size}
use Rattle.disk_feeder.specs.Resting.{stream_in, feeder_over}
use Rattle.disk_feeder.specs.Streams.{StreamRead}
use Rattle.session_readers.specs.declared.bank.Bank.{Bank}
use Rattle.search_session.specs.declared.lone_space.LoneSpace.{LoneSpace}
use Rattle.search_session.specs.declared.lone.LoneEnd.{LoneEnd}
use Rattle.session_readers.specs.Banks.{HasEngine, engines_of}
use Rattle.search_session.specs.Stages.{IsUnfed}
use Rattle.search_session.specs.Sessions.{FeedAnswers}
use Rattle.search_session.specs.Lone.{IsLoneSpace, IsLoneReady, bank_in}
use Rattle.search_session.specs.LoneEnds.{BankAnswers, session_end}
use Rattle.search_opening.specs.First.{AreFirsts}
use Rattle.run_outcome.specs.Outcomes.{AllCleared}
use Rattle.run_outcome.specs.Firsts.{first_name}
use Rattle.run_outcome.specs.Lone.{LoneSearch}
use Rattle.run_outcome.specs.Runs.{Searching, Alone, first_observation, stream_for}
use Rattle.search_opening.specs.Ended.{FirstsStayTold, HasReadSince, HasFed}
use Rattle.search_opening.specs.Settings.{BeginsRun}
use Rattle.drive_lone.specs.declared.found.LoneFound.{LoneFound}
use Rattle.drive_lone.specs.Scopes.{IsBankOf, SaysObservation}
use Rattle.drive_lone.specs.Openings.{IsOpenedAlone, shape_for}
use Rattle.drive_lone.specs.Found.{GoesAlone}
use Rattle.drive_lone.proofs.Told.{file_before_reading}

-- ---- a feeder that is taken apart

-- a feeder of this stream over these inputs
abbrev over : {I : Type 0} → I → Stream → Feeder I
over lent stream = record { inputs = record { ref_ptr = (0, 0); ghost_name = 0; now = lent }; stream = stream }

-- where its inputs lie plays no part
rested : {I : Type 0} (told : I → Told) (is_open : I → Type 0) (s : SettingsSeen) (f : Feeder I) (o : Observation)
    (scope : Scope) (space : LoneSpace) → IsOpenedAlone told is_open s f o scope space →
    IsOpenedAlone told is_open s (over f.inputs.now (stream_at f)) o scope space
rested told is_open s f o scope space opened = record {
  one = opened.one;
  most = opened.most;
  header = opened.header;
  feeder = record {
    plan = record {
      files = opened.feeder.plan.files;
      transfers = opened.feeder.plan.transfers;
      limit = opened.feeder.plan.limit;
      block = opened.feeder.plan.block;
      headers = opened.feeder.plan.headers;
    };
    first = opened.feeder.first;
    feeds = opened.feeder.feeds;
    faultless = opened.feeder.faultless;
    running = opened.feeder.running;
    file = opened.feeder.file;
  };
  bank = opened.bank;
  bank_is = opened.bank_is;
  space_is = opened.space_is;
  total = opened.total;
  begins = opened.begins;
  says = opened.says;
  firsts = opened.firsts;
  fits = opened.fits;
}

pub opened_over : {I : Type 0} (told : I → Told) (is_open : I → Type 0) (s : SettingsSeen) (f : Feeder I) (lent : I)
    (rest : FeederSpace) (o : Observation) (scope : Scope) (space : LoneSpace) → lent ≡ f.inputs.now →
    stream_in rest ≡ stream_at f → IsOpenedAlone told is_open s f o scope space →
    IsOpenedAlone told is_open s (feeder_over lent rest) o scope space
opened_over told is_open s f lent rest o scope space inputs stream opened =
    subst (λ i. IsOpenedAlone told is_open s (over i (stream_in rest)) o scope space) (sym inputs)
    (subst (λ x. IsOpenedAlone told is_open s (over f.inputs.now x) o scope space) (sym stream)
    (rested told is_open s f o scope space opened))

-- ---- before the first turn

-- the engine of a bank that has it alone
has_engine : (e : EngineState) (engines : List (Option EngineState)) → engines ≡ Some e ∷ [] → HasEngine engines 0 e
has_engine e engines is = ap (λ es. slice_get es 0) is

is_unfed : (s : SettingsSeen) (o : Observation) (scope : Scope) (bank : Bank) (n : ℕ) → n ≡ 1 →
    IsBankOf s.search o scope bank → IsUnfed n bank
is_unfed s o scope bank n one is = record {
  count = ap length is.alone ∙ sym one;
  each = λ k below.
      let first : k ≡ 0 = omega (arith, below, one) in (
        is.engine,
        subst (λ j. HasEngine (engines_of bank) j is.engine) (sym first)
            (has_engine is.engine (engines_of bank) is.alone),
        is.opened.nothing_fed,
        is.opened.running,
      );
}

pub lone_ready : {I : Type 0} (told : I → Told) (is_open : I → Type 0) (s : SettingsSeen) (lent : I)
    (feeder : FeederSpace) (o : Observation) (scope : Scope) (space : LoneSpace) →
    IsOpenedAlone told is_open s (feeder_over lent feeder) o scope space → IsLoneReady (told lent) space feeder
lone_ready told is_open s lent feeder o scope space opened =
    let f = feeder_over lent feeder in
    let plan = opened.feeder.plan in
    let transfers : length (plan_at f).starts ≡ 1 = ap length plan.transfers ∙ opened.one.transfer in
    let same : bank_in space ≡ opened.bank = opened.space_is.bank_is in
    record {
      shape = shape_for s;
      header = opened.header;
      space_is = subst (λ l. IsLoneSpace l (shape_for s) opened.header space) (sym same) opened.space_is;
      feeds = record {
        first = opened.feeder.first;
        feeds = opened.feeder.feeds;
        running = opened.feeder.running;
        faultless = opened.feeder.faultless;
        size = sym plan.block;
        blocks = at_most _ _ (ap (λ n. n / block_size f + length (plan_at f).starts + 1) plan.limit
            ∙ ap (λ n. s.max_bytes / n + length (plan_at f).starts + 1) plan.block
            ∙ ap (λ n. s.max_bytes / s.size + n + 1) transfers);
      };
      transfers = omega (arith, transfers);
      engines = subst (λ l. IsUnfed (length (plan_at f).starts) l) (sym same)
          (is_unfed s o scope opened.bank (length (plan_at f).starts) transfers opened.bank_is);
      few = opened.total;
    }
  where
    at_most : (a b : ℕ) → a ≡ b → a ≤ b
    at_most a b same = omega (arith, same)

-- ---- what it left

-- the engine that searched, which was that of the bank
pub bank_engine : {I : Type 0} (told : I → Told) (is_open : I → Type 0) (s : SettingsSeen) (lent : I)
    (feeder : FeederSpace) (o : Observation) (scope : Scope) (space : LoneSpace) (start : Bank) (end : LoneEnd) →
    IsOpenedAlone told is_open s (feeder_over lent feeder) o scope space → start ≡ bank_in space →
    BankAnswers start end → (f : EngineState) × HasEngine (engines_of end.bank) 0 f
bank_engine told is_open s lent feeder o scope space start end opened same answers =
    let is = opened.bank_is in
    let engines = ap (λ (l : Bank). engines_of l) (same ∙ opened.space_is.bank_is) ∙ is.alone in
    let f = answers.engines.each 0 is.engine (has_engine is.engine (engines_of start) engines) in
    (f.0, f.1)

-- the sum over one place
one_place : (f : ℕ → ℕ) (n m : ℕ) → n ≡ 1 → sum_by f (range_with_len 0 n) ≡ m → f 0 ≡ m
one_place f n m one sum =
    let only : sum_by f (range_with_len 0 1) ≡ m = subst (λ k. sum_by f (range_with_len 0 k) ≡ m) one sum in
    omega (arith, only)

first_is : (w : FileStream) (o : Observation) (n : ℕ) → AreFirsts w (Some o ∷ []) → length w.starts ≡ 1 →
    first_observation w 0 ≡ o
first_is w o n firsts one =
    let at = firsts.each 0 (omega (arith, one)) in
    sym (inside o (first_observation w 0) at)
  where
    inside : (a b : Observation) → slice_get (Some a ∷ []) 0 ≡ Some (Some b) → a ≡ b
    inside a b is = cc

pub goes_alone : {I : Type 0} → FirstsStayTold → (told : I → Told) (is_open is_calm : I → Type 0) (faults : I → ℕ)
    (s : SettingsSeen) (before lent after : I) (feeder : FeederSpace) (o : Observation) (scope : Scope)
    (space : LoneSpace) (start : Bank) (end : LoneEnd) (found : LoneFound) →
    IsOpenedAlone told is_open s (feeder_over lent feeder) o scope space → start ≡ bank_in space →
    FeedAnswers told is_calm faults (feeder_over lent feeder) (session_end after end) → BankAnswers start end →
    HasReadSince told is_calm before (feeder_over lent feeder) →
    HasFed told is_calm Searching s before (feeder_over lent feeder) after end.blocks end.feed →
    found.feed ≡ end.feed → found.observation ≡ o → found.blocks ≡ end.blocks →
    ((e : EngineState) → HasEngine (engines_of end.bank) 0 e → found.engine ≡ e) →
    ObservationInRange found.observation → GoesAlone s (told before) o scope found
goes_alone stay told is_open is_calm faults s before lent after feeder o scope space start end found opened same fed
    bank read has feed observed blocks engine range =
    let f = feeder_over lent feeder in
    let is = opened.bank_is in
    let engines = ap (λ (l : Bank). engines_of l) (same ∙ opened.space_is.bank_is) ∙ is.alone in
    let sealed = sealed_at_end end.blocks in
    let transfers : length (plan_at f).starts ≡ 1 =
    ap length opened.feeder.plan.transfers ∙ opened.one.transfer in
    let Blocks : _ → Type 0 = λ b. AllCleared b 0 1 in
    record {
      observed = observed;
      range = range;
      says = λ k below. file_before_reading (told before) (told lent) (first_name s.names s.starts k)
          (SaysObservation found.observation) read.names
          (subst (λ x. OfFile (told lent) (first_name s.names s.starts k) (SaysObservation x)) (sym observed)
          (opened.says k below));
      first = λ files are. first_is (stream_for s files) o 0
          (opened.firsts files (stay s.names s.starts (told before) (told lent) files read.names are)) opened.one.transfer
          ∙ sym observed;
      cleared = subst Blocks (sym blocks) (λ k below.
          let first : k ≡ 0 = omega (arith, below) in
          subst (λ j. cleared_at_end end.blocks (0 + j) ≡ sealed) (sym first) bank.cleared);
      held = λ bytes whole.
          let feed_whole : end.feed ≡ Whole bytes = sym feed ∙ whole in
          let through = transfer_bytes 0 sealed in
          let went = bank.searched bytes feed_whole 0 is.engine
          (has_engine is.engine (engines_of start) engines) in
          let same_engine = engine went.0 went.1 in
          let scope_is = ap scope_of same_engine ∙ went.2.scope ∙ is.scope_is in
          let count = one_place (λ k. length (transfer_bytes k sealed)) (length (plan_at f).starts) bytes transfers
          (fed.parts bytes feed_whole) in
          let few = has.few bytes feed_whole in
          let most = opened.most in
          record {
            bytes = through;
            few = omega (arith, count, few, most);
            scope_is = scope_is;
            search_is = ap (λ (e : EngineState). e.search) same_engine ∙ went.2.same.search ∙ is.opened.search_is;
            shard_is = ap (λ (e : EngineState). e.shard) same_engine ∙ went.2.same.shard ∙ is.opened.shard_is;
            ended = ap (λ (e : EngineState). e.has_ended) same_engine ∙ went.2.ended;
            searched = subst (λ x. HasFoundIn x scope through found.engine) (sym observed)
                (subst (λ c. HasFoundIn o c through found.engine) scope_is
                (subst (λ e. HasFoundIn o (scope_of e) through e) (sym same_engine)
                (went.2.stands o is.stands).found));
            known = λ files are. has.through bytes feed_whole files are 0 (omega (arith, opened.one.transfer));
          };
    }

-- nothing stands against it
pub begins_alone : {I : Type 0} (told : I → Told) (is_open : I → Type 0) (s : SettingsSeen) (f : Feeder I)
    (o : Observation) (scope : Scope) (space : LoneSpace) → IsOpenedAlone told is_open s f o scope space →
    (lone : LoneSearch) → BeginsRun (Alone lone) (told f.inputs.now) s
begins_alone told is_open s f o scope space opened lone = (
  opened.begins lone,
  λ files are.
      let firsts = opened.firsts files are in
      record {
        accepted = firsts.walked;
        searched = opened.fits (stream_for s files) firsts;
        recorded = λ on. absurd (true≢false (sym on ∙ opened.one.unrecorded));
      },
)

-- what is known where its feeder was taken apart
pub record IsParted {I : Type 0} (told : I → Told) (is_open is_calm : I → Type 0) (s : SettingsSeen) (before lent : I)
    (rest : FeederSpace) (o : Observation) (scope : Scope) (space : LoneSpace) : Type 0 where
  pub opened : IsOpenedAlone told is_open s (feeder_over lent rest) o scope space
  pub read : HasReadSince told is_calm before (feeder_over lent rest)

pub is_parted : {I : Type 0} (told : I → Told) (is_open is_calm : I → Type 0) (faults : I → ℕ) (failed : Type 0)
    (s : SettingsSeen) (before start lent : I) (f : Feeder I) (rest : FeederSpace) (o : Observation) (scope : Scope)
    (space : LoneSpace) → start ≡ before → HasReadFrom told is_calm faults failed start f.inputs.now →
    FeederRead (told start) (told f.inputs.now) f → lent ≡ f.inputs.now → stream_in rest ≡ stream_at f →
    IsOpenedAlone told is_open s f o scope space → IsParted told is_open is_calm s before lent rest o scope space
is_parted {I} told is_open is_calm faults failed s before start lent f rest o scope space begins from reads inputs
    stream opened =
    let Since : I → Type 0 = λ i. HasReadSince told is_calm i (feeder_over lent rest) in
    let Names : I → Type 0 = λ i. (told i).bytes_under ≡ (told start).bytes_under in
    let Calm : I → Type 0 = is_calm in
    let Read : I → Stream → Type 0 = λ i x. StreamRead (told start) (told i) x in
    record {
      opened = opened_over told is_open s f lent rest o scope space inputs stream opened;
      read = subst Since begins (record {
        names = subst Names (sym inputs) from.names;
        calm = λ calm. subst Calm (sym inputs) (from.calm calm);
        reads = subst (λ x. Read lent x) (sym stream) (subst (λ i. Read i (stream_at f)) (sym inputs) reads);
      });
    }
