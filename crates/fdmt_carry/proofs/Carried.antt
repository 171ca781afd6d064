-- What a carry stands for, from call to call.
use Rattle.std.proofs.Common.{◌≡◌, ℕ, ◌+◌, ◌-◌, ◌*◌, ◌<◌, true, false, List, Option, Some, None, IfSome, slice_index, arith, ap, sym, ◌∙◌, subst, refl, inl, inr}
use Rattle.std.proofs.lemmas.Bool.{cases_lt, false≢true}
use Rattle.search_model.specs.Samples.{Filterbank}
use Rattle.search_model.specs.Sums.{path_sum}
use Rattle.row_schedule.specs.declared.halves.Halves.{Halves}
use Rattle.row_schedule.specs.Halves.{half_sum}
use Rattle.row_schedule.specs.Running.{Stores, Running}
use Rattle.row_schedule.specs.declared.stores.Sizes.{Sizes}
use Rattle.row_schedule.specs.Laws.{NothingKept, RunningBegins, RunningEnds}
use Rattle.row_schedule.specs.Sizes.{AreZeros}
use Rattle.subband_plan.specs.Values.{AreAtMost, RowsBeginEmpty}
use Rattle.fdmt_carry.specs.declared.passing.Passing.{Passing}
use Rattle.fdmt_carry.specs.Tables.{Tables, AreTables, TablesStand, table_sums}
use Rattle.fdmt_carry.specs.Passing.{AreKept, HasBandRow, HasDone, IsBefore, IsPassOf}
use Rattle.fdmt_carry.specs.Carrying.{Carrying, IsStream, IsBegun, IsFed, IsRowOn, IsSettled, AreNext, HasMade, StandsForSamples, StandsMidway, carrying}
use Rattle.fdmt_carry.specs.Making.{AddUpToRow, AreTaken, Fills, CarriesOut, KeepsFor, MakesBandRow}
use Rattle.fdmt_carry.proofs.Rooms.{same_stores}

-- opened, it stands for each stream
pub opened_stands : NothingKept → RowsBeginEmpty → (t : Tables) (pass : Passing) (limit max_sample : ℕ) (sizes : Sizes)
    (st : Stores) (f : Filterbank) → AreTables t → AreZeros sizes st → IsStream t.plan max_sample f →
    StandsForSamples (carrying t pass limit max_sample 0 0 false false 0 0 st) f
unfolding NothingKept
opened_stands nothing empty t pass limit max_sample sizes st f is zeros stream = record {
  stream = stream;
  small = λ channel u within early. absurd (omega arith);
  before = omega arith;
  kept = subst (λ (st : Stores). AreKept t pass f 0 st)
      (same_stores {a = st.narrow} {b = st.wide} refl refl (sym zeros.kept_narrow) (sym zeros.kept_wide))
      (nothing t.rows.rows pass.schedule.narrow (table_sums t f) st.narrow st.wide sizes.kept_narrow sizes.kept_wide
      (empty t.plan t.rows f is.plan is.rows));
  nodes = λ has. absurd (false≢true has);
}

-- no sample of the next spectra of a stream is above the limit
pub next_small : (c after : Carrying) (samples : List ℕ) (spectra : ℕ) (f : Filterbank) → IsSettled c after samples →
    StandsForSamples after f → AreNext c f samples spectra → AreAtMost f (after.fed + spectra) after.limit
next_small c after samples spectra f settled stands next channel t within early =
    let fed = settled.fed in
    let most = stands.stream.small channel t in
    elim settled.within [
      | inl all ↦ omega arith
      | inr small ↦ elim (cases_lt t after.fed) [
        | inl before ↦ stands.small channel t within before
        | inr now ↦
            let at : c.fed + (t - c.fed) ≡ t = omega arith in
            let is = next channel (t - c.fed) within (omega arith) in
            let value : f.value channel (c.fed + (t - c.fed)) ≡ f.value channel t = ap (λ u. f.value channel u) at in
            let bound = small (channel * c.tables.chunk + (t - c.fed)) in
            omega (arith, is, value, bound)
      ]
    ]

-- they are taken
next_taken : (c : Carrying) (spectra : ℕ) (samples : List ℕ) (f : Filterbank) → IsPassOf c.tables c.limit c.pass →
    IsStream c.tables.plan c.max_sample f → AreAtMost f (c.fed + spectra) c.limit → AreNext c f samples spectra →
    AreTaken c.tables c.pass f c.limit c.fed spectra samples
next_taken c spectra samples f is stream small next = record {
  fit = record { pass_is = is; channels = stream.channels; small = small };
  samples_are = λ channel i within lt. next channel i (let e = stream.channels in omega arith) lt;
}

-- with the tables of all nodes
pub taken_stands : (c : Carrying) (spectra : ℕ) (new : Stores) (samples : List ℕ) (f : Filterbank) →
    IsPassOf c.tables c.limit c.pass → Fills c.tables c.pass spectra samples c.stores new → StandsForSamples c f →
    AreNext c f samples spectra → AreAtMost f (c.fed + spectra) c.limit →
    StandsForSamples (record c { fed = c.fed + spectra; last = spectra; has_tables = true; stores = new }) f
taken_stands c spectra new samples f is fills stands next small =
    let taken = next_taken c spectra samples f is stands.stream small next in
    let filled = fills f c.limit c.fed taken stands.kept in
    let now : c.fed ≡ c.fed + spectra - spectra = omega arith in
    record {
      stream = stands.stream;
      small = small;
      before = omega arith;
      kept = filled.kept;
      nodes = λ _. subst (λ (u : ℕ). TablesStand c.tables f u spectra new) now filled.stands;
    }

-- by another pass
pub settled_stands : (c : Carrying) (next : Passing) (new : Stores) (f : Filterbank) →
    IsPassOf c.tables c.max_sample next → KeepsFor c.tables c.pass next c.stores new → StandsForSamples c f →
    StandsForSamples (record c { pass = next; limit = c.max_sample; has_tables = false; stores = new }) f
settled_stands c next new f is keeps stands = record {
  stream = stands.stream;
  small = λ channel t within early. stands.stream.small channel t;
  before = stands.before;
  kept = keeps f c.max_sample c.fed (record {
    pass_is = is;
    channels = stands.stream.channels;
    small = λ channel t within early. stands.stream.small channel t;
  }) stands.kept;
  nodes = λ has. absurd (false≢true has);
}

-- a pass begins
pub begun_stands : RunningBegins → (c : Carrying) (spectra first : ℕ) (f : Filterbank) → StandsForSamples c f →
    AreAtMost f (c.fed + spectra) c.limit →
    StandsMidway (record c { last = spectra; has_tables = false; is_passing = true; next = first; done = 0 }) f
unfolding RunningBegins
begun_stands begins c spectra first f stands small = record {
  stream = stands.stream;
  small = small;
  running = begins c.tables.rows.rows c.pass.schedule (table_sums c.tables f) c.fed spectra c.stores stands.kept;
}

-- goes on
pub on_stands : (c : Carrying) (new : Stores) (done : ℕ) (samples : List ℕ) (f : Filterbank) →
    IsPassOf c.tables c.limit c.pass → CarriesOut c.tables c.pass c.done done c.last samples c.stores new →
    StandsMidway c f → AreNext c f samples c.last → StandsMidway (record c { done = done; stores = new }) f
on_stands c new done samples f is goes stands next =
    let taken = next_taken c c.last samples f is stands.stream stands.small next in
    record { stream = stands.stream; small = stands.small; running = goes f c.limit c.fed taken stands.running }

-- makes a row, which then stands
pub made_stands : (c : Carrying) (new : Stores) (done : ℕ) (samples : List ℕ) (f : Filterbank) →
    IsPassOf c.tables c.limit c.pass → MakesBandRow c.tables c.pass c.next c.done c.last samples c.stores new →
    StandsMidway c f → AreNext c f samples c.last → HasMade (record c { next = c.next + 1; done = done; stores = new }) f
made_stands c new done samples f is makes stands next =
    let taken = next_taken c c.last samples f is stands.stream stands.small next in
    let same : c.next ≡ c.next + 1 - 1 = omega arith in
    record {
      stream = stands.stream;
      row = subst (λ (d : ℕ). HasBandRow c.tables c.pass f c.fed c.last d new) same
          (makes f c.limit c.fed taken stands.running);
    }

-- the halves of a row add up to it
pub halves_stand : (c : Carrying) (halves : Halves) (f : Filterbank) (k : ℕ) → IsPassOf c.tables c.limit c.pass →
    AddUpToRow c.tables c.pass c.next c.done c.last c.stores halves → StandsMidway c f → k < c.last →
    half_sum halves k ≡ path_sum f c.tables.plan.edges (c.fed + k) c.next
halves_stand c halves f k is add stands lt =
    add f c.limit c.fed k (record { pass_is = is; channels = stands.stream.channels; small = stands.small })
    stands.running lt

pub if_halves_stand : (c : Carrying) (halves : Option Halves) → IsPassOf c.tables c.limit c.pass →
    IfSome halves (AddUpToRow c.tables c.pass c.next c.done c.last c.stores) →
    IfSome halves (λ h. (f : Filterbank) (k : ℕ) → StandsMidway c f → k < c.last →
    half_sum h k ≡ path_sum f c.tables.plan.edges (c.fed + k) c.next)
if_halves_stand c None is add = add
if_halves_stand c (Some halves) is add = λ f k stands lt. halves_stand c halves f k is add stands lt

-- or leaves it out
pub left_stands : (c : Carrying) (done : ℕ) (f : Filterbank) →
    ((f : Filterbank) (u spectra : ℕ) (st : Stores) → HasDone c.tables c.pass f u spectra c.done st →
    HasDone c.tables c.pass f u spectra done st) → StandsMidway c f →
    StandsMidway (record c { next = c.next + 1; done = done }) f
left_stands c done f left stands = record {
  stream = stands.stream;
  small = stands.small;
  running = left f c.fed c.last c.stores stands.running;
}

-- and ends
pub ended_stands : RunningEnds → (c : Carrying) (f : Filterbank) → IsPassOf c.tables c.limit c.pass →
    c.next ≡ c.tables.plan.last + 1 → IsBefore c.tables c.pass c.next c.done → StandsMidway c f →
    StandsForSamples (record c { fed = c.fed + c.last; has_tables = false; is_passing = false }) f
unfolding RunningEnds
ended_stands ends c f pass all before stands =
    let t = c.tables in
    record {
      stream = stands.stream;
      small = stands.small;
      before = omega arith;
      kept = ends t.rows.rows c.pass.schedule (table_sums t f) c.fed c.last c.stores pass.runs.follows
          (subst (λ (j : ℕ). Running t.rows.rows c.pass.schedule (table_sums t f) c.fed c.last j c.stores)
          (before.end all) stands.running);
      nodes = λ has. absurd (false≢true has);
    }

-- what a call leaves of a carry that was settled first
pub settled_begun : (c mid new : Carrying) (samples : List ℕ) (spectra : ℕ) → IsSettled c mid samples →
    IsBegun mid new spectra → IsBegun c new spectra
settled_begun c mid new samples spectra settled begun = record {
  tables = begun.tables ∙ settled.tables;
  max_sample = begun.max_sample ∙ settled.max_sample;
  fed = begun.fed ∙ settled.fed;
  last = begun.last;
  no_tables = begun.no_tables;
  passing = begun.passing;
  next = begun.next ∙ ap (λ (t : Tables). t.plan.first) settled.tables;
}

pub settled_fed : (c mid new : Carrying) (samples : List ℕ) (spectra : ℕ) → IsSettled c mid samples →
    IsFed mid new spectra → IsFed c new spectra
settled_fed c mid new samples spectra settled fed = record {
  tables = fed.tables ∙ settled.tables;
  max_sample = fed.max_sample ∙ settled.max_sample;
  fed = fed.fed ∙ ap (λ n. n + spectra) settled.fed;
  last = fed.last;
  not_passing = fed.not_passing;
}

-- the samples are those of its next spectra too
pub settled_next : (c mid : Carrying) (samples : List ℕ) (spectra : ℕ) (f : Filterbank) → IsSettled c mid samples →
    AreNext c f samples spectra → AreNext mid f samples spectra
settled_next c mid samples spectra f settled next channel i within lt =
    ap (λ (t : Tables). slice_index samples (channel * t.chunk + i)) settled.tables
    ∙ next channel i within lt
    ∙ ap (λ u. f.value channel (u + i)) (sym settled.fed)

-- a pass from its begin on, which has come to the row of delay d
pub record GoesOn (before now : Carrying) (samples : List ℕ) (d : ℕ) : Type 0 where
  pub tables : now.tables ≡ before.tables
  pub max_sample : now.max_sample ≡ before.max_sample
  pub fed : now.fed ≡ before.fed
  pub last : now.last ≡ before.last
  pub passing : now.is_passing ≡ true
  pub next : now.next ≡ d
  pub stands : (f : Filterbank) → StandsMidway before f → AreNext before f samples before.last → StandsMidway now f

pub goes_more : (before now new : Carrying) (samples : List ℕ) (d : ℕ) → GoesOn before now samples d →
    IsRowOn now new → ((f : Filterbank) → StandsMidway now f → AreNext now f samples now.last → StandsMidway new f) →
    GoesOn before new samples (d + 1)
goes_more before now new samples d goes row makes = record {
  tables = row.tables ∙ goes.tables;
  max_sample = row.max_sample ∙ goes.max_sample;
  fed = row.fed ∙ goes.fed;
  last = row.last ∙ goes.last;
  passing = row.passing;
  next = row.next ∙ ap (λ n. n + 1) goes.next;
  stands = λ f midway next. makes f (goes.stands f midway next) (λ channel i within lt.
      ap (λ (t : Tables). slice_index samples (channel * t.chunk + i)) goes.tables
      ∙ next channel i within (let e = goes.last in omega arith)
      ∙ ap (λ u. f.value channel (u + i)) (sym goes.fed));
}

-- the samples are those of the next spectra when a pass begins
pub begun_next : (c new : Carrying) (samples : List ℕ) (spectra : ℕ) (f : Filterbank) → IsBegun c new spectra →
    AreNext c f samples spectra → AreNext new f samples new.last
begun_next c new samples spectra f begun next channel i within lt =
    ap (λ (t : Tables). slice_index samples (channel * t.chunk + i)) begun.tables
    ∙ next channel i within (let e = begun.last in omega arith)
    ∙ ap (λ u. f.value channel (u + i)) (sym begun.fed)
