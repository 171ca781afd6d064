-- What schedules leave of tables.
use Rattle.std.proofs.Common.{◌≡◌, ℕ, ◌+◌, ◌-◌, ◌<◌, List, arith, sym, subst}
use Rattle.band_paths.specs.Edges.{channels_of}
use Rattle.search_model.specs.Samples.{Filterbank}
use Rattle.row_model.specs.declared.Rows.{Rows}
use Rattle.row_model.specs.Sums.{Sums, AddUp, Fit}
use Rattle.row_schedule.specs.Samples.{AreNext}
use Rattle.row_schedule.specs.Schedules.{Scheduled}
use Rattle.row_schedule.specs.Follows.{Follows}
use Rattle.row_schedule.specs.Running.{Stores, Running, Stands}
use Rattle.row_schedule.specs.Filling.{KeepsOn, WroteWide}
use Rattle.row_schedule.specs.Moving.{GoesOver}
use Rattle.subband_plan.specs.Values.{RowsAddUp, RowsAreBounded}
use Rattle.fdmt_carry.specs.declared.passing.Passing.{Passing}
use Rattle.fdmt_carry.specs.Tables.{Tables, AreTables, AreSamples, IsScheduled, MakesTables, RowsStand, table_sums}
use Rattle.fdmt_carry.specs.Passing.{stop_at}
use Rattle.fdmt_carry.specs.Making.{AreFit, Fills, CarriesOut, KeepsFor, MakesBandRow}
use Rattle.fdmt_carry.proofs.Rooms.{kept_stays}

-- what a schedule does between two orders
abbrev pub Ran : Scheduled → ℕ → ℕ → ℕ → List ℕ → Stores → Stores → Type 0
Ran s spectra from to samples old new = (rows : Rows) (x : ℕ → ℕ → ℕ) (y : Sums) (u : ℕ) → Follows rows s →
    AddUp rows.sources.items x y → Fit s.narrow y (u + spectra) → AreNext x s.channels s.chunk u spectra samples →
    Running rows s y u spectra from old → Running rows s y u spectra to new

-- the sums of rows of 16 bits fit
pub sums_fit : RowsAreBounded → (t : Tables) (pass : Passing) (f : Filterbank) (m e : ℕ) → AreTables t →
    AreFit t pass f m e → Fit pass.schedule.narrow (table_sums t f) e
sums_fit bounded t pass f m e is fit r u late has early =
    let most = bounded t.plan t.rows f e m is.plan is.rows fit.channels fit.small r u late early in
    let fits = fit.pass_is.low r has in
    omega arith

samples_next : (t : Tables) (s : Scheduled) (f : Filterbank) (most u spectra : ℕ) (samples : List ℕ) →
    IsScheduled t.plan t.rows t.chunk most s → AreSamples t f u spectra samples →
    AreNext f.value s.channels s.chunk u spectra samples
samples_next t s f most u spectra samples is next =
    subst (λ (chunk : ℕ). AreNext f.value s.channels chunk u spectra samples) (sym is.chunk_is)
    (subst (λ (channels : ℕ). AreNext f.value channels t.chunk u spectra samples) (sym is.channels) next)

-- and the row of the last one stands
abbrev pub RanTo : Scheduled → ℕ → ℕ → ℕ → List ℕ → Stores → Stores → Type 0
RanTo s spectra from to samples old new = (rows : Rows) (x : ℕ → ℕ → ℕ) (y : Sums) (u : ℕ) → Follows rows s →
    AddUp rows.sources.items x y → Fit s.narrow y (u + spectra) → AreNext x s.channels s.chunk u spectra samples →
    Running rows s y u spectra from old → from < to → Stands rows s y u spectra new (to - 1)

-- a pass goes on by some orders
pub goes_on : RowsAddUp → RowsAreBounded → (t : Tables) (pass : Passing) (spectra from to : ℕ) (samples : List ℕ)
    (old new : Stores) → AreTables t → Ran pass.schedule spectra from to samples old new →
    CarriesOut t pass from to spectra samples old new
goes_on adds bounded t pass spectra from to samples old new is ran f m u taken before =
    let y = table_sums t f in
    let runs = taken.fit.pass_is.runs in
    ran t.rows.rows f.value y u runs.follows (adds t.plan t.rows f is.plan is.rows taken.fit.channels)
    (sums_fit bounded t pass f m (u + spectra) is taken.fit)
    (samples_next t pass.schedule f t.chunk u spectra samples runs taken.samples_are) before

-- up to a stop, so that its row of the whole band stands
pub band_row_made : RowsAddUp → RowsAreBounded → (t : Tables) (pass : Passing) (d spectra from to : ℕ)
    (samples : List ℕ) (old new : Stores) → AreTables t → to ≡ stop_at t pass (d + 1) → from < to →
    RanTo pass.schedule spectra from to samples old new → MakesBandRow t pass d from spectra samples old new
band_row_made adds bounded t pass d spectra from to samples old new is to_is rise ran f m u taken before =
    let y = table_sums t f in
    let runs = taken.fit.pass_is.runs in
    subst (λ (j : ℕ). Stands t.rows.rows pass.schedule y u spectra new (j - 1)) to_is
    (ran t.rows.rows f.value y u runs.follows (adds t.plan t.rows f is.plan is.rows taken.fit.channels)
    (sums_fit bounded t pass f m (u + spectra) is taken.fit)
    (samples_next t pass.schedule f t.chunk u spectra samples runs taken.samples_are) before rise)

-- what is kept for one pass, written for another
pub kept_for : RowsAreBounded → (t : Tables) (pass next : Passing) (old new : Stores) → AreTables t →
    GoesOver t.rows.rows pass.schedule.narrow next.schedule.narrow old new → KeepsFor t pass next old new
kept_for bounded t pass next old new is goes f m u fit before =
    goes (table_sums t f) u (sums_fit bounded t next f m u is fit) before

-- the tables of all nodes: their rows were made and kept
pub filled : RowsAddUp → RowsAreBounded → (t : Tables) (pass : Passing) (spectra : ℕ) (samples : List ℕ)
    (old made new : Stores) → AreTables t → MakesTables t pass.schedule.narrow spectra samples old made →
    WroteWide old made → KeepsOn t.rows.rows pass.schedule.narrow t.most spectra made.wide made new →
    new.wide ≡ made.wide → Fills t pass spectra samples old new
filled adds bounded t pass spectra samples old made new is makes wrote keeps wide f m u taken before =
    let y = table_sums t f in
    let rows = t.rows.rows in
    let sums = adds t.plan t.rows f is.plan is.rows taken.fit.channels in
    let stands = makes f.value y u (record {
      adds = sums;
      channels = channels_of t.plan.edges;
      rows_are = is.rows.are_rows;
      next = taken.samples_are;
      kept_are = before;
    }) in
    record {
      kept = keeps f.value y u sums (sums_fit bounded t pass f m (u + spectra) is taken.fit)
          (kept_stays rows pass.schedule.narrow y u old made wrote before) (λ r lt. stands r (omega arith) lt);
      stands = subst (λ xs. RowsStand t 0 y u spectra xs) (sym wide) stands;
    }
