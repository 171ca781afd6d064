-- What is read of rows that were made.
use Rattle.std.proofs.Common.{◌≡◌, ℕ, ◌+◌, ◌-◌, ◌%◌, ◌^◌, ◌<◌, ◌≤◌, true, List, length, slice_index, arith, ap, sym, ◌∙◌, subst, refl}
use Rattle.search_model.specs.Laws.{SplitsFit}
use Rattle.row_model.specs.declared.Rows.{Rows}
use Rattle.row_model.specs.Sums.{Sums, AddUp, is_narrow}
use Rattle.row_schedule.specs.Orders.{order_at}
use Rattle.row_schedule.specs.Filling.{own_place}
use Rattle.row_schedule.specs.Running.{Stores, Stands}
use Rattle.row_schedule.specs.Schedules.{Scheduled}
use Rattle.subband_plan.specs.declared.nodes.Node.{Node}
use Rattle.subband_plan.specs.Nodes.{HasRow, root, nodes_of, node_at}
use Rattle.subband_plan.specs.NodeLaws.{PlansAreLaid}
use Rattle.subband_plan.specs.RowLaws.{RowsAreNumbered}
use Rattle.subband_plan.specs.Rows.{IsRow}
use Rattle.subband_plan.specs.Values.{BandRowsArePathSums, RowsAddUp, RowsAreBounded}
use Rattle.fdmt_carry.specs.Orders.{band_row}
use Rattle.fdmt_carry.specs.declared.passing.Passing.{Passing}
use Rattle.fdmt_carry.specs.Tables.{Tables, AreTables, table_sums}
use Rattle.fdmt_carry.specs.Passing.{IsBefore, IsPassOf, stop_at}
use Rattle.fdmt_carry.specs.Making.{ReadsBand, ReadsNode, ShowsRow}
use Rattle.fdmt_carry.proofs.Bounds.{sum_is_plain, sum_of_node}
use Rattle.fdmt_carry.proofs.Narrow.{not_true}
use Rattle.fdmt_carry.proofs.Starts.{kept_row}

-- the row of an order of a schedule is read, which stands in its slot
abbrev pub ReadsRow : Rows → Scheduled → ℕ → ℕ → List ℕ → List ℕ → Type 0
ReadsRow rows s order spectra wide row = (x : ℕ → ℕ → ℕ) (y : Sums) (u k : ℕ) (st : Stores) →
    AddUp rows.sources.items x y → st.wide ≡ wide → Stands rows s y u spectra st order → k < spectra →
    slice_index row k ≡ y (order_at s.orders order).row (u + k) 0 % 2 ^ 32

-- a row that stands at its place is read
abbrev pub ReadsPlace : ℕ → ℕ → ℕ → List ℕ → List ℕ → Type 0
ReadsPlace room r spectra wide row = (i : ℕ) → i < spectra →
    slice_index row i ≡ slice_index wide (own_place room r + i)

pub node_read : RowsAreBounded → PlansAreLaid → SplitsFit → (t : Tables) (k d r spectra : ℕ) (wide row : List ℕ) →
    AreTables t → IsRow t.rows k d r → ReadsPlace t.most r spectra wide row → ReadsNode t k d spectra wide row
node_read bounded laid fit t k d r spectra wide row is row_is reads f m u i st fits stream same stands lt =
    let there = row_is.there in
    reads i lt
    ∙ ap (λ xs. slice_index xs (own_place t.most r + i)) (sym same)
    ∙ stands r (omega arith) there i lt
    ∙ sum_is_plain fit bounded t.plan t.rows f m r (u + i) is.plan (laid t.plan is.plan).0 is.rows stream fits there
    ∙ sum_of_node t.plan t.rows f k d r (u + i) row_is

-- the row of the whole band of delay d, and where a pass stops after it
pub record IsShown (t : Tables) (pass : Passing) (d : ℕ) : Type 0 where
  pub has : HasRow (node_at (nodes_of t.plan) 0) d
  pub row : IsRow t.rows 0 d (band_row t.plan t.rows d)
  pub some : 0 < stop_at t pass (d + 1)
  pub rise : stop_at t pass d < stop_at t pass (d + 1)
  pub within : stop_at t pass (d + 1) ≤ length pass.schedule.orders
  pub order : (order_at pass.schedule.orders (stop_at t pass (d + 1) - 1)).row ≡ band_row t.plan t.rows d

pub is_shown : RowsAreNumbered → PlansAreLaid → (t : Tables) (pass : Passing) (m d : ℕ) → AreTables t →
    IsPassOf t m pass → HasRow (root t.plan) d → IsShown t pass d
is_shown numbered laid t pass m d is pass_is has =
    let laws = laid t.plan is.plan in
    let count = laws.0.count in
    let few = laws.0.band.few in
    let from = has.least in
    let to = has.most in
    let stops = pass.stops.items in
    let orders = pass.schedule.orders in
    let there : HasRow (node_at (nodes_of t.plan) 0) d = subst (λ (n : Node). HasRow n d) (sym laws.1) has in
    let row = kept_row numbered t.plan t.rows (nodes_of t.plan) 0 d refl laws.0 is.rows (omega arith) there in
    let stop = pass_is.stops.each (d - t.plan.first) (omega arith) in
    let next : d - t.plan.first + 1 ≡ d + 1 - t.plan.first = omega arith in
    let delay : t.plan.first + (d - t.plan.first) ≡ d = omega arith in
    let rise : stop_at t pass d < stop_at t pass (d + 1) =
    subst (λ n. slice_index stops (d - t.plan.first) < slice_index stops n) next stop.rise in
    record {
      has = there;
      row = row.row;
      some = omega arith;
      rise = rise;
      within = subst (λ n. slice_index stops n ≤ length orders) next stop.within;
      order = ap (λ n. (order_at orders (slice_index stops n - 1)).row) (sym next)
          ∙ stop.shown ∙ ap (λ e. band_row t.plan t.rows e) delay;
    }

-- so it is with the order before that stop, which has 32 bits
pub shows_row : RowsAreNumbered → PlansAreLaid → (t : Tables) (pass : Passing) (m d : ℕ) → AreTables t →
    IsPassOf t m pass → HasRow (root t.plan) d →
    (0 < stop_at t pass (d + 1)) × ShowsRow t pass d (stop_at t pass (d + 1) - 1)
shows_row numbered laid t pass m d is pass_is has =
    let shown = is_shown numbered laid t pass m d is pass_is has in
    let orders = pass.schedule.orders in
    let some = shown.some in
    let within = shown.within in
    let rise = shown.rise in (
      some,
      record {
        within = omega arith;
        before = omega arith;
        stop = omega arith;
        row = shown.order;
        is_row = shown.row;
        width = not_true _ (λ yes.
            let narrow : is_narrow pass.schedule.narrow (band_row t.plan t.rows d) ≡ true =
            subst (λ (r : ℕ). is_narrow pass.schedule.narrow r ≡ true) shown.order yes in
            pass_is.parts (band_row t.plan t.rows d) narrow shown.row.node);
      },
    )

pub band_read : RowsAddUp → RowsAreBounded → BandRowsArePathSums → PlansAreLaid → SplitsFit → (t : Tables)
    (pass : Passing) (d order spectra : ℕ) (wide row : List ℕ) → AreTables t → HasRow (root t.plan) d →
    ShowsRow t pass d order → ReadsRow t.rows.rows pass.schedule order spectra wide row →
    ReadsBand t pass d spectra wide row
band_read adds bounded paths laid fit t pass d order spectra wide row is has shows reads f m u k st fits stream same
    stands lt =
    let y = table_sums t f in
    let r : ℕ = band_row t.plan t.rows d in
    let stop = shows.stop in
    let last : stop_at t pass (d + 1) - 1 ≡ order = omega arith in
    reads f.value y u k st (adds t.plan t.rows f is.plan is.rows stream.channels) same
    (subst (λ (j : ℕ). Stands t.rows.rows pass.schedule y u spectra st j) last stands) lt
    ∙ ap (λ n. y n (u + k) 0 % 2 ^ 32) shows.row
    ∙ sum_is_plain fit bounded t.plan t.rows f m r (u + k) is.plan (laid t.plan is.plan).0 is.rows stream fits
    shows.is_row.there
    ∙ paths t.plan t.rows f d (u + k) is.plan is.rows stream.channels has

-- at a stop a pass has come to a row of the whole band
pub before_at_stop : RowsAreNumbered → PlansAreLaid → (t : Tables) (pass : Passing) (m d : ℕ) → AreTables t →
    IsPassOf t m pass → t.plan.first ≤ d → d ≤ t.plan.last + 1 → IsBefore t pass d (stop_at t pass d)
before_at_stop numbered laid t pass m d is pass_is from within = record {
  from = omega arith;
  to = λ to. (is_shown numbered laid t pass m d is pass_is (record { least = from; most = to })).rise;
  end = λ past.
      let order = is.plan.order in
      ap (λ (i : ℕ). slice_index pass.stops.items i)
      (let e : d - t.plan.first ≡ t.plan.last - t.plan.first + 1 = omega arith in e)
      ∙ pass_is.stops.last;
}
