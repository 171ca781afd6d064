-- Rows of the whole band that are left out.
use Rattle.std.proofs.Common.{◌≡◌, ℕ, ◌+◌, ◌<◌, List, Option, Some, None, IfSome, slice_get, arith, ap, sym, ◌∙◌, subst, inl, inr}
use Rattle.std.proofs.lemmas.Bool.{cases_lt}
use Rattle.std.proofs.lemmas.Option.{same_Some, slice_get_within}
use Rattle.row_model.specs.declared.Rows.{Rows}
use Rattle.row_model.specs.declared.Source.{Source}
use Rattle.row_model.specs.Sums.{Sums, AddUp, Fit}
use Rattle.row_schedule.specs.declared.halves.Halves.{Halves}
use Rattle.row_schedule.specs.Follows.{Follows}
use Rattle.row_schedule.specs.Halves.{half_sum}
use Rattle.search_model.specs.Samples.{Filterbank}
use Rattle.row_schedule.specs.Laws.{LastRowsAreLeftOut}
use Rattle.row_schedule.specs.Orders.{order_at}
use Rattle.row_schedule.specs.Running.{Stores, IsLast, Running}
use Rattle.row_schedule.specs.Schedules.{Scheduled}
use Rattle.subband_plan.specs.declared.rows.PlanRows.{PlanRows}
use Rattle.subband_plan.specs.Nodes.{BandPlan, HasRow, root}
use Rattle.subband_plan.specs.Rows.{all_rows}
use Rattle.subband_plan.specs.Values.{BandRowsArePathSums, RowsAddUp, RowsAreBounded}
use Rattle.fdmt_carry.specs.declared.passing.Passing.{Passing}
use Rattle.fdmt_carry.specs.Leaving.{AreMadeOfLater, IsMadeOfLater, KeepNothing}
use Rattle.fdmt_carry.specs.Making.{AddUpToRow, CanLeaveOut, ShowsRow}
use Rattle.fdmt_carry.specs.Orders.{band_row}
use Rattle.fdmt_carry.specs.Passing.{BandRowsAreLast, HasDone, IsPassOf, stop_at}
use Rattle.fdmt_carry.specs.Tables.{Tables, AreTables, table_sums}
use Rattle.fdmt_carry.proofs.Running.{sums_fit}

-- one row more is made of later ones
pub later_more : (sources : List Source) (end count : ℕ) (source : Source) → AreMadeOfLater sources end count →
    slice_get sources end ≡ Some source → IsMadeOfLater source count → AreMadeOfLater sources (end + 1) count
later_more sources end count source later there made r m lt is = elim (cases_lt r end) [
  | inl before ↦ later r m before is
  | inr now ↦
      let at : end ≡ r = omega arith in
      made m (same_Some source _ (sym there ∙ ap (λ i. slice_get sources i) at ∙ is))
]

-- so no row is made of one of the whole band, and nothing is kept of one
pub band_rows_last : (p : BandPlan) (rows : PlanRows) (r : ℕ) → r ≡ band_row p rows p.last →
    KeepNothing rows.rows.tails.items (r + 1) → AreMadeOfLater rows.rows.sources.items (all_rows rows) (r + 1) →
    BandRowsAreLast p rows
band_rows_last p rows r is nothing later d from to =
    let before : band_row p rows d < r + 1 = omega arith in
    record {
      unused = λ used.
          let there = slice_get_within rows.rows.sources.items used.by _ used.source in
          let apart = later used.by used.merge there used.source in
          let upper = apart.upper in
          let lower = apart.lower in
          elim used.half [
            | inl same ↦ omega arith
            | inr same ↦ omega arith
          ];
      nothing_kept = nothing (band_row p rows d) before;
    }

-- the order of such a row is left out
pub left_out : LastRowsAreLeftOut → (t : Tables) (pass : Passing) (m d done : ℕ) → IsPassOf t m pass →
    CanLeaveOut t pass d done → (f : Filterbank) (u spectra : ℕ) (st : Stores) → HasDone t pass f u spectra done st →
    HasDone t pass f u spectra (stop_at t pass (d + 1)) st
unfolding LastRowsAreLeftOut
left_out leave t pass m d done is can f u spectra st before =
    let y = table_sums t f in
    let last : IsLast t.rows.rows (order_at pass.schedule.orders done).row =
    subst (λ (r : ℕ). IsLast t.rows.rows r) (sym can.shows.row) (is.last can.last d can.row.least can.row.most) in
    subst (λ (j : ℕ). Running t.rows.rows pass.schedule y u spectra j st) (sym can.shows.stop)
    (leave t.rows.rows pass.schedule y u spectra done st last before)

-- the sums of the halves of an order are its row, where the orders before it were carried out
abbrev pub AreHalves : Scheduled → ℕ → ℕ → Stores → Halves → Type 0
AreHalves s spectra order st halves = (rows : Rows) (x : ℕ → ℕ → ℕ) (y : Sums) (u k : ℕ) → Follows rows s →
    AddUp rows.sources.items x y → Fit s.narrow y (u + spectra) → Running rows s y u spectra order st →
    k < spectra → half_sum halves k ≡ y (order_at s.orders order).row (u + k) 0

-- so they are path sums where that is the row of the whole band
pub add_up_to_row : RowsAddUp → RowsAreBounded → BandRowsArePathSums → (t : Tables) (pass : Passing)
    (d order spectra : ℕ) (st : Stores) (halves : Halves) → AreTables t → HasRow (root t.plan) d →
    ShowsRow t pass d order → AreHalves pass.schedule spectra order st halves →
    AddUpToRow t pass d order spectra st halves
add_up_to_row adds bounded paths t pass d order spectra st halves is has shows are f m u k fit before lt =
    let y = table_sums t f in
    let channels = fit.channels in
    are t.rows.rows f.value y u k fit.pass_is.runs.follows (adds t.plan t.rows f is.plan is.rows channels)
    (sums_fit bounded t pass f m (u + spectra) is fit) before lt
    ∙ ap (λ (r : ℕ). y r (u + k) 0) shows.row
    ∙ paths t.plan t.rows f d (u + k) is.plan is.rows channels has

-- the same where there may be none
pub if_add_up : RowsAddUp → RowsAreBounded → BandRowsArePathSums → (t : Tables) (pass : Passing)
    (d order spectra : ℕ) (st : Stores) (halves : Option Halves) → AreTables t → HasRow (root t.plan) d →
    ShowsRow t pass d order → IfSome halves (AreHalves pass.schedule spectra order st) →
    IfSome halves (AddUpToRow t pass d order spectra st)
if_add_up adds bounded paths t pass d order spectra st None is has shows are = are
if_add_up adds bounded paths t pass d order spectra st (Some halves) is has shows are =
    add_up_to_row adds bounded paths t pass d order spectra st halves is has shows are
