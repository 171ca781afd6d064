-- Where a pass stops.
use Rattle.std.proofs.Common.{◌≡◌, ℕ, ◌+◌, ◌-◌, ◌<◌, ◌≤◌, List, [], ◌∷◌, ◌++◌, length, slice_index, arith, ap, sym, ◌∙◌, subst, refl, inl, inr}
use Rattle.std.proofs.Math.ListN.{get_or-append}
use Rattle.std.proofs.Math.Seq.{get_or-append_seam}
use Rattle.std.proofs.lemmas.Bool.{cases_lt}
use Rattle.std.proofs.lemmas.List.{length_push}
use Rattle.row_schedule.specs.declared.builder.Order.{Order}
use Rattle.row_schedule.specs.Orders.{order_at}
use Rattle.subband_plan.specs.declared.nodes.Node.{Node}
use Rattle.subband_plan.specs.declared.rows.PlanRows.{PlanRows}
use Rattle.subband_plan.specs.Nodes.{BandPlan, IsPlan, HasRow, root, nodes_of, node_at}
use Rattle.subband_plan.specs.NodeLaws.{AreLaid}
use Rattle.subband_plan.specs.RowLaws.{RowsAreNumbered}
use Rattle.subband_plan.specs.Rows.{ArePlanRows, all_rows}
use Rattle.fdmt_carry.specs.Orders.{ArePlain, AreStops, IsStop, band_row, in_own_slot, place_of}
use Rattle.fdmt_carry.proofs.Starts.{is_start, kept_row}

-- the rows of the whole band of the delays from the first one on, up to d, are shown
abbrev pub AreShown : BandPlan → PlanRows → List Order → List ℕ → ℕ → ℕ → Type 0
AreShown p rows orders stops first d = (i : ℕ) → first + i < d →
    IsStop orders stops i (band_row p rows (first + i))

pub shown_more : (p : BandPlan) (rows : PlanRows) (orders : List Order) (stops : List ℕ) (first d r : ℕ) →
    AreShown p rows orders stops first d → first ≤ d → r ≡ band_row p rows d →
    IsStop orders stops (d - first) r → AreShown p rows orders stops first (d + 1)
shown_more p rows orders stops first d r shown from row stop i lt = elim (cases_lt (first + i) d) [
  | inl before ↦ shown i before
  | inr now ↦
      let place : d - first ≡ i = omega arith in
      let delay : d ≡ first + i = omega arith in
      subst (λ (e : ℕ). IsStop orders stops i (band_row p rows e)) delay
      (subst (λ (i : ℕ). IsStop orders stops i (band_row p rows d)) place
      (subst (λ (r : ℕ). IsStop orders stops (d - first) r) row stop))
]

-- in the plain order it is known where to stop after the rows of the whole band of the delays before d
pub record ArePlainStops (p : BandPlan) (rows : PlanRows) (first d : ℕ) (stops : List ℕ) : Type 0 where
  pub entries : length stops + first ≡ d + 1
  pub none : slice_index stops 0 ≡ 0
  pub each : (i : ℕ) → first + i < d →
      slice_index stops (i + 1) ≡ place_of rows 0 (band_row p rows (first + i)) + 1

pub stops_begin : (p : BandPlan) (rows : PlanRows) (first : ℕ) → ArePlainStops p rows first first (0 ∷ [])
stops_begin p rows first = record {
  entries = omega arith;
  none = refl;
  each = λ i lt. absurd (omega arith);
}

pub stops_more : (p : BandPlan) (rows : PlanRows) (first d place r : ℕ) (stops : List ℕ) →
    ArePlainStops p rows first d stops → first ≤ d → r ≡ band_row p rows d → place ≡ place_of rows 0 r →
    ArePlainStops p rows first (d + 1) (stops ++ (place + 1) ∷ [])
stops_more p rows first d place r stops so_far from row place_is =
    let size = length_push stops (place + 1) in
    let entries = so_far.entries in
    record {
      entries = omega arith;
      none = get_or-append stops ((place + 1) ∷ []) 0 0 (omega arith) ∙ so_far.none;
      each = λ i lt. elim (cases_lt (first + i) d) [
        | inl before ↦ get_or-append stops ((place + 1) ∷ []) 0 (i + 1) (omega arith) ∙ so_far.each i before
        | inr now ↦
            let at : i + 1 ≡ length stops = omega arith in
            let delay : d ≡ first + i = omega arith in
            ap (λ n. slice_index (stops ++ (place + 1) ∷ []) n) at
            ∙ get_or-append_seam stops (place + 1) [] 0
            ∙ ap (λ n. n + 1) (place_is ∙ ap (λ n. place_of rows 0 n) (row ∙ ap (λ e. band_row p rows e) delay))
      ];
    }

-- the rows of the whole band come last
pub band_place : RowsAreNumbered → (p : BandPlan) (rows : PlanRows) (d : ℕ) → node_at (nodes_of p) 0 ≡ root p →
    0 < length (nodes_of p) → AreLaid p.edges (nodes_of p) → ArePlanRows p rows → p.first ≤ d → d ≤ p.last →
    place_of rows 0 (band_row p rows d) + 1 + (p.last - d) ≡ all_rows rows
unfolding place_of
band_place numbered p rows d band some laid is from to =
    let has : HasRow (node_at (nodes_of p) 0) d =
    subst (λ (n : Node). HasRow n d) (sym band) (record { least = from; most = to }) in
    let least = (kept_row numbered p rows (nodes_of p) 0 d refl laid is some has).least in
    let next = is.starts.next 0 some in
    let last : (node_at (nodes_of p) 0).last_row ≡ p.last = ap (λ (n : Node). n.last_row) band in
    let within = (is_start numbered p rows (nodes_of p) 0 refl laid is some).within in
    let first = is.starts.first in
    omega arith

pub plain_stops_are : RowsAreNumbered → (p : BandPlan) (rows : PlanRows) (orders : List Order) (stops : List ℕ) →
    IsPlan p → node_at (nodes_of p) 0 ≡ root p → 0 < length (nodes_of p) → AreLaid p.edges (nodes_of p) →
    ArePlanRows p rows → ArePlainStops p rows p.first (p.last + 1) stops → ArePlain p rows orders →
    AreStops p rows orders stops
plain_stops_are numbered p rows orders stops plan band some laid is all plain =
    let order = plan.order in
    let entries = all.entries in
    let orders_are = plain.entries in
    record {
      entries = omega arith;
      first = all.none;
      last =
          let stop = all.each (p.last - p.first) (omega arith) in
          let place = place_at (p.first + (p.last - p.first)) (omega arith) (omega arith) in
          omega arith;
      each = λ i few.
          let stop = all.each i (omega arith) in
          let place = place_at (p.first + i) (omega arith) (omega arith) in
          record {
            rise = elim (cases_lt 0 i) [
              | inl later ↦
                  let back : i - 1 + 1 ≡ i = omega arith in
                  let delay : p.first + (i - 1) + 1 ≡ p.first + i = omega arith in
                  let before : slice_index stops i ≡ place_of rows 0 (band_row p rows (p.first + (i - 1))) + 1 =
                  ap (λ n. slice_index stops n) (sym back) ∙ all.each (i - 1) (omega arith) in
                  let place_before = place_at (p.first + (i - 1)) (omega arith) (omega arith) in
                  omega arith
              | inr first ↦
                  let none : slice_index stops i ≡ 0 =
                  ap (λ n. slice_index stops n) (let e : i ≡ 0 = omega arith in e) ∙ all.none in
                  omega arith
            ];
            within = omega arith;
            shown =
                let at : slice_index stops (i + 1) - 1 ≡ place_of rows 0 (band_row p rows (p.first + i)) =
                omega arith in
                ap (λ n. (order_at orders n).row) at
                ∙ ap (λ (o : Order). o.row) (row_at_place (p.first + i) (omega arith) (omega arith));
          };
    }
  where
    place_at : (d : ℕ) → p.first ≤ d → d ≤ p.last →
        place_of rows 0 (band_row p rows d) + 1 + (p.last - d) ≡ all_rows rows
    place_at d from to = band_place numbered p rows d band some laid is from to

    row_at_place : (d : ℕ) → p.first ≤ d → d ≤ p.last →
        order_at orders (place_of rows 0 (band_row p rows d)) ≡ in_own_slot (band_row p rows d)
    row_at_place d from to =
        let has : HasRow (node_at (nodes_of p) 0) d =
        subst (λ (n : Node). HasRow n d) (sym band) (record { least = from; most = to }) in
        let row = kept_row numbered p rows (nodes_of p) 0 d refl laid is some has in
        plain.each 0 (band_row p rows d) some (omega arith) row.to
