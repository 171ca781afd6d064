-- The plain order, row by row.
use Rattle.std.proofs.Common.{◌≡◌, ◌≢◌, ℕ, ◌+◌, ◌<◌, ◌≤◌, false, Bool, List, [], ◌∷◌, ◌++◌, Some, length, replicate, slice_get, arith, ap, sym, ◌∙◌, subst, refl, inl, inr}
use Rattle.std.proofs.lemmas.Bool.{cases_lt, false≢true}
use Rattle.std.proofs.lemmas.Bool.Decides.{eqb_tells}
use Rattle.std.proofs.lemmas.List.{length_push, length-replicate}
use Rattle.row_model.specs.declared.Merge.{Merge}
use Rattle.row_model.specs.declared.Source.TheVariants.{Sum}
use Rattle.row_schedule.specs.declared.builder.Order.{Order}
use Rattle.row_schedule.specs.Orders.{AreInOrder, IsReady, MakeAll, is_made, order_at}
use Rattle.subband_plan.specs.declared.rows.PlanRows.{PlanRows}
use Rattle.subband_plan.specs.Nodes.{BandPlan, IsPlan, nodes_of}
use Rattle.subband_plan.specs.NodeLaws.{AreLaid}
use Rattle.subband_plan.specs.RowLaws.{RowsAreNumbered, RowsComeAfter}
use Rattle.subband_plan.specs.Rows.{ArePlanRows, all_rows, node_of}
use Rattle.fdmt_carry.specs.Orders.{ArePlain, AreWide, IsPlainlyMade, start_of, place_of, in_own_slot}
use Rattle.fdmt_carry.specs.Plain.{AreMadePlainly, IsFrom, IsPlaced, NodesAreMade}
use Rattle.fdmt_carry.proofs.Narrow.{not_true, none_narrow}
use Rattle.fdmt_carry.proofs.Orders.{order_before, order_last, made_last, made_more, held_last, held_more, in_order_more}
use Rattle.fdmt_carry.proofs.Starts.{IsOf, is_start, row_is_of, row_is_among}

-- row s is one of node k before row r, or one of a node after node k
pub record IsDone (rows : PlanRows) (k r s : ℕ) : Type 0 where
  pub there : s < all_rows rows
  pub node : k ≤ node_of rows s
  pub before : node_of rows s ≡ k → s < r

-- the rows of node k before row r are made, and those of all nodes after it
pub record NodeIsMade (p : BandPlan) (rows : PlanRows) (k r : ℕ) (orders : List Order) : Type 0 where
  pub entries : length orders + start_of rows (k + 1) + start_of rows k ≡ all_rows rows + r
  pub rows_are : AreMadePlainly p rows (IsDone rows k r) orders

-- which rows are made may be said in another way
same_done : (p : BandPlan) (rows : PlanRows) (one other : ℕ → Type 0) (orders : List Order) →
    ((r : ℕ) → one r → other r) → ((r : ℕ) → other r → one r) → AreMadePlainly p rows one orders →
    AreMadePlainly p rows other orders
same_done p rows one other orders there back made = record {
  made = λ r done. made.made r (back r done);
  only = λ r is. there r (made.only r is);
  own = λ r done. made.own r (back r done);
  each = λ k r node from to done. made.each k r node from to (back r done);
  in_order = made.in_order;
}

-- before the first row of a node
pub node_begins : (p : BandPlan) (rows : PlanRows) (k : ℕ) (orders : List Order) → ArePlanRows p rows →
    NodesAreMade p rows (k + 1) orders → NodeIsMade p rows k (start_of rows k) orders
node_begins p rows k orders is made =
    let size = made.entries in
    record {
      entries = omega arith;
      rows_are = same_done p rows (IsFrom rows (k + 1)) (IsDone rows k (start_of rows k)) orders
          (λ s from. record {
            there = from.0;
            node = let after = from.1 in omega arith;
            before = λ same. absurd (let after = from.1 in omega arith);
          })
          (λ s done. (
            done.there,
            elim (cases_lt k (node_of rows s)) [
              | inl after ↦ omega arith
              | inr not_after ↦
                  let node = done.node in
                  let same : node_of rows s ≡ k = omega arith in
                  let lt = done.before same in
                  let first : start_of rows k ≤ s = subst (λ (k : ℕ). start_of rows k ≤ s) same
                  (row_is_among p rows s is done.there).from in
                  absurd (omega arith)
            ],
          ))
          made.rows_are;
    }

-- and after its last
pub node_ends : (p : BandPlan) (rows : PlanRows) (k r : ℕ) (orders : List Order) → ArePlanRows p rows →
    r ≡ start_of rows (k + 1) → NodeIsMade p rows k r orders → NodesAreMade p rows k orders
node_ends p rows k r orders is end made =
    let size = made.entries in
    record {
      entries = omega arith;
      rows_are = same_done p rows (IsDone rows k r) (IsFrom rows k) orders
          (λ s done. (done.there, done.node))
          (λ s from. record {
            there = from.0;
            node = from.1;
            before = λ same.
                let lt : s < start_of rows (k + 1) = subst (λ (k : ℕ). s < start_of rows (k + 1)) same
                (row_is_among p rows s is from.0).to in
                omega arith;
          })
          made.rows_are;
    }

-- a row that row r is made of was made before it
below_done : RowsComeAfter → (p : BandPlan) (rows : PlanRows) (k r : ℕ) (m : Merge) → IsPlan p → ArePlanRows p rows →
    IsOf rows k r → slice_get rows.rows.sources.items r ≡ Some (Sum m) →
    IsDone rows k r m.upper × IsDone rows k r m.lower
below_done come p rows k r m plan is of source =
    let below = come p rows r m plan is source in
    let within = is.are_rows.merge r m source in
    let node = of.node in
    let upper = below.upper.node in
    let lower = below.lower.node in (
      record {
        there = within.upper;
        node = omega arith;
        before = λ same. below.upper.before (same ∙ sym node);
      },
      record {
        there = within.lower;
        node = omega arith;
        before = λ same. below.lower.before (same ∙ sym node);
      },
    )

row_ready : RowsComeAfter → (p : BandPlan) (rows : PlanRows) (k r : ℕ) (orders : List Order)
    (narrow slots : List Bool) → IsPlan p → ArePlanRows p rows → IsOf rows k r → AreWide narrow → AreWide slots →
    all_rows rows ≤ length slots → AreMadePlainly p rows (IsDone rows k r) orders →
    IsReady rows.rows narrow slots orders (length orders) (in_own_slot r)
row_ready come p rows k r orders narrow slots plan is of wide wide_slots room made =
    let there = of.there in
    record {
      row = there;
      slot = omega arith;
      width = wide_slots r ∙ sym (wide r);
      once = not_true (is_made orders (length orders) r)
          (λ yes. let done = made.only r yes in let lt = done.before of.node in omega arith);
      upper = λ m source.
          let done = (below_done come p rows k r m plan is of source).0 in
          let lt = (come p rows r m plan is source).upper.before in (
            m.upper,
            made.own m.upper done,
            λ same.
                let less = done.before (ap (λ s. node_of rows s) same ∙ of.node) in omega arith,
          );
      lower = λ m source.
          let done = (below_done come p rows k r m plan is of source).1 in (
            m.lower,
            made.own m.lower done,
            λ same.
                let less = done.before (ap (λ s. node_of rows s) same ∙ of.node) in omega arith,
          );
      narrow_sums = λ m source. record {
        upper = λ yes. absurd (false≢true (sym (wide r) ∙ yes));
        lower = λ yes. absurd (false≢true (sym (wide r) ∙ yes));
      };
    }

place_next : (rows : PlanRows) (k r n : ℕ) → start_of rows k ≤ r → start_of rows (k + 1) ≤ all_rows rows →
    n + start_of rows (k + 1) + start_of rows k ≡ all_rows rows + r → place_of rows k r ≡ n
unfolding place_of
place_next rows k r n from within entries = omega arith

placed_more : (rows : PlanRows) (orders : List Order) (o : Order) (k r : ℕ) → IsPlaced rows orders k r →
    IsPlaced rows (orders ++ o ∷ []) k r
placed_more rows orders o k r placed =
    let size = length_push orders o in
    let within = placed.within in
    record {
      within = omega arith;
      order = order_before orders o (place_of rows k r) within ∙ placed.order;
    }

placed_last : (rows : PlanRows) (orders : List Order) (k r : ℕ) → place_of rows k r ≡ length orders →
    IsPlaced rows (orders ++ in_own_slot r ∷ []) k r
placed_last rows orders k r place =
    let size = length_push orders (in_own_slot r) in
    record {
      within = omega arith;
      order = ap (λ n. order_at (orders ++ in_own_slot r ∷ []) n) place ∙ order_last orders (in_own_slot r);
    }

-- row s was made, or is row r
done_or_last : (rows : PlanRows) (k r s : ℕ) → IsDone rows k (r + 1) s → (s ≢ r) → IsDone rows k r s
done_or_last rows k r s done other = record {
  there = done.there;
  node = done.node;
  before = λ same. let lt = done.before same in let no : s ≢ r = other in omega arith;
}

-- one row more
pub row_more : RowsAreNumbered → RowsComeAfter → (p : BandPlan) (rows : PlanRows) (k r : ℕ) (orders : List Order) →
    IsPlan p → AreLaid p.edges (nodes_of p) → ArePlanRows p rows → k < length (nodes_of p) → start_of rows k ≤ r →
    r < start_of rows (k + 1) → start_of rows (k + 1) ≤ all_rows rows → NodeIsMade p rows k r orders →
    NodeIsMade p rows k (r + 1) (orders ++ in_own_slot r ∷ [])
row_more numbered come p rows k r orders plan laid is node from to within made =
    let of = row_is_of numbered p rows k r laid is node from to in
    let size = length_push orders (in_own_slot r) in
    let entries = made.entries in
    let before = made.rows_are in
    record {
      entries = omega arith;
      rows_are = record {
        made = λ s done. elim (eqb_tells r s) [
          | inl same ↦ made_last orders (in_own_slot r) s same.1
          | inr other ↦ made_more orders (in_own_slot r) s other.1
              ∙ before.made s (done_or_last rows k r s done (λ e. other.1 (sym e)))
        ];
        only = λ s yes. elim (eqb_tells r s) [
          | inl same ↦ last_done s same.1
          | inr other ↦ longer s (before.only s (sym (made_more orders (in_own_slot r) s other.1) ∙ yes))
        ];
        own = λ s done. elim (eqb_tells r s) [
          | inl same ↦ held_last orders (in_own_slot r) s same.1 ∙ ap (λ s. Some s) same.1
          | inr other ↦ held_more orders (in_own_slot r) s other.1
              ∙ before.own s (done_or_last rows k r s done (λ e. other.1 (sym e)))
        ];
        each = λ k' s node' from' to' done. elim (eqb_tells r s) [
          | inl same ↦
              let there = row_is_of numbered p rows k' s laid is node' from' to' in
              let node_is : k ≡ k' = sym of.node ∙ ap (λ s. node_of rows s) same.1 ∙ there.node in
              subst (λ (s : ℕ). IsPlaced rows (orders ++ in_own_slot r ∷ []) k' s) same.1
              (subst (λ (k : ℕ). IsPlaced rows (orders ++ in_own_slot r ∷ []) k r) node_is
              (placed_last rows orders k r (place_next rows k r (length orders) from within entries)))
          | inr other ↦ placed_more rows orders (in_own_slot r) k' s
              (before.each k' s node' from' to' (done_or_last rows k r s done (λ e. other.1 (sym e))))
        ];
        in_order = λ narrow slots wide wide_slots room.
            in_order_more rows.rows narrow slots orders (in_own_slot r)
            (before.in_order narrow slots wide wide_slots room)
            (row_ready come p rows k r orders narrow slots plan is of wide wide_slots room before);
      };
    }
  where
    last_done : (s : ℕ) → r ≡ s → IsDone rows k (r + 1) s
    last_done s same =
        let of = row_is_of numbered p rows k r laid is node from to in
        let there = of.there in
        subst (λ (s : ℕ). IsDone rows k (r + 1) s) same
        (record { there = there; node = let e = of.node in omega arith; before = λ _. omega arith })

    longer : (s : ℕ) → IsDone rows k r s → IsDone rows k (r + 1) s
    longer s done = record {
      there = done.there;
      node = done.node;
      before = λ same. let lt = done.before same in omega arith;
    }

-- all rows
pub all_made : RowsAreNumbered → (p : BandPlan) (rows : PlanRows) (orders : List Order) → AreLaid p.edges (nodes_of p) →
    ArePlanRows p rows → NodesAreMade p rows 0 orders → ArePlain p rows orders × IsPlainlyMade rows orders
all_made numbered p rows orders laid is made =
    let first = is.starts.first in
    let entries = made.entries in
    let all = made.rows_are in (
      record {
        entries = omega arith;
        each = λ k r node from to.
            (all.each k r node from to (of_row k r node to, omega arith)).order;
        own = λ r there. all.own r (there, omega arith);
      },
      record {
        in_order = all.in_order;
        all = λ r there. all.made r (there, omega arith);
      },
    )
  where
    of_row : (k r : ℕ) → k < length (nodes_of p) → r < start_of rows (k + 1) → r < all_rows rows
    of_row k r node to =
        let within = (is_start numbered p rows (nodes_of p) k refl laid is node).within in
        omega arith

-- and none yet
pub none_made : (p : BandPlan) (rows : PlanRows) → ArePlanRows p rows → NodesAreMade p rows (length (nodes_of p)) []
unfolding is_made
none_made p rows is =
    let count = is.count in
    record {
      entries = omega arith;
      rows_are = record {
        made = λ r from. absurd (never r from);
        only = λ r yes. absurd (false≢true yes);
        own = λ r from. absurd (never r from);
        each = λ k r node first to from. absurd (never r from);
        in_order = λ narrow slots wide wide_slots room j lt. absurd (omega arith);
      };
    }
  where
    never : (r : ℕ) → IsFrom rows (length (nodes_of p)) r → ⊥
    never r from = let among = (row_is_among p rows r is from.0).node in let after = from.1 in omega arith

-- orders in the plain order can be carried out, and make all rows
pub plainly_made : (rows : PlanRows) (orders : List Order) (n : ℕ) (narrow slots : List Bool) → n ≡ length orders →
    narrow ≡ replicate n false → slots ≡ replicate n false → length orders ≡ all_rows rows →
    IsPlainlyMade rows orders → AreInOrder rows.rows narrow slots orders × MakeAll rows.rows orders
plainly_made rows orders n narrow slots size narrow_is slots_are entries made =
    let room : length slots ≡ n = ap length slots_are ∙ length-replicate n false in (
      made.in_order narrow slots (none_narrow n narrow narrow_is) (none_narrow n slots slots_are) (omega arith),
      λ r there some. made.all r there,
    )
