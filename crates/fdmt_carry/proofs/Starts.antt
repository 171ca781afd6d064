-- Where the rows of nodes begin.
use Rattle.std.proofs.Common.{◌≡◌, ℕ, ◌+◌, ◌-◌, ◌<◌, ◌≤◌, List, length, arith, ap, ◌∙◌, subst}
use Rattle.subband_plan.specs.declared.nodes.Node.{Node}
use Rattle.subband_plan.specs.declared.rows.PlanRows.{PlanRows}
use Rattle.subband_plan.specs.Nodes.{BandPlan, HasRow, HasKept, least_row, nodes_of, node_at}
use Rattle.subband_plan.specs.NodeLaws.{AreLaid}
use Rattle.subband_plan.specs.RowLaws.{RowsAreNumbered}
use Rattle.subband_plan.specs.Rows.{ArePlanRows, IsRow, all_rows, node_of, row_at}
use Rattle.fdmt_carry.specs.Orders.{start_of, place_of}

-- a row of a node that is kept, with its number
pub record IsKeptRow (p : BandPlan) (rows : PlanRows) (k d : ℕ) : Type 0 where
  pub least : least_row (node_at (nodes_of p) k) ≤ d
  pub row : IsRow rows k d (row_at (nodes_of p) rows.starts.items k d)
  pub to : row_at (nodes_of p) rows.starts.items k d < start_of rows (k + 1)

pub kept_row : RowsAreNumbered → (p : BandPlan) (rows : PlanRows) (nodes : List Node) (k d : ℕ) → nodes ≡ nodes_of p →
    AreLaid p.edges nodes → ArePlanRows p rows → k < length (nodes_of p) → HasRow (node_at (nodes_of p) k) d →
    IsKeptRow p rows k d
kept_row numbered p rows nodes k d all laid is node has =
    let numbers = numbered p.edges (nodes_of p) rows.starts.items
    (subst (λ (nodes : List Node). AreLaid p.edges nodes) all laid) is.starts in
    let kept = numbers.kept k d has in
    record {
      least = kept.least;
      row = is.row k d node kept;
      to = numbers.above k d node kept;
    }

-- the number of a node's first row is not above that of the row after its last, nor this above all
pub record IsStart (rows : PlanRows) (k : ℕ) : Type 0 where
  pub next : start_of rows k ≤ start_of rows (k + 1)
  pub within : start_of rows (k + 1) ≤ all_rows rows

pub is_start : RowsAreNumbered → (p : BandPlan) (rows : PlanRows) (nodes : List Node) (k : ℕ) → nodes ≡ nodes_of p →
    AreLaid p.edges nodes → ArePlanRows p rows → k < length (nodes_of p) → IsStart rows k
is_start numbered p rows nodes k all laid is node =
    let numbers = numbered p.edges (nodes_of p) rows.starts.items
    (subst (λ (nodes : List Node). AreLaid p.edges nodes) all laid) is.starts in
    let count = is.count in
    let last = numbers.rise (k + 1) (length (nodes_of p)) (omega arith) (omega arith) in
    record {
      next = numbers.rise k (k + 1) (omega arith) (omega arith);
      within = omega arith;
    }

pub place_is : (rows : PlanRows) (k r count next start : ℕ) → count ≡ all_rows rows → next ≡ start_of rows (k + 1) →
    start ≡ start_of rows k → count - next + (r - start) ≡ place_of rows k r
unfolding place_of
place_is rows k r count next start count_is next_is start_is =
    ap (λ n. n - next + (r - start)) count_is
    ∙ ap (λ n. all_rows rows - n + (r - start)) next_is
    ∙ ap (λ n. all_rows rows - start_of rows (k + 1) + (r - n)) start_is

pub number_is : (p : BandPlan) (rows : PlanRows) (k d start least : ℕ) → start ≡ start_of rows k →
    least ≡ least_row (node_at (nodes_of p) k) →
    start + (d - least) ≡ row_at (nodes_of p) rows.starts.items k d
number_is p rows k d start least start_is least_is =
    ap (λ n. n + (d - least)) start_is ∙ ap (λ n. start_of rows k + (d - n)) least_is

-- row r is one of node k
pub record IsOf (rows : PlanRows) (k r : ℕ) : Type 0 where
  pub there : r < all_rows rows
  pub node : node_of rows r ≡ k

-- where its number is not below that of the node's first row, and below that of the next node's
pub row_is_of : RowsAreNumbered → (p : BandPlan) (rows : PlanRows) (k r : ℕ) → AreLaid p.edges (nodes_of p) →
    ArePlanRows p rows → k < length (nodes_of p) → start_of rows k ≤ r → r < start_of rows (k + 1) → IsOf rows k r
row_is_of numbered p rows k r laid is node from to =
    let n = node_at (nodes_of p) k in
    let d : ℕ = least_row n + (r - start_of rows k) in
    let next = is.starts.next k node in
    let kept : HasKept n d = record { least = omega arith; most = omega arith } in
    let row = is.row k d node kept in
    let number : row_at (nodes_of p) rows.starts.items k d ≡ r = omega arith in
    let there : IsRow rows k d r = subst (λ (r : ℕ). IsRow rows k d r) number row in
    record { there = there.there; node = there.node }

-- and each row is one of a node
pub record IsAmong (p : BandPlan) (rows : PlanRows) (r : ℕ) : Type 0 where
  pub node : node_of rows r < length (nodes_of p)
  pub from : start_of rows (node_of rows r) ≤ r
  pub to : r < start_of rows (node_of rows r + 1)

pub row_is_among : (p : BandPlan) (rows : PlanRows) (r : ℕ) → ArePlanRows p rows → r < all_rows rows →
    IsAmong p rows r
row_is_among p rows r is there =
    let label = is.label r there in
    let next = is.starts.next (node_of rows r) label.node in
    let number = label.number in
    let least = label.kept.least in
    let most = label.kept.most in
    record { node = label.node; from = omega arith; to = omega arith }
