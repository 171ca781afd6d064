-- The rows of all nodes, made node by node.
use Rattle.std.proofs.Common.{◌≡◌, ◌≢◌, ℕ, ◌+◌, ◌<◌, ◌≤◌, Bool, List, length, ap, arith, sym, ◌∙◌, subst, refl, inl, inr}
use Rattle.std.proofs.lemmas.Bool.{cases_lt, cases_eq}
use Rattle.row_model.specs.Sums.{Sums}
use Rattle.row_schedule.specs.Running.{Stores}
use Rattle.row_schedule.specs.Filling.{AreGiven, HasSources, IsOfOthers, StandsAtPlace, WroteWide}
use Rattle.subband_plan.specs.NodeLaws.{AreLaid}
use Rattle.subband_plan.specs.Nodes.{nodes_of}
use Rattle.subband_plan.specs.RowLaws.{IsBelow, RowsAreNumbered, RowsComeAfter}
use Rattle.subband_plan.specs.Rows.{all_rows, node_of}
use Rattle.fdmt_carry.specs.Orders.{start_of}
use Rattle.fdmt_carry.specs.Tables.{Tables, AreTables, RowsStand, node_count}
use Rattle.fdmt_carry.proofs.Rooms.{given_stays}
use Rattle.fdmt_carry.proofs.Starts.{row_is_among, row_is_of}

-- the rows of node k before row r stand, and those of the nodes after it
pub record NodeStands (t : Tables) (k r : ℕ) (y : Sums) (u spectra : ℕ) (wide : List ℕ) : Type 0 where
  pub before : (q : ℕ) → start_of t.rows k ≤ q → q < r → StandsAtPlace t.most y u spectra wide q
  pub after : RowsStand t (start_of t.rows (k + 1)) y u spectra wide

pub node_begins : (t : Tables) (k r u spectra : ℕ) (y : Sums) (wide : List ℕ) → r ≡ start_of t.rows k →
    RowsStand t (start_of t.rows (k + 1)) y u spectra wide → NodeStands t k r y u spectra wide
node_begins t k r u spectra y wide first after = record {
  before = λ q from to. absurd (omega arith);
  after = after;
}

pub node_ends : (t : Tables) (k r u spectra : ℕ) (y : Sums) (wide : List ℕ) → r ≡ start_of t.rows (k + 1) →
    NodeStands t k r y u spectra wide → RowsStand t (start_of t.rows k) y u spectra wide
node_ends t k r u spectra y wide last stands q from lt = elim (cases_lt q r) [
  | inl early ↦ stands.before q from early
  | inr late ↦ stands.after q (omega arith) lt
]

-- one row more
pub row_stands : (t : Tables) (k r u spectra : ℕ) (y : Sums) (old new : List ℕ) → r < start_of t.rows (k + 1) →
    StandsAtPlace t.most y u spectra new r →
    ((q : ℕ) → q ≢ r → StandsAtPlace t.most y u spectra old q → StandsAtPlace t.most y u spectra new q) →
    NodeStands t k r y u spectra old → NodeStands t k (r + 1) y u spectra new
row_stands t k r u spectra y old new to own others stands = record {
  before = λ q from lt. elim (cases_lt q r) [
    | inl early ↦ others q (λ e. absurd (omega arith)) (stands.before q from early)
    | inr last ↦
        let e : r ≡ q = omega arith in
        subst (λ q. StandsAtPlace t.most y u spectra new q) e own
  ];
  after = λ q from lt. others q (λ e. absurd (omega arith)) (stands.after q from lt);
}

-- a row is made of others
pub is_of_others : RowsComeAfter → (t : Tables) (r : ℕ) → AreTables t → IsOfOthers t.rows.rows r
is_of_others come t r is = record {
  upper = λ m made e. not_itself m.upper e (come t.plan t.rows r m is.plan is.rows made).upper;
  lower = λ m made e. not_itself m.lower e (come t.plan t.rows r m is.plan is.rows made).lower;
}
  where
    not_itself : (q : ℕ) → q ≡ r → IsBelow t.rows r q → ⊥
    not_itself q e below =
        let own : IsBelow t.rows r r = subst (λ q. IsBelow t.rows r q) e below in
        let past = own.before refl in
        omega arith

-- which stand before it is made
pub sources_stand : RowsAreNumbered → RowsComeAfter → (t : Tables) (k r u spectra : ℕ) (y : Sums) (wide : List ℕ) →
    AreLaid t.plan.edges (nodes_of t.plan) → AreTables t → node_of t.rows r ≡ k →
    NodeStands t k r y u spectra wide → HasSources t.rows.rows t.most y u spectra wide r
sources_stand numbered come t k r u spectra y wide laid is node stands = record {
  upper = λ m made. stood m.upper (come t.plan t.rows r m is.plan is.rows made).upper
      (is.rows.are_rows.merge r m made).upper;
  lower = λ m made. stood m.lower (come t.plan t.rows r m is.plan is.rows made).lower
      (is.rows.are_rows.merge r m made).lower;
}
  where
    stood : (q : ℕ) → IsBelow t.rows r q → q < all_rows t.rows → StandsAtPlace t.most y u spectra wide q
    stood q below there =
        let among = row_is_among t.plan t.rows q is.rows there in
        let from = among.from in
        let order = below.node in
        elim (cases_eq (node_of t.rows q) k) [
          | inl same ↦
              let start : start_of t.rows k ≤ q = subst (λ j. start_of t.rows j ≤ q) same from in
              stands.before q start (below.before (same ∙ sym node))
          | inr other ↦
              let past : k + 1 ≤ node_of t.rows q = elim (cases_lt k (node_of t.rows q)) [
                | inl less ↦ omega arith
                | inr not_less ↦ absurd (other (omega arith))
              ] in
              let number = among.node in
              let numbers = numbered t.plan.edges (nodes_of t.plan) t.rows.starts.items laid is.rows.starts in
              let rise = numbers.rise (k + 1) (node_of t.rows q) past (omega arith) in
              stands.after q (omega arith) there
        ]

-- node k is made up to row r
abbrev pub MakesBefore : Tables → List Bool → ℕ → ℕ → ℕ → List ℕ → Stores → Stores → Type 0
MakesBefore t narrow k r spectra samples old new = (x : ℕ → ℕ → ℕ) (y : Sums) (u : ℕ) →
    AreGiven t.rows.rows narrow x y u t.chunk spectra samples old →
    RowsStand t (start_of t.rows (k + 1)) y u spectra old.wide → NodeStands t k r y u spectra new.wide

-- a row was made at its place
abbrev pub FillsRow : Tables → List Bool → ℕ → ℕ → List ℕ → Stores → Stores → Type 0
FillsRow t narrow r spectra samples old new = (x : ℕ → ℕ → ℕ) (y : Sums) (u : ℕ) →
    AreGiven t.rows.rows narrow x y u t.chunk spectra samples old →
    HasSources t.rows.rows t.most y u spectra old.wide r → StandsAtPlace t.most y u spectra new.wide r

abbrev pub LeavesOthers : Tables → ℕ → ℕ → Stores → Stores → Type 0
LeavesOthers t r spectra old new = (y : Sums) (u q : ℕ) → q ≢ r → StandsAtPlace t.most y u spectra old.wide q →
    StandsAtPlace t.most y u spectra new.wide q

pub makes_more : RowsAreNumbered → RowsComeAfter → (t : Tables) (narrow : List Bool) (k r spectra : ℕ)
    (samples : List ℕ) (old mid new : Stores) → AreLaid t.plan.edges (nodes_of t.plan) → AreTables t →
    k < node_count t → start_of t.rows k ≤ r → r < start_of t.rows (k + 1) → WroteWide old mid →
    FillsRow t narrow r spectra samples mid new → LeavesOthers t r spectra mid new →
    MakesBefore t narrow k r spectra samples old mid → MakesBefore t narrow k (r + 1) spectra samples old new
makes_more numbered come t narrow k r spectra samples old mid new laid is in_k from to wrote fills others so_far x y u
    given after =
    let stands = so_far x y u given after in
    let of = row_is_of numbered t.plan t.rows k r laid is.rows in_k from to in
    row_stands t k r u spectra y mid.wide new.wide to
    (fills x y u (given_stays t.rows.rows narrow x y u t.chunk spectra samples old mid wrote given)
    (sources_stand numbered come t k r u spectra y mid.wide laid is of.node stands))
    (others y u) stands

-- past the last node there are none
pub none_stand : (t : Tables) (count u spectra : ℕ) (y : Sums) (wide : List ℕ) → AreTables t →
    count ≡ length (nodes_of t.plan) → RowsStand t (start_of t.rows count) y u spectra wide
none_stand t count u spectra y wide is all r from lt =
    let last : start_of t.rows count ≡ start_of t.rows (length (nodes_of t.plan)) = ap (λ k. start_of t.rows k) all in
    let rows = is.rows.count in
    absurd (omega arith)
