-- The tables of a plan, and the schedule that makes the rows of all nodes.
-- Source: Zackay & Ofek, ApJ 835:11, 2017, section 2 (the partial sums of the transform); that
-- values are kept from chunk to chunk is this project's choice.
use Rattle.std.specs.Prelude.{◌≡◌, ℕ, ◌+◌, ◌≤◌, ◌<◌, false, Bool, List, length, replicate}
use Rattle.band_paths.specs.Edges.{channels_of}
use Rattle.row_model.specs.Sums.{Sums}
use Rattle.row_schedule.specs.Samples.{AreNext}
use Rattle.row_schedule.specs.Schedules.{Scheduled}
use Rattle.row_schedule.specs.Follows.{Follows}
use Rattle.row_schedule.specs.Filling.{AreGiven, StandsAtPlace}
use Rattle.row_schedule.specs.Running.{Stores}
use Rattle.search_model.specs.Samples.{Filterbank}
use Rattle.subband_plan.specs.declared.nodes.Node.{Node}
use Rattle.subband_plan.specs.declared.rows.PlanRows.{PlanRows}
use Rattle.subband_plan.specs.Nodes.{BandPlan, IsPlan, nodes_of, node_at}
use Rattle.subband_plan.specs.Rows.{ArePlanRows, all_rows}
use Rattle.subband_plan.specs.Values.{row_sum}
use Rattle.fdmt_carry.specs.Orders.{ArePlain, start_of}

-- The rows of a plan, for passes over up to `chunk` spectra, and for calls over up to `most`
-- spectra that make the rows of all nodes, each at a place of its own.
pub record Tables : Type 0 where
  pub plan : BandPlan
  pub chunk : ℕ
  pub most : ℕ
  pub rows : PlanRows

abbrev pub tables : BandPlan → ℕ → ℕ → PlanRows → Tables
tables plan chunk most rows = record { plan = plan; chunk = chunk; most = most; rows = rows }

-- node k
abbrev pub node_of : Tables → ℕ → Node
node_of t k = node_at (nodes_of t.plan) k

-- how many nodes there are
abbrev pub node_count : Tables → ℕ
node_count t = length (nodes_of t.plan)

-- the sums of the rows over a stream
abbrev pub table_sums : Tables → Filterbank → Sums
table_sums t f = row_sum t.plan t.rows f

-- a schedule for the rows of a plan over up to `most` spectra; the samples of a channel begin
-- `chunk` places after those of the one before
pub record IsScheduled (p : BandPlan) (rows : PlanRows) (chunk most : ℕ) (s : Scheduled) :
    Type 0 where
  pub follows : Follows rows.rows s
  pub channels : s.channels ≡ channels_of p.edges
  pub chunk_is : s.chunk ≡ chunk
  pub most_is : s.most ≡ most

-- a schedule that makes the rows of a plan in the plain order, in 32 bits
pub record IsPlain (p : BandPlan) (rows : PlanRows) (chunk most : ℕ) (s : Scheduled) : Type 0 where
  pub runs : IsScheduled p rows chunk most s
  pub narrow : s.narrow ≡ replicate (all_rows rows) false
  pub orders : ArePlain p rows s.orders

-- what holds of tables
pub record AreTables (t : Tables) : Type 0 where
  pub plan : IsPlan t.plan
  pub rows : ArePlanRows t.plan t.rows
  pub short : t.chunk ≤ 65536
  pub within : t.most ≤ t.chunk

-- the samples of the next spectra, from spectrum u on
abbrev pub AreSamples : Tables → Filterbank → ℕ → ℕ → List ℕ → Type 0
AreSamples t f u spectra samples =
    AreNext f.value (channels_of t.plan.edges) t.chunk u spectra samples

-- the rows from number `from` on stand: their `spectra` values that end at spectrum u and after it
abbrev pub RowsStand : Tables → ℕ → Sums → ℕ → ℕ → List ℕ → Type 0
RowsStand t from y u spectra wide = (r : ℕ) → from ≤ r → r < all_rows t.rows →
    StandsAtPlace t.most y u spectra wide r

-- the rows of all nodes stand
abbrev pub TablesStand : Tables → Filterbank → ℕ → ℕ → Stores → Type 0
TablesStand t f u spectra st = RowsStand t 0 (table_sums t f) u spectra st.wide

-- the rows of all nodes are made over the next spectra, from what is kept of all rows, narrow ones
-- in 16 bits
abbrev pub MakesTables : Tables → List Bool → ℕ → List ℕ → Stores → Stores → Type 0
MakesTables t narrow spectra samples old new = (x : ℕ → ℕ → ℕ) (y : Sums) (u : ℕ) →
    AreGiven t.rows.rows narrow x y u t.chunk spectra samples old →
    RowsStand t 0 y u spectra new.wide

-- the rows of node k are made over the next spectra, if those of the nodes after it stand
abbrev pub MakesNode : Tables → List Bool → ℕ → ℕ → List ℕ → Stores → Stores → Type 0
MakesNode t narrow k spectra samples old new = (x : ℕ → ℕ → ℕ) (y : Sums) (u : ℕ) →
    AreGiven t.rows.rows narrow x y u t.chunk spectra samples old →
    RowsStand t (start_of t.rows (k + 1)) y u spectra old.wide →
    RowsStand t (start_of t.rows k) y u spectra new.wide
