-- What the values of a plan's rows are, and laws of these; the functions of this crate carry them.
-- Source: Zackay & Ofek, ApJ 835:11, 2017, section 2 (the partial sums of the transform).
use Rattle.std.specs.Prelude.{◌≡◌, ℕ, ◌+◌, ◌-◌, ◌*◌, ◌≤◌, ◌<◌}
use Rattle.band_paths.specs.Edges.{channels_of}
use Rattle.search_model.specs.Samples.{Filterbank}
use Rattle.search_model.specs.Sums.{path_sum}
use Rattle.search_model.specs.Subbands.{node_sum}
use Rattle.row_model.specs.Sums.{Sums, AddUp}
use Rattle.subband_plan.specs.declared.nodes.Node.{Node}
use Rattle.subband_plan.specs.declared.rows.PlanRows.{PlanRows}
use Rattle.subband_plan.specs.Nodes.{BandPlan, IsPlan, HasRow, root, nodes_of, node_at}
use Rattle.subband_plan.specs.Rows.{ArePlanRows, node_of, delay_of, row_at}

-- the node of a row
abbrev pub part_of : BandPlan → PlanRows → ℕ → Node
part_of p rows r = node_at (nodes_of p) (node_of rows r)

-- the sum over the row's node, along the path of its delay, that ends `late` spectra before u
unfoldable pub row_sum : BandPlan → PlanRows → Filterbank → Sums
row_sum p rows f r u late =
    node_sum f p.edges (part_of p rows r).lo (part_of p rows r).hi (delay_of rows r) u late

-- the values of rows are samples, or the sums of the two rows that a row is made of
abbrev pub RowsAddUp : Type 0
RowsAddUp = (p : BandPlan) (rows : PlanRows) (f : Filterbank) → IsPlan p → ArePlanRows p rows →
    f.channels ≡ channels_of p.edges →
    AddUp rows.rows.sources.items f.value (row_sum p rows f)

-- how many samples are added in a value of a row: one of each channel, and one for each spectrum of
-- delay
abbrev pub cells_of : BandPlan → PlanRows → ℕ → ℕ
cells_of p rows r = (part_of p rows r).hi - (part_of p rows r).lo + delay_of rows r

-- no sample of the spectra before spectrum e is above m
abbrev pub AreAtMost : Filterbank → ℕ → ℕ → Type 0
AreAtMost f e m = (c t : ℕ) → c < f.channels → t < e → f.value c t ≤ m

-- if no sample before spectrum e is above m, a value that ends before it is at most m for each of
-- its cells
abbrev pub RowsAreBounded : Type 0
RowsAreBounded = (p : BandPlan) (rows : PlanRows) (f : Filterbank) (e m : ℕ) → IsPlan p →
    ArePlanRows p rows → f.channels ≡ channels_of p.edges → AreAtMost f e m →
    (r u late : ℕ) → u < e + late → row_sum p rows f r u late ≤ m * cells_of p rows r

-- values that end before the first spectrum are 0
abbrev pub RowsBeginEmpty : Type 0
RowsBeginEmpty = (p : BandPlan) (rows : PlanRows) (f : Filterbank) → IsPlan p →
    ArePlanRows p rows → (r u late : ℕ) → u < late → row_sum p rows f r u late ≡ 0

-- the rows of the whole band, node 0, are its path sums
abbrev pub BandRowsArePathSums : Type 0
BandRowsArePathSums = (p : BandPlan) (rows : PlanRows) (f : Filterbank) (d u : ℕ) → IsPlan p →
    ArePlanRows p rows → f.channels ≡ channels_of p.edges → HasRow (root p) d →
    row_sum p rows f (row_at (nodes_of p) rows.starts.items 0 d) u 0 ≡ path_sum f p.edges u d
