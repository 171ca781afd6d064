-- The rows of tables that are carried from chunk to chunk: how they are numbered, what each is made
-- of, and how much of each is kept.
-- Source: Zackay & Ofek, ApJ 835:11, 2017, section 2 (a row is a row of the upper half, which ends
-- earlier, added to one of the lower half); that rows of one and two channels are made of those
-- before them, and the order of the rows, are this project's profile.
use Rattle.std.specs.Prelude.{◌≡◌, ℕ, ◌+◌, ◌-◌, ◌%◌, ◌^◌, ◌≤◌, ◌<◌, List, length, slice_index, slice_index_or}
use Rattle.dada_model.specs.Bounds.{most_delay}
use Rattle.band_paths.specs.Edges.{channels_of}
use Rattle.row_model.specs.declared.Merge.{Merge}
use Rattle.row_model.specs.declared.Source.{Source}
use Rattle.row_model.specs.declared.Source.TheVariants.{Channel, Sum}
use Rattle.row_model.specs.Tails.{AreRows}
use Rattle.subband_plan.specs.declared.nodes.Node.{Node}
use Rattle.subband_plan.specs.declared.rows.PlanRows.{PlanRows}
use Rattle.subband_plan.specs.Nodes.{BandPlan, HasKept, least_row, kept_count, split_of, nodes_of, node_at}
use Rattle.subband_plan.specs.NodeLaws.{lower_number}

-- where things of these sizes begin that follow one another, and where the last one ends
pub record ArePlaces (size : ℕ → ℕ) (count : ℕ) (places : List ℕ) : Type 0 where
  pub entries : length places ≡ count + 1
  pub first : slice_index places 0 ≡ 0
  pub next : (k : ℕ) → k < count → slice_index places (k + 1) ≡ slice_index places k + size k

-- the number of each node's first row
abbrev pub AreStarts : List Node → List ℕ → Type 0
AreStarts nodes starts = ArePlaces (λ k. kept_count (node_at nodes k)) (length nodes) starts

-- the number of the row of delay d of n, which is node k
abbrev pub row_of : List ℕ → ℕ → Node → ℕ → ℕ
row_of starts k n d = slice_index starts k + (d - least_row n)

-- the number of the row of delay d of node k
abbrev pub row_at : List Node → List ℕ → ℕ → ℕ → ℕ
row_at nodes starts k d = row_of starts k (node_at nodes k) d

-- row r is that of a node and of a delay that the node keeps
pub record IsLabelled (nodes : List Node) (starts : List ℕ) (r k d : ℕ) : Type 0 where
  pub node : k < length nodes
  pub kept : HasKept (node_at nodes k) d
  pub number : row_at nodes starts k d ≡ r

-- two rows are added, of which the upper one ends `late` spectra earlier
abbrev pub sum_of : ℕ → ℕ → ℕ → Source
sum_of upper lower late = Sum (record { upper = upper; lower = lower; late = late })

-- The row of delay d of node k, a single channel: that of delay 0 are the samples, and each other
-- one is that of delay 0, as much earlier as the row's delay, added to the row before.
pub record IsMadeOfOne (nodes : List Node) (starts : List ℕ) (k d : ℕ) (s : Source) : Type 0 where
  pub first : d ≡ 0 → s ≡ Channel (node_at nodes k).lo
  pub next : (e : ℕ) → d ≡ e + 1 →
      s ≡ sum_of (row_at nodes starts k 0) (row_at nodes starts k e) d

-- The row of delay d of node k, of two channels. If the upper channel's part of the delay grows,
-- one more sample of the upper channel is added to the row before. Otherwise one of the lower
-- channel is added to the row before as it was one spectrum earlier.
pub record IsMadeOfTwo (edges : List ℕ) (nodes : List Node) (starts : List ℕ) (k d : ℕ)
    (s : Source) : Type 0 where
  pub first : d ≡ 0 → s ≡ sum_of (row_at nodes starts (k + 1) 0)
      (row_at nodes starts (lower_number (node_at nodes k) k) 0) 0
  pub grows : (e : ℕ) → d ≡ e + 1 →
      split_of edges (node_at nodes k) d ≡ split_of edges (node_at nodes k) e + 1 →
      s ≡ sum_of (row_at nodes starts (k + 1) 0) (row_at nodes starts k e) d
  pub stays : (e : ℕ) → d ≡ e + 1 →
      split_of edges (node_at nodes k) d ≡ split_of edges (node_at nodes k) e →
      s ≡ sum_of (row_at nodes starts k e)
      (row_at nodes starts (lower_number (node_at nodes k) k) 0) 1

-- the row of delay d of a node, whose upper half has the part `split` of the delay: a row of each
-- half
abbrev pub halves_of : List Node → List ℕ → ℕ → ℕ → ℕ → Source
halves_of nodes starts k d split = sum_of (row_at nodes starts (k + 1) split)
    (row_at nodes starts (lower_number (node_at nodes k) k) (d - split)) (d - split)

-- what the row of delay d of node k is made of
pub record IsMade (edges : List ℕ) (nodes : List Node) (starts : List ℕ) (k d : ℕ)
    (s : Source) : Type 0 where
  pub one : (node_at nodes k).hi ≡ (node_at nodes k).lo + 1 → IsMadeOfOne nodes starts k d s
  pub two : (node_at nodes k).hi ≡ (node_at nodes k).lo + 2 → IsMadeOfTwo edges nodes starts k d s
  pub more : (node_at nodes k).lo + 3 ≤ (node_at nodes k).hi →
      s ≡ halves_of nodes starts k d (split_of edges (node_at nodes k) d)

abbrev pub source_at : List Source → ℕ → Source
source_at sources r = slice_index_or sources r (Channel 0)

-- Of each row a multiple of 16 values is kept: the smallest that is enough for the first rows.
pub record AreTails (sources : List Source) (count : ℕ) (tails : List ℕ) : Type 0 where
  pub entries : length tails ≡ length sources
  pub whole : (r : ℕ) → slice_index tails r % 16 ≡ 0
  pub enough : (r : ℕ) (m : Merge) → r < count → source_at sources r ≡ Sum m →
      m.late ≤ slice_index tails m.upper
  pub least : (x most : ℕ) → most % 16 ≡ 0 →
      ((r : ℕ) (m : Merge) → r < count → source_at sources r ≡ Sum m → m.upper ≡ x →
      m.late ≤ most) → slice_index tails x ≤ most

-- how many rows there are, the node of a row, and its delay
abbrev pub all_rows : PlanRows → ℕ
all_rows rows = length rows.rows.sources.items

abbrev pub node_of : PlanRows → ℕ → ℕ
node_of rows r = slice_index rows.nodes.items r

abbrev pub delay_of : PlanRows → ℕ → ℕ
delay_of rows r = slice_index rows.delays.items r

-- row r is that of delay d of node k
pub record IsRow (rows : PlanRows) (k d r : ℕ) : Type 0 where
  pub there : r < all_rows rows
  pub node : node_of rows r ≡ k
  pub delay : delay_of rows r ≡ d

-- the rows of the tables of a plan
pub record ArePlanRows (p : BandPlan) (rows : PlanRows) : Type 0 where
  pub starts : AreStarts (nodes_of p) rows.starts.items
  pub count : all_rows rows ≡ slice_index rows.starts.items (length (nodes_of p))
  pub few : all_rows rows ≤ 2 ^ 26
  pub nodes_entries : length rows.nodes.items ≡ all_rows rows
  pub delays_entries : length rows.delays.items ≡ all_rows rows
  pub row : (k d : ℕ) → k < length (nodes_of p) → HasKept (node_at (nodes_of p) k) d →
      IsRow rows k d (row_at (nodes_of p) rows.starts.items k d)
  pub label : (r : ℕ) → r < all_rows rows →
      IsLabelled (nodes_of p) rows.starts.items r (node_of rows r) (delay_of rows r)
  pub made : (r : ℕ) → r < all_rows rows → IsMade p.edges (nodes_of p) rows.starts.items
      (node_of rows r) (delay_of rows r) (source_at rows.rows.sources.items r)
  pub tails : AreTails rows.rows.sources.items (all_rows rows) rows.rows.tails.items
  pub short : (r : ℕ) → slice_index rows.rows.tails.items r ≤ most_delay
  pub are_rows : AreRows (channels_of p.edges) rows.rows
