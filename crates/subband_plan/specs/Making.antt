-- What the rows of a plan are made of, for the rows gone through so far.
use Rattle.std.specs.Prelude.{◌≡◌, ℕ, ◌+◌, ◌≤◌, ◌<◌, List, length, slice_index}
use Rattle.dada_model.specs.Bounds.{most_delay}
use Rattle.band_paths.specs.Edges.{channels_of}
use Rattle.row_model.specs.declared.Merge.{Merge}
use Rattle.row_model.specs.declared.Source.{Source}
use Rattle.row_model.specs.declared.Source.TheVariants.{Channel, Sum}
use Rattle.subband_plan.specs.declared.nodes.Node.{Node}
use Rattle.subband_plan.specs.Rows.{IsLabelled, IsMade, source_at}

-- a row is made of a channel of the band, or of rows that exist
pub record IsWithin (channels rows : ℕ) (s : Source) : Type 0 where
  pub channel : (c : ℕ) → s ≡ Channel c → c < channels
  pub upper : (m : Merge) → s ≡ Sum m → m.upper < rows
  pub lower : (m : Merge) → s ≡ Sum m → m.lower < rows
  pub late : (m : Merge) → s ≡ Sum m → m.late ≤ most_delay

-- all of these rows are made of channels of the band, or of rows that exist
abbrev pub AreWithin : ℕ → ℕ → List Source → Type 0
AreWithin channels rows sources = (r : ℕ) → r < length sources →
    IsWithin channels rows (source_at sources r)

-- the rows from 0 on have these nodes
pub record AreLabels (nodes : List Node) (starts : List ℕ) (count : ℕ) (labels : List ℕ) :
    Type 0 where
  pub entries : length labels ≡ count
  pub node : (r : ℕ) → r < count → slice_index labels r < length nodes
  pub from : (r : ℕ) → r < count → slice_index starts (slice_index labels r) ≤ r
  pub to : (r : ℕ) → r < count → r < slice_index starts (slice_index labels r + 1)

-- the rows from 0 on have these delays, which their nodes keep
abbrev pub AreLabelled : List Node → List ℕ → List ℕ → List ℕ → Type 0
AreLabelled nodes starts labels delays = (r : ℕ) → r < length delays →
    IsLabelled nodes starts r (slice_index labels r) (slice_index delays r)

-- what the rows are made of
pub record AreSources (edges : List ℕ) (nodes : List Node) (starts labels delays : List ℕ)
    (sources : List Source) : Type 0 where
  pub made : (r : ℕ) → r < length sources → IsMade edges nodes starts (slice_index labels r)
      (slice_index delays r) (source_at sources r)
  pub within : AreWithin (channels_of edges) (slice_index starts (length nodes)) sources
