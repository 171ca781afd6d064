-- The nodes of a plan: one for each part of the band that the halving tree comes to, with the
-- delays of its rows.
-- Source: Zackay & Ofek, ApJ 835:11, 2017, section 2 (the band is halved again and again, and a row
-- of the whole is a row of the upper half and one of the lower half); the order of the nodes is
-- this project's profile.
use Rattle.std.specs.Prelude.{◌≡◌, ℕ, ◌+◌, ◌-◌, ◌*◌, ◌^◌, ◌≤◌, ◌<◌, true, false, List, [], ◌∷◌, ◌++◌, length, zero, suc, nat_le, slice_index_or, if◌then◌else◌}
use Rattle.dada_model.specs.Bounds.{most_delay}
use Rattle.dada_model.specs.Edges.{AreEdges}
use Rattle.band_paths.specs.Edges.{channels_of}
use Rattle.search_model.specs.Paths.{middle, split_at}
use Rattle.subband_plan.specs.declared.nodes.Node.{Node}

-- what contracts see in a plan: the edges of the channels in kHz, the highest first, and the delays
-- of the whole band
pub record BandPlan : Type 0 where
  pub edges : List ℕ
  pub first : ℕ
  pub last : ℕ

-- the part of a node's delay d that lies in its upper half
unfoldable pub split_of : List ℕ → Node → ℕ → ℕ
split_of edges n d = split_at edges n.lo n.hi d

-- The upper half of a node has the rows that the node's rows ask for, and keeps as much of each for
-- the next spectra as the greatest delay of the lower half.
abbrev pub upper_half : List ℕ → Node → Node
upper_half edges n = record {
  lo = n.lo;
  hi = middle n.lo n.hi;
  first_row = split_of edges n n.first_row;
  last_row = split_of edges n n.last_row;
  tail = n.last_row - split_of edges n n.last_row;
}

-- the lower half has what is left of each delay
abbrev pub lower_half : List ℕ → Node → Node
lower_half edges n = record {
  lo = middle n.lo n.hi;
  hi = n.hi;
  first_row = n.first_row - split_of edges n n.first_row;
  last_row = n.last_row - split_of edges n n.last_row;
  tail = 0;
}

-- a node, its upper half and what lies below that, its lower half and what lies below that; `depth`
-- bounds how often it is halved
unfoldable pub tree : ℕ → List ℕ → Node → List Node
tree zero edges n = n ∷ []
tree (suc depth) edges n =
    n ∷ elim (nat_le (n.lo + 2) n.hi) [
      | true ↦ tree depth edges (upper_half edges n) ++ tree depth edges (lower_half edges n)
      | false ↦ []
    ]

-- the whole band
abbrev pub root : BandPlan → Node
root p = record {
  lo = 0;
  hi = channels_of p.edges;
  first_row = p.first;
  last_row = p.last;
  tail = 0;
}

-- the nodes of a plan; 4096 channels are halved 12 times
abbrev pub nodes_of : BandPlan → List Node
nodes_of p = tree 12 p.edges (root p)

-- node k
abbrev pub node_at : List Node → ℕ → Node
node_at nodes k =
    slice_index_or nodes k (record { lo = 0; hi = 0; first_row = 0; last_row = 0; tail = 0 })

-- how many rows a node has
abbrev pub row_count : Node → ℕ
row_count n = n.last_row + 1 - n.first_row

-- how many values the rows of a node have: `chunk` each, and `tail` more
abbrev pub word_count : ℕ → Node → ℕ
word_count chunk n = row_count n * (chunk + n.tail)

-- what a plan is made for
pub record IsPlan (p : BandPlan) : Type 0 where
  pub band : AreEdges (channels_of p.edges) p.edges
  pub order : p.first ≤ p.last
  pub few : p.last ≤ most_delay

-- a node has channels of the band, and rows in order
pub record IsBranch (edges : List ℕ) (n : Node) : Type 0 where
  pub some : n.lo < n.hi
  pub within : n.hi < length edges
  pub rows : n.first_row ≤ n.last_row
  pub few : n.last_row ≤ most_delay

-- a node has a row of delay d
pub record HasRow (n : Node) (d : ℕ) : Type 0 where
  pub least : n.first_row ≤ d
  pub most : d ≤ n.last_row

-- the smallest delay of a node's kept rows; those of one or two channels begin at delay 0, because
-- each is made of the one before
unfoldable pub least_row : Node → ℕ
least_row n = if nat_le 3 (n.hi - n.lo) then n.first_row else 0

-- a node keeps a row of delay d
pub record HasKept (n : Node) (d : ℕ) : Type 0 where
  pub least : least_row n ≤ d
  pub most : d ≤ n.last_row

-- how many rows a node keeps
abbrev pub kept_count : Node → ℕ
kept_count n = n.last_row + 1 - least_row n

-- the node and those below it were appended
abbrev pub IsGrown : List ℕ → List Node → Node → List Node → Type 0
IsGrown edges before n after =
    (depth : ℕ) → n.hi ≤ n.lo + 2 ^ depth → after ≡ before ++ tree depth edges n
