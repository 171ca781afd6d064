-- Laws of the definitions; the functions of this crate carry them.
-- Source: Zackay & Ofek, ApJ 835:11, 2017, section 2; the detection rule is this project's choice.
use Rattle.std.specs.Prelude.{◌≡◌, ℕ, ◌+◌, ◌-◌, ◌*◌, ◌/◌, ◌≤◌, ◌<◌, ◌↔◌, List, length, slice_index, IsTrue}
use Rattle.dada_model.specs.Edges.{AreEdges}
use Rattle.dada_model.specs.Observation.{square}
use Rattle.search_model.specs.Samples.{Filterbank}
use Rattle.search_model.specs.Paths.{middle, split, split_at, IsHalved, IsPath, path}
use Rattle.search_model.specs.Sums.{path_cells}
use Rattle.search_model.specs.Detection.{IsDetected, is_detected}

-- of three falling edges, the split of a delay is at most the delay: its numerator is below its denominator, and a part
-- of d, rounded, is at most d
pub record SplitsFit : Type 0 where
  pub fits : (high mid low d : ℕ) → low < mid → mid < high → split high mid low d ≤ d
  pub part : (high mid low : ℕ) → low < mid → mid < high →
      (square high - square mid) * square low < (square high - square low) * square mid
  pub rounded : (part whole d : ℕ) → part < whole → (2 * d * part + whole) / (2 * whole) ≤ d

-- Entries are halved over a single channel always; over both halves together where they are over each and the middle
-- has its split; and wherever entries are that agree with them from lo to hi.
pub record HalvesJoin : Type 0 where
  pub single : (edges : List ℕ) (lo hi : ℕ) (entry : ℕ → ℕ) → lo ≤ hi → hi ≤ lo + 1 →
      IsHalved edges lo hi entry
  pub join : (edges : List ℕ) (lo hi : ℕ) (entry : ℕ → ℕ) → lo + 2 ≤ hi →
      entry (middle lo hi) ≡ entry lo + split_at edges lo hi (entry hi - entry lo) →
      IsHalved edges lo (middle lo hi) entry → IsHalved edges (middle lo hi) hi entry →
      IsHalved edges lo hi entry
  pub same : (edges : List ℕ) (lo hi : ℕ) (other entry : ℕ → ℕ) → lo ≤ hi →
      ((k : ℕ) → lo ≤ k → k ≤ hi → entry k ≡ other k) → IsHalved edges lo hi other →
      IsHalved edges lo hi entry

-- over the edges of a band, the computed path of a delay is a path of it, and the only one
abbrev pub HasOnePath : Type 0
HasOnePath = (edges : List ℕ) (n d : ℕ) → AreEdges n edges →
    (IsPath edges n d (path edges n d)) × ((e : List ℕ) → IsPath edges n d e → e ≡ path edges n d)

-- a path never falls from one edge to the next
abbrev pub PathsRise : Type 0
PathsRise = (edges : List ℕ) (n d : ℕ) (e : List ℕ) → AreEdges n edges → IsPath edges n d e →
    (k : ℕ) → k < n → slice_index e k ≤ slice_index e (k + 1)

-- a path sum of delay d over n channels has n + d cells
abbrev pub CellsAreCounted : Type 0
CellsAreCounted =
    (edges : List ℕ) (f : Filterbank) (d u late : ℕ) (e : List ℕ) → AreEdges f.channels edges →
    IsPath edges f.channels d e → length (path_cells f e d u late) ≡ f.channels + d

-- the test answers the detection rule
abbrev pub TestsDetection : Type 0
TestsDetection = (mean sd snr sum cells : ℕ) →
    IsTrue (is_detected mean sd snr sum cells) ↔ IsDetected mean sd snr sum cells

-- a sum that is detected stays so where it is greater
abbrev pub DetectionRises : Type 0
DetectionRises = (mean sd snr sum more cells : ℕ) → sum ≤ more → IsDetected mean sd snr sum cells →
    IsDetected mean sd snr more cells
