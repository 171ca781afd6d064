-- Laws of path sums and of sums over a part of the band; the functions of this crate carry them.
-- Source: Zackay & Ofek, ApJ 835:11, 2017, section 2.
use Rattle.std.specs.Prelude.{◌≡◌, ℕ, ◌+◌, ◌-◌, ◌*◌, ◌≤◌, ◌<◌, List}
use Rattle.dada_model.specs.Edges.{AreEdges}
use Rattle.search_model.specs.Samples.{Filterbank}
use Rattle.search_model.specs.Paths.{middle, split, split_at}
use Rattle.search_model.specs.Sums.{late_path_sum, path_sum, box_sum}
use Rattle.search_model.specs.Subbands.{node_sum}

-- The sum over a node of two channels and more is that over its upper half, along the path of the split, plus that over
-- its lower half. The upper half's path ends earlier, by the delay of the lower half.
abbrev pub HalvesAdd : Type 0
HalvesAdd =
    (f : Filterbank) (edges : List ℕ) (n lo hi d u late : ℕ) →
    AreEdges n edges → lo + 2 ≤ hi → hi ≤ n →
    node_sum f edges lo hi d u late
    ≡ node_sum f edges lo (middle lo hi) (split_at edges lo hi d) u
    (late + (d - split_at edges lo hi d))
    + node_sum f edges (middle lo hi) hi (d - split_at edges lo hi d) u late

-- of one channel: the sum of delay d + 1 is that of delay d, plus the one sample that stands d + 1 spectra earlier
abbrev pub OneChannelAdds : Type 0
OneChannelAdds = (f : Filterbank) (edges : List ℕ) (n c d u late : ℕ) → AreEdges n edges → c < n →
    node_sum f edges c (c + 1) (d + 1) u late
    ≡ node_sum f edges c (c + 1) 0 u (late + (d + 1)) + node_sum f edges c (c + 1) d u late

-- and the sum of delay 0 is the sample itself
abbrev pub OneChannelIsItsSample : Type 0
OneChannelIsItsSample =
    (f : Filterbank) (edges : List ℕ) (n c u late : ℕ) → AreEdges n edges → c < n → late ≤ u →
    node_sum f edges c (c + 1) 0 u late ≡ f.value c (u - late)

-- what ends q spectra earlier, seen from q spectra later, is the same
abbrev pub TimeShifts : Type 0
TimeShifts = (f : Filterbank) (edges : List ℕ) (lo hi d u late q : ℕ) →
    node_sum f edges lo hi d (u + q) (late + q) ≡ node_sum f edges lo hi d u late

-- before the first spectrum there is nothing
abbrev pub NothingBefore : Type 0
NothingBefore =
    (f : Filterbank) (edges : List ℕ) (n lo hi d u late : ℕ) →
    AreEdges n edges → hi ≤ n → u < late → node_sum f edges lo hi d u late ≡ 0

-- the sum over the whole band is the path sum
abbrev pub WholeBandIsPathSum : Type 0
WholeBandIsPathSum = (f : Filterbank) (edges : List ℕ) (d u late : ℕ) → AreEdges f.channels edges →
    node_sum f edges 0 f.channels d u late ≡ late_path_sum f edges u d late

-- from one delay to the next, a split rises by 1 or not at all
pub record StepsByOne (before after : ℕ) : Type 0 where
  pub rises : before ≤ after
  pub by_one : after ≤ before + 1

abbrev pub SplitsStep : Type 0
SplitsStep = (high mid low d : ℕ) → low < mid → mid < high →
    StepsByOne (split high mid low d) (split high mid low (d + 1))

-- a path sum that ends k spectra before u is the path sum that ends there, and 0 before the first spectrum
pub record LatePathSums : Type 0 where
  pub within : (f : Filterbank) (edges : List ℕ) (d u k : ℕ) → k ≤ u →
      late_path_sum f edges u d k ≡ path_sum f edges (u - k) d
  pub before : (f : Filterbank) (edges : List ℕ) (d u k : ℕ) → AreEdges f.channels edges → u < k →
      late_path_sum f edges u d k ≡ 0

-- where no sample is above m, a path sum of delay d over n channels is at most m (n + d), and a box sum w of these
pub record SumsAreBounded : Type 0 where
  pub path : (f : Filterbank) (edges : List ℕ) (d u late m : ℕ) → AreEdges f.channels edges →
      ((c t : ℕ) → f.value c t ≤ m) → late_path_sum f edges u d late ≤ m * (f.channels + d)
  pub box : (f : Filterbank) (edges : List ℕ) (d u w m : ℕ) → AreEdges f.channels edges →
      ((c t : ℕ) → f.value c t ≤ m) → box_sum f edges u d w ≤ w * (m * (f.channels + d))
