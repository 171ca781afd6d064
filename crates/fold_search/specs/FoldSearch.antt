-- What is kept for the folds of some delays.
-- Source: Staelin, Proc. IEEE 57:724, 1969 (the fast folding algorithm).
use Rattle.std.specs.Prelude.{◌≡◌, ℕ, ◌+◌, ◌-◌, ◌*◌, ◌%◌, ◌^◌, ◌<◌, ◌≤◌, ◌==◌, ◌&&◌, List, [], Bool, IsTrue, All, length, slice_index, slice_index_or, if◌then◌else◌}
use Rattle.std.specs.List.{range_with_len, flat_map}
use Rattle.search_model.specs.declared.candidate.Candidate.{Candidate}
use Rattle.search_model.specs.declared.search.Search.{Search}
use Rattle.search_model.specs.Samples.{Filterbank}
use Rattle.search_model.specs.Search.{SettingsInRange, folds_are_on}
use Rattle.search_model.specs.Folds.{series}
use Rattle.search_model.specs.Candidates.{folds_of_delay}
use Rattle.fold_search.specs.Counts.{most_folded}
use Rattle.fold_search.specs.Series.{Front, no_front, IsFrontOf}

-- what contracts see: the settings; the delays from `first` up to, but without, `end`; no path sum is above the bound;
-- the front of the series of each delay, one after another
pub record Fronts : Type 0 where
  pub search : Search
  pub first : ℕ
  pub end : ℕ
  pub bound : ℕ
  pub fronts : List Front

-- d is one of the delays
pub record HasDelay (f : Fronts) (d : ℕ) : Type 0 where
  pub above : f.first ≤ d
  pub below : d < f.end

-- the front of the series of delay d
abbrev pub front_of : Fronts → ℕ → Front
front_of f d = slice_index_or f.fronts (d - f.first) no_front

-- xs are the path sums of delay d that were taken, in order
abbrev pub KeepsFrontOf : Fronts → ℕ → List ℕ → Type 0
KeepsFrontOf f d xs = IsFrontOf (front_of f d) xs

-- both are opened alike
pub record FoldsAlike (f g : Fronts) : Type 0 where
  pub search : f.search ≡ g.search
  pub first : f.first ≡ g.first
  pub end : f.end ≡ g.end
  pub bound : f.bound ≡ g.bound

-- opened with these
pub record FoldsFor (f : Fronts) (search : Search) (first end bound : ℕ) : Type 0 where
  pub search_is : f.search ≡ search
  pub first_is : f.first ≡ first
  pub end_is : f.end ≡ end
  pub bound_is : f.bound ≡ bound

-- the folds fit: their values into a folder, their sums into 32 bits
pub record FoldsFit (s : Search) (bound : ℕ) : Type 0 where
  pub size : s.fold_max * 2 ^ s.fold_rows ≤ most_folded
  pub sums : bound * 2 ^ s.fold_rows < 2 ^ 32

-- a folder of this room can fold for a search
pub record CanFold (s : Search) (longest most : ℕ) : Type 0 where
  pub longest_is : longest ≡ s.fold_max
  pub most_is : most ≡ s.fold_rows
  pub size : s.fold_max * 2 ^ s.fold_rows ≤ most_folded

-- the sums of these values fit into 32 bits
abbrev pub FitFolds : Search → List ℕ → Type 0
FitFolds s values = (k : ℕ) → slice_index values k * 2 ^ s.fold_rows < 2 ^ 32

-- the delays are some of those that are searched
pub record IsDelayRange (s : Search) (first end : ℕ) : Type 0 where
  pub from : s.min_delay ≤ first
  pub order : first ≤ end
  pub to : end ≤ s.max_delay + 1

-- d is one of the delays that are searched
pub record IsDelayOf (s : Search) (d : ℕ) : Type 0 where
  pub from : s.min_delay ≤ d
  pub to : d ≤ s.max_delay

-- whether the series of delay d is folded
abbrev pub is_folded : Search → ℕ → Bool
is_folded s d = folds_are_on s && ((d - s.min_delay) % s.fold_step == 0)

-- how many values of the series of delay d folds can use
abbrev pub most_used : Search → ℕ → ℕ
most_used s d = if is_folded s d then s.fold_max * 2 ^ s.fold_rows else 0

-- the folds of one delay, if it is folded
abbrev pub folds_if_folded : Filterbank → List ℕ → (ℕ → ℕ) → Search → ℕ → List Candidate
folds_if_folded f edges cells s d = if is_folded s d then folds_of_delay f edges cells s d else []

-- the folds of `count` delays from `first` on
abbrev pub folds_of_delays : Filterbank → List ℕ → (ℕ → ℕ) → Search → ℕ → ℕ → List Candidate
folds_of_delays f edges cells s first count =
    flat_map (λ d. folds_if_folded f edges cells s d) (range_with_len first count)

-- each front of a list, for the delays from `first` on, can keep what folds use
abbrev pub AreFronts : Search → ℕ → List Front → Type 0
AreFronts s first fronts =
    (k : ℕ) → k < length fronts → (slice_index_or fronts k no_front).most ≡ most_used s (first + k)

-- no value of a front is above the bound
abbrev pub FrontsAreUpTo : ℕ → List Front → Type 0
FrontsAreUpTo bound fronts =
    (k : ℕ) → All (λ x. x ≤ bound) (slice_index_or fronts k no_front).values

-- what stands behind is as large as it has to be
pub record IsReady
    (s : Search) (first end bound : ℕ) (kept : List Front) (longest most : ℕ)
    : Type 0 where
  pub range : SettingsInRange s
  pub delays : IsDelayRange s first end
  pub fits : IsTrue (folds_are_on s) → FoldsFit s bound
  pub count : length kept ≡ end - first
  pub fronts : AreFronts s first kept
  pub small : FrontsAreUpTo bound kept
  pub folder : IsTrue (folds_are_on s) → CanFold s longest most

-- the fronts of a list are those of the series of the delays from `first` on
abbrev pub AreOfSeries : List Front → Filterbank → List ℕ → ℕ → Type 0
AreOfSeries fronts f edges first =
    (k : ℕ) → k < length fronts
    → IsFrontOf (slice_index_or fronts k no_front) (series f edges (first + k))
