-- A search that is cut into searches of neighbouring ranges of delays, as where several machines share it; a function
-- of this crate carries its laws.
-- Source: this project's choice.
use Rattle.std.specs.Prelude.{◌≡◌, ℕ, ◌+◌, ◌-◌, ◌%◌, ◌≤◌, ◌<◌, ◌⊎◌, Bool, List, map, sum_by, count_by}
use Rattle.std.specs.List.{range_with_len}
use Rattle.search_model.specs.declared.candidate.Candidate.{Candidate}
use Rattle.search_model.specs.declared.search.Search.{Search}
use Rattle.search_model.specs.Samples.{Filterbank}
use Rattle.search_model.specs.Candidates.{candidates, within_delays}
use Rattle.search_model.specs.Order.{IsMergeOf}

-- the search of the delays from `least` to `most` alone, and all else the same
abbrev pub over_delays : Search → ℕ → ℕ → Search
over_delays s least most = record s { min_delay = least; max_delay = most }

-- a search that begins at a delay folds those delays that the whole search folds: nothing is folded, or it begins at a
-- multiple of fold-step from min-delay
abbrev pub FoldsAgree : Search → ℕ → Type 0
FoldsAgree s least =
    (s.fold_max < s.fold_min) ⊎ ((least - s.min_delay) % s.fold_step ≡ 0)

-- a range of the delays of a search
pub record IsDelayRange (s : Search) (least most : ℕ) : Type 0 where
  pub from : s.min_delay ≤ least
  pub some : least ≤ most
  pub to : most ≤ s.max_delay
  pub folds : FoldsAgree s least

-- n neighbouring ranges that cover the delays of a search: range k begins at `start k` and ends before `start (k + 1)`
pub record AreDelayRanges (s : Search) (n : ℕ) (start : ℕ → ℕ) : Type 0 where
  pub first : start 0 ≡ s.min_delay
  pub last : start n ≡ s.max_delay + 1
  pub rise : (k : ℕ) → k < n → start k < start (k + 1)
  pub folds : (k : ℕ) → k < n → FoldsAgree s (start k)

-- the candidate lists of these ranges, each a search of its own
abbrev pub range_lists : Filterbank → List ℕ → (ℕ → ℕ) → Search → ℕ → (ℕ → ℕ) →
    List (List Candidate)
range_lists f edges cells s n start =
    map (λ k. candidates f edges cells (over_delays s (start k) (start (k + 1) - 1)))
    (range_with_len 0 n)

-- The candidate list of a range has what the whole list has of its delays, in the same order. The lists of neighbouring
-- ranges are merged to the whole list, and their candidates of any kind, as pulses or folds, are as many together.
pub record RangesMerge : Type 0 where
  pub range : (f : Filterbank) (edges : List ℕ) (cells : ℕ → ℕ) (s : Search) (least most : ℕ) →
      IsDelayRange s least most →
      candidates f edges cells (over_delays s least most)
      ≡ within_delays least (most + 1) (candidates f edges cells s)
  pub merge : (f : Filterbank) (edges : List ℕ) (cells : ℕ → ℕ) (s : Search) (n : ℕ)
      (start : ℕ → ℕ) →
      AreDelayRanges s n start →
      IsMergeOf (range_lists f edges cells s n start) (candidates f edges cells s)
  pub counts : (f : Filterbank) (edges : List ℕ) (cells : ℕ → ℕ) (s : Search) (n : ℕ)
      (start : ℕ → ℕ) (kind : Candidate → Bool) →
      AreDelayRanges s n start →
      sum_by (λ list. count_by kind list) (range_lists f edges cells s n start)
      ≡ count_by kind (candidates f edges cells s)
