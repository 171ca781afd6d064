-- Worked values of the definitions of folds and of cells, computed.
use Rattle.std.proofs.Common.{◌≡◌, true, false, [], ◌∷◌, refl}
use Rattle.search_model.specs.declared.candidate.Candidate.TheVariants.{Fold}
use Rattle.search_model.specs.declared.search.Search.{Search}
use Rattle.search_model.specs.Candidates.{plain_cells}
use Rattle.fold_search.specs.Cells.{cells_by, Counted}
use Rattle.fold_search.specs.Judging.{folds_in_values}
use Rattle.fold_search.specs.FoldSearch.{is_folded, most_used}

-- every second delay from 3 on, periods of 2 alone, two rows; a mean of 0, a deviation of 1, a ratio of 2
abbrev pairs : Search
pairs = record {
  min_delay = 3;
  max_delay = 8;
  widest = 1;
  fold_min = 2;
  fold_max = 2;
  fold_rows = 1;
  fold_step = 2;
  chunk = 1;
  shards = 1;
  max_candidates = 10;
  mean = 0;
  sd = 1000;
  snr = 200;
}

-- of 1 2 and 3 4, in two channels without a delay, all four sums are at least twice the root of their 4 cells
two_rows : folds_in_values (plain_cells 2) pairs 0 (1 ∷ 2 ∷ 3 ∷ 4 ∷ [])
    ≡ Fold 0 2 1 0 0 4 ∷ Fold 0 2 1 0 1 6 ∷ Fold 0 2 1 1 0 5 ∷ Fold 0 2 1 1 1 5 ∷ []
two_rows = refl

-- three values are no two rows
three_values : folds_in_values (plain_cells 2) pairs 0 (1 ∷ 2 ∷ 3 ∷ []) ≡ []
three_values = refl

-- delays are counted from the least one
first_is_folded : is_folded pairs 3 ≡ true
first_is_folded = refl

next_is_not : is_folded pairs 4 ≡ false
next_is_not = refl

-- four values are used
used_of_a_folded_delay : most_used pairs 5 ≡ 4
used_of_a_folded_delay = refl

-- ---- cells

-- counted cells, and none past the last count
cells_of_a_count : cells_by (Counted (2 ∷ 2 ∷ 3 ∷ [])) 2 ≡ 3
cells_of_a_count = refl

cells_past_the_counts : cells_by (Counted (2 ∷ 2 ∷ 3 ∷ [])) 3 ≡ 0
cells_past_the_counts = refl

-- at a deviation of 1 and a ratio of 2, 10 in two rows of 12 cells is detected, and in two rows of 13 it is not
at_the_counted_cells : folds_in_values (cells_by (Counted (12 ∷ []))) pairs 0 (5 ∷ 0 ∷ 5 ∷ 0 ∷ [])
    ≡ Fold 0 2 1 0 0 10 ∷ []
at_the_counted_cells = refl

past_the_counted_cells : folds_in_values (cells_by (Counted (13 ∷ []))) pairs 0 (5 ∷ 0 ∷ 5 ∷ 0 ∷ []) ≡ []
past_the_counted_cells = refl
