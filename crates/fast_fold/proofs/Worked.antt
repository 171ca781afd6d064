-- Worked values of the definitions, on the series 1 2 3 4 with the period 2.
use Rattle.std.proofs.Common.{◌≡◌, [], ◌∷◌, refl}
use Rattle.search_model.specs.Folds.{fold_sum, shift}
use Rattle.fast_fold.specs.Folding.{block_of, sum_place}

second_block : block_of (1 ∷ 2 ∷ 3 ∷ 4 ∷ []) 2 0 1 ≡ 3 ∷ 4 ∷ []
second_block = refl

trial_0 : fold_sum (1 ∷ 2 ∷ 3 ∷ 4 ∷ []) 2 1 0 1 ≡ 6
trial_0 = refl

trial_1 : fold_sum (1 ∷ 2 ∷ 3 ∷ 4 ∷ []) 2 1 1 1 ≡ 5
trial_1 = refl

last_row_of_trial_3 : shift 2 3 3 ≡ 3
last_row_of_trial_3 = refl

-- phase 1 of trial 1 of block 0 of two blocks of two rows of five values
place : sum_place 5 1 0 1 1 ≡ 6
place = refl
