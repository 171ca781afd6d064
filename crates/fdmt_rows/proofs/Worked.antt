-- Worked values of the definitions.
use Rattle.std.proofs.Common.{◌≡◌, ◌^◌, ◌-◌, [], ◌∷◌, refl}
use Rattle.fdmt_rows.specs.Excess.{excess, excess_of_two}
use Rattle.fdmt_rows.specs.Rows.{sum_from, wrapping_sum}

neighbours : sum_from (1 ∷ 2 ∷ 3 ∷ 4 ∷ []) 1 2 ≡ 5
neighbours = refl

past_the_end : sum_from (1 ∷ 2 ∷ 3 ∷ 4 ∷ []) 3 2 ≡ 4
past_the_end = refl

wraps : wrapping_sum (2 ^ 32 - 1) 3 ≡ 2
wraps = refl

above : excess 10 25 ≡ 15
above = refl

below : excess 10 3 ≡ 0
below = refl

far_above : excess 10 70000 ≡ 65535
far_above = refl

both_above : excess_of_two 10 20 15 22 ≡ 7
both_above = refl

one_below : excess_of_two 10 20 15 3 ≡ 5
one_below = refl

too_far : excess_of_two 10 20 65535 1000 ≡ 65535
too_far = refl
