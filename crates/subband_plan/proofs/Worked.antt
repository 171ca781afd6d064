-- Worked values of the definitions.
use Rattle.std.proofs.Common.{◌≡◌, ℕ, [], ◌∷◌, sum_by, refl}
use Rattle.subband_plan.specs.declared.nodes.Node.{Node}
use Rattle.subband_plan.specs.Nodes.{BandPlan, split_of, tree, nodes_of, row_count, word_count}

abbrev node : ℕ → ℕ → ℕ → ℕ → ℕ → Node
node lo hi first_row last_row tail =
    record { lo = lo; hi = hi; first_row = first_row; last_row = last_row; tail = tail }

-- two channels
abbrev two : ℕ → ℕ → BandPlan
two first last = record { edges = 1500000 ∷ 1400000 ∷ 1300000 ∷ []; first = first; last = last }

delays_0_and_1 : nodes_of (two 0 1) ≡ node 0 2 0 1 0 ∷ node 0 1 0 0 1 ∷ node 1 2 0 1 0 ∷ []
unfolding tree split_of
delays_0_and_1 = refl

-- the delays 2 to 4 are split as 1, 1, 2
delays_2_to_4 : nodes_of (two 2 4) ≡ node 0 2 2 4 0 ∷ node 0 1 1 2 2 ∷ node 1 2 1 2 0 ∷ []
unfolding tree split_of
delays_2_to_4 = refl

-- 3 + 2 + 2 rows; in chunks of 10 spectra, two of them have 2 values more
rows_2_to_4 : sum_by row_count (nodes_of (two 2 4)) ≡ 7
unfolding tree split_of
rows_2_to_4 = refl

words_2_to_4 : sum_by (word_count 10) (nodes_of (two 2 4)) ≡ 74
unfolding tree split_of
words_2_to_4 = refl

-- three channels: the lower half is halved again
three : BandPlan
three = record { edges = 1600000 ∷ 1500000 ∷ 1400000 ∷ 1300000 ∷ []; first = 6; last = 6 }

three_channels : nodes_of three
    ≡ node 0 3 6 6 0 ∷ node 0 1 2 2 4 ∷ node 1 3 4 4 0 ∷ node 1 2 2 2 2 ∷ node 2 3 2 2 0 ∷ []
unfolding tree split_of three
three_channels = refl
