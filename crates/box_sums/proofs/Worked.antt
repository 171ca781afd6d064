-- Worked values of the definitions, on a row that was fed with 0 30 20.
use Rattle.std.proofs.Common.{◌≡◌, [], ◌∷◌, refl}
use Rattle.box_sums.specs.Rows.{sum_ending, value_before}

last_two : sum_ending (0 ∷ 30 ∷ 20 ∷ []) 2 2 ≡ 50
last_two = refl

before_the_first : sum_ending (0 ∷ 30 ∷ 20 ∷ []) 0 2 ≡ 0
before_the_first = refl

all_and_more : sum_ending (0 ∷ 30 ∷ 20 ∷ []) 2 32 ≡ 50
all_and_more = refl

two_before : value_before (10 ∷ 30 ∷ 20 ∷ []) 2 2 ≡ 10
two_before = refl

none_before : value_before (10 ∷ 30 ∷ 20 ∷ []) 2 3 ≡ 0
none_before = refl
