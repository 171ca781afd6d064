-- What values have above a base, in 16 bits.
-- Source: this project's choice.
use Rattle.std.specs.Prelude.{ℕ, ◌-◌, ◌≡◌, ◌<◌, List, length, slice_index}
use Rattle.fdmt_rows.specs.Capped.{capped, capped_sum}

-- what a number has above a base, in 16 bits, and 0 where it is below
abbrev pub excess : ℕ → ℕ → ℕ
excess base x = capped (x - base)

-- what two numbers have above a base each, together
abbrev pub excess_of_two : ℕ → ℕ → ℕ → ℕ → ℕ
excess_of_two base_x base_y x y = capped_sum (x - base_x) (y - base_y)

-- a row has these values
abbrev pub AreValues : List ℕ → (ℕ → ℕ) → Type 0
AreValues row value = (k : ℕ) → k < length row → slice_index row k ≡ value k
