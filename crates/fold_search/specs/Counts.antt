-- How many folds there can be at most.
-- Source: this project's choice.
use Rattle.std.specs.Prelude.{ℕ, ◌^◌}

-- values of a fold, and so the folds of a period
abbrev pub most_folded : ℕ
most_folded = 2 ^ 22

-- folds of the periods of a delay, of which there are fewer than 2 ^ 20
abbrev pub most_folds_of_delay : ℕ
most_folds_of_delay = 2 ^ 42

-- folds of the delays, of which there are fewer than 2 ^ 14
abbrev pub most_folds : ℕ
most_folds = 2 ^ 56
