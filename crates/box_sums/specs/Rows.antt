-- Sums of the last values of a list.
-- Source: this project's choice.
use Rattle.std.specs.Prelude.{ℕ, ◌+◌, ◌-◌, ◌≡◌, ◌<◌, ◌≤◌, ◌==◌, ◌++◌, List, IsTrue, length, sum, sum_by, take, drop, replicate, slice_index, nat_le, if◌then◌else◌}
use Rattle.std.specs.List.{list_any, range_with_len}
use Rattle.search_model.specs.Search.{box_widths}

-- the sum of the w values of a list that end at place k; values before the first count 0
abbrev pub sum_ending : List ℕ → ℕ → ℕ → ℕ
sum_ending xs k w = sum (drop (k + 1 - w) (take (k + 1) xs))

-- the sum of the w values that end at place k of a feed behind a list
abbrev pub ending_in_feed : List ℕ → List ℕ → ℕ → ℕ → ℕ
ending_in_feed xs feed k w = sum_ending (xs ++ feed) (length (xs ++ feed) - length feed + k) w

-- the value i places before place k; 0 before the first
abbrev pub value_before : List ℕ → ℕ → ℕ → ℕ
value_before xs k i = if nat_le i k then slice_index xs (k - i) else 0

abbrev pub SumsAddValues : Type 0
SumsAddValues = (xs : List ℕ) (k w : ℕ) → k < length xs
    → sum_ending xs k w ≡ sum_by (λ i. value_before xs k i) (range_with_len 0 w)

-- a power of two that a box can be wide
abbrev pub IsWidth : ℕ → Type 0
IsWidth w = IsTrue (list_any (λ v. v == w) box_widths)

-- the row begins with the last `reach + count` values of a list, with zeros before its first
pub record Keeps (row : List ℕ) (reach count : ℕ) (xs : List ℕ) : Type 0 where
  pub some : count ≤ length xs
  pub last : take (reach + count) row ≡ drop (length xs - count) (replicate reach 0 ++ xs)
