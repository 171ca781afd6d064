-- The mean and the deviation of values, in whole numbers.
-- Source: this project's choice.
use Rattle.std.specs.Prelude.{ℕ, ◌+◌, ◌-◌, ◌*◌, ◌==◌, Bool, List, length, sum_by, filter, nat_le, if◌then◌else◌}

-- how many values, their sum, and the sum of their squares
pub record Moments : Type 0 where
  pub count : ℕ
  pub total : ℕ
  pub squares : ℕ

abbrev pub moments : List ℕ → Moments
moments xs = record {
  count = length xs;
  total = sum_by (λ x. x) xs;
  squares = sum_by (λ x. x * x) xs;
}

-- the square of the deviation times that of the count
abbrev pub spread : Moments → ℕ
spread m = m.count * m.squares - m.total * m.total

abbrev pub distance : ℕ → ℕ → ℕ
distance a b = (a - b) + (b - a)

-- whether a value lies within four deviations of the mean
abbrev pub is_near : Moments → ℕ → Bool
is_near m x =
    let far = distance (m.count * x) m.total in
    nat_le (far * far) (16 * spread m)

abbrev pub near_values : List ℕ → List ℕ
near_values xs = filter (is_near (moments xs)) xs

-- the moments of the values within four deviations of the mean of all; of all where none is
abbrev pub fair_moments : List ℕ → Moments
fair_moments xs =
    if length (near_values xs) == 0 then moments xs else moments (near_values xs)
