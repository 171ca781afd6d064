-- Digits by their places.
use Rattle.std.specs.Prelude.{ℕ, zero, suc, ◌<◌, List, [], ◌∷◌, length}
use Rattle.std.proofs.Common.{get_or, arith}
use Rattle.std.specs.Char.{digit_value}
use Rattle.std.specs.Str.Parse.{AllDigits}

pub all_by_place : (ds : List ℕ) → ((k : ℕ) → k < length ds → digit_value (get_or ds k 0) < 10) → AllDigits 10 ds
all_by_place [] each = tt
all_by_place (d ∷ ds) each = (each 0 (omega arith), all_by_place ds (λ k h. each (suc k) (omega arith)))

pub all_at : (ds : List ℕ) (k : ℕ) → AllDigits 10 ds → k < length ds → digit_value (get_or ds k 0) < 10
all_at [] k all h = absurd (omega arith)
all_at (d ∷ ds) zero all h = all.0
all_at (d ∷ ds) (suc k) all h = all_at ds k all.1 (omega arith)
