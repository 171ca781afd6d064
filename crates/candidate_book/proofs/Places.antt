-- The places that books were written to, and their sum.
use Rattle.std.proofs.Common.{◌≡◌, ℕ, ◌+◌, ◌*◌, ◌<◌, ◌≤◌, List, length, get_or, set, replicate, zero, suc, refl, arith}
use Rattle.std.specs.Prelude.{All}
use Rattle.std.specs.List.{sum_by}
use Rattle.std.proofs.lemmas.List.Sums.{sum_by-set, sum_by-le}
use Rattle.std.proofs.lemmas.List.Elements.{All-set}

abbrev pub sum_of : List ℕ → ℕ
sum_of places = sum_by (λ (place : ℕ). place) places

-- one book moves by one
pub sum_moves : (places : List ℕ) (i : ℕ) → i < length places →
    sum_of (set places i (get_or places i 0 + 1)) ≡ sum_of places + 1
sum_moves places i within =
    let whole = sum_by-set (λ (place : ℕ). place) places i (get_or places i 0 + 1) 0 within in
    omega arith

pub sum_is_small : (places : List ℕ) (most : ℕ) → All (λ place. place ≤ most) places →
    sum_of places ≤ length places * most
sum_is_small places most small = sum_by-le (λ (place : ℕ). place) most places small

pub moves_within : (places : List ℕ) (i most : ℕ) → All (λ place. place ≤ most) places → get_or places i 0 < most →
    All (λ place. place ≤ most) (set places i (get_or places i 0 + 1))
moves_within places i most small below =
    All-set (λ (place : ℕ). place ≤ most) places i (get_or places i 0 + 1) (omega arith) small

-- at first each book is at its beginning
pub begins_at : (n k : ℕ) → get_or {A = ℕ} (replicate {A = ℕ} n 0) k 0 ≡ 0
begins_at zero k = refl
begins_at (suc n) zero = refl
begins_at (suc n) (suc k) = begins_at n k
