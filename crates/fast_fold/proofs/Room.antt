-- The sizes of tables, and places in them.
use Rattle.std.proofs.Common.{◌≡◌, ℕ, ◌+◌, ◌-◌, ◌*◌, ◌^◌, ◌<◌, ◌≤◌, sym, ap, ◌∙◌, min, arith}
use Rattle.std.proofs.lemmas.Nat.{pow-add, mul-le, mul-add-lt}
use Rattle.std.proofs.Math.Nat.{mul-le-mul_right}
use Rattle.std.proofs.Math.Pow.{pow_mono}

-- what was loaded has room
pub loaded_fits : (longest most p m : ℕ) → p ≤ longest → m ≤ most → 2 ^ m * p ≤ longest * 2 ^ most
loaded_fits longest most p m short few = omega (arith, mul-le (2 ^ m) p (2 ^ most) longest (pow_mono few) short)

-- all blocks of two halves together
pub all_blocks : (m r p : ℕ) → r < m → 2 ^ (m - r - 1) * (2 * 2 ^ r * p) ≡ 2 ^ m * p
all_blocks m r p lt =
    let more : 2 ^ (r + 1) ≡ 2 ^ r * 2 = pow-add 2 r 1 in
    let whole : 2 ^ m ≡ 2 ^ (m - r - 1) * 2 ^ (r + 1) =
    ap (λ n. 2 ^ n) (let e : m ≡ (m - r - 1) + (r + 1) = omega arith in e) ∙ pow-add 2 (m - r - 1) (r + 1) in
    let size : 2 ^ m ≡ 2 ^ (m - r - 1) * (2 * 2 ^ r) =
    whole ∙ ap (λ x. 2 ^ (m - r - 1) * x) (let e : 2 ^ (r + 1) ≡ 2 * 2 ^ r = omega arith in e) in
    omega arith ∙ ap (λ x. x * p) (sym size)

-- the row of a trial lies within
pub row_fits : (m r p block j : ℕ) → r ≤ m → block < 2 ^ (m - r) → j < 2 ^ r → (block * 2 ^ r + j + 1) * p ≤ 2 ^ m * p
row_fits m r p block j le in_blocks in_trials =
    let whole : 2 ^ m ≡ 2 ^ (m - r) * 2 ^ r =
    ap (λ n. 2 ^ n) (let e : m ≡ (m - r) + r = omega arith in e) ∙ pow-add 2 (m - r) r in
    let row : block * 2 ^ r + j + 1 ≤ 2 ^ m =
    omega (arith, whole, mul-add-lt block (2 ^ r) j (2 ^ (m - r)) in_blocks in_trials) in
    mul-le-mul_right p row

-- a tile has room
pub tile_fits : (most m tile : ℕ) → m ≤ most → m ≤ 8 → 2 ^ min most 8 * 784 ≤ tile → 2 ^ m * 784 ≤ tile
tile_fits most m tile few few_of_tile room =
    let within : m ≤ min most 8 = omega arith in
    let fewer : 2 ^ m ≤ 2 ^ min most 8 = pow_mono within in
    omega (arith, fewer, room)
