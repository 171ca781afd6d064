-- Bounds on the split of a delay.
use Rattle.std.proofs.Common.{◌≡◌, ℕ, ◌+◌, ◌-◌, ◌*◌, ◌/◌, ◌%◌, ◌≤◌, ◌<◌, arith}
use Rattle.std.proofs.lemmas.Nat.{mul-le, le-div, div_below}
use Rattle.dada_model.specs.Observation.{square}
use Rattle.search_model.specs.SubbandLaws.{StepsByOne}
use Rattle.search_model.specs.Paths.{split}

square_below : (a b : ℕ) → a < b → square a < square b
square_below a b h = omega (arith, mul-le (a + 1) (a + 1) b b (omega arith) (omega arith))

-- of numbers x + y + l > y + l > l, the two products that a split compares
products : (x y l : ℕ) → 0 < x → 0 < y → x * l < (x + y) * (y + l)
products x y l px py = omega (arith, mul-le 1 1 x y px py)

-- a split's numerator is below its denominator
pub part_below : (high mid low : ℕ) → low < mid → mid < high →
    (square high - square mid) * square low < (square high - square low) * square mid
part_below high mid low lm mh =
    let b1 = square_below low mid lm in
    let b2 = square_below mid high mh in
    let p = products (square high - square mid) (square mid - square low) (square low) (omega arith) (omega arith) in
    let e1 : square high - square mid + (square mid - square low) ≡ square high - square low = omega arith in
    let e2 : square mid - square low + square low ≡ square mid = omega arith in
    rw e1 at (rw e2 at p)

-- a part p / q of d, with p below q, rounded to the nearest number, is at most d
pub rounded : (p q d : ℕ) → p < q → (2 * d * p + q) / (2 * q) ≤ d
rounded p q d h =
    let more : 2 * d * p + q < (d + 1) * (2 * q) = omega (arith, mul-le d p d q (omega arith) (omega arith)) in
    let small : (2 * d * p + q) / (2 * q) < d + 1 = div_below (2 * d * p + q) (2 * q) (d + 1) (omega arith) more in
    omega arith

-- the upper half gets no more than the delay
pub split_le : (high mid low d : ℕ) → low < mid → mid < high → split high mid low d ≤ d
split_le high mid low d lm mh = rounded _ _ d (part_below high mid low lm mh)

-- from d to d + 1 the rounded part rises by 1 or not at all
rounded_steps : (p q d : ℕ) → p < q → StepsByOne ((2 * d * p + q) / (2 * q)) ((2 * (d + 1) * p + q) / (2 * q))
rounded_steps p q d h =
    let more : 2 * (d + 1) * p + q ≡ 2 * d * p + q + 2 * p = omega arith in
    let a = 2 * d * p + q in
    let divided : 2 * q * (a / (2 * q)) + a % (2 * q) ≡ a = omega arith in
    let rest : a % (2 * q) < 2 * q = omega arith in
    let below : a + 2 * p < (a / (2 * q) + 2) * (2 * q) = omega arith in
    record {
      rises = rw more (le-div (a / (2 * q)) (a + 2 * p) (2 * q) (omega arith) (omega arith));
      by_one = rw more (let most = div_below (a + 2 * p) (2 * q) (a / (2 * q) + 2) (omega arith) below in omega arith);
    }

pub split_steps : (high mid low d : ℕ) → low < mid → mid < high →
    StepsByOne (split high mid low d) (split high mid low (d + 1))
split_steps high mid low d lm mh = rounded_steps _ _ d (part_below high mid low lm mh)
