-- Where things begin that stand one after another.
use Rattle.std.proofs.Common.{◌≡◌, ℕ, ◌+◌, ◌-◌, ◌*◌, ◌≤◌, ◌<◌, List, slice_index, arith, zero, suc}
use Rattle.subband_plan.specs.Rows.{ArePlaces}

-- where no size is above `most`
pub places_few : (size : ℕ → ℕ) (count most : ℕ) (places : List ℕ) → ArePlaces size count places →
    ((k : ℕ) → k < count → size k ≤ most) → (k : ℕ) → k ≤ count → slice_index places k ≤ most * k
places_few size count most places are small zero h = let first = are.first in omega arith
places_few size count most places are small (suc k) h =
    let before = places_few size count most places are small k (omega arith) in
    let next = are.next k (omega arith) in
    let here = small k (omega arith) in
    let e : suc k ≡ k + 1 = omega arith in
    rw e (omega arith)

places_on : (size : ℕ → ℕ) (count : ℕ) (places : List ℕ) → ArePlaces size count places → (j m : ℕ) →
    j + m ≤ count → slice_index places j ≤ slice_index places (j + m)
places_on size count places are j zero h = let e : j + zero ≡ j = omega arith in rw e (omega arith)
places_on size count places are j (suc m) h =
    let before = places_on size count places are j m (omega arith) in
    let next = are.next (j + m) (omega arith) in
    let e : j + suc m ≡ j + m + 1 = omega arith in
    rw e (omega arith)

-- they never fall
pub places_rise : (size : ℕ → ℕ) (count : ℕ) (places : List ℕ) → ArePlaces size count places → (j k : ℕ) →
    j ≤ k → k ≤ count → slice_index places j ≤ slice_index places k
places_rise size count places are j k h most =
    let m : ℕ = k - j in
    let e : j + m ≡ k = omega arith in
    rw e at (places_on size count places are j m (omega arith))
