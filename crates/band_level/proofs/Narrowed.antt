-- Scales of 32 bits stand for those of 64.
use Rattle.std.proofs.Common.{ℕ, ◌+◌, ◌*◌, ◌^◌, ◌≤◌, List, length, arith}
use Rattle.std.proofs.Math.Nat.{mul-le-mul_left}
use Rattle.band_level.specs.Scales.{unit}
use Rattle.band_level.specs.Rows.{AreNarrow, LevelsRow, NarrowAt}

-- there is room for what is made of a value
pub room_for : (most gain base lift g b l x : ℕ) → NarrowAt most gain base lift g b l → x ≤ most
    → b + g * x + unit ≤ 2 ^ 32
room_for most gain base lift g b l x narrow le =
    rw (narrow.same_gain, narrow.same_base) (omega (arith, mul-le-mul_left gain le, narrow.room))

pub levels_in_full : (most most_value : ℕ) (row gains bases lifts narrow_gains narrow_bases narrow_lifts old levels new : List ℕ)
    → AreNarrow (length row) most_value gains bases lifts narrow_gains narrow_bases narrow_lifts
    → LevelsRow most row narrow_gains narrow_bases narrow_lifts old levels new
    → LevelsRow most row gains bases lifts old levels new
levels_in_full most most_value row gains bases lifts narrow_gains narrow_bases narrow_lifts old levels new narrow levelled =
    record {
      level = λ i lt.
          let at = narrow i lt in
          rw (← at.same_gain, ← at.same_base, ← at.same_lift) (levelled.level i lt);
      fraction = λ i lt.
          let at = narrow i lt in
          rw (← at.same_gain, ← at.same_base) (levelled.fraction i lt);
    }
