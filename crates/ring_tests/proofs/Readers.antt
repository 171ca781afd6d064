-- Three readers, as the ring was opened with them.
use Rattle.std.proofs.Common.{◌≡◌, ℕ, zero, suc, ◌<◌, [], ◌∷◌, Some, sym, refl, arith}
use Rattle.ring_ends.specs.declared.ring.Ring.{Ring}
use Rattle.ring_ends.specs.declared.passes.EndedReader.{EndedReader}
use Rattle.ring_ends.specs.Passes.{ring_shape, ended_knows, EndedFrom}
use Rattle.ring_ends.specs.Ended.{Gives, AreInOrder}

pub three : (ring : Ring) (a b c : EndedReader) → (ring_shape ring).readers ≡ 3 →
    EndedFrom ring a × ((ended_knows a).number ≡ 0) → EndedFrom ring b × ((ended_knows b).number ≡ 1) →
    EndedFrom ring c × ((ended_knows c).number ≡ 2) → AreInOrder ring (Some a ∷ Some b ∷ Some c ∷ [])
three ring a b c count first second third = record { count = sym count; each = stands }
  where
    stands : (j : ℕ) → j < 3 → (e : EndedReader) × Gives (Some a ∷ Some b ∷ Some c ∷ []) j e × EndedFrom ring e
        × ((ended_knows e).number ≡ j)
    stands zero near = (a, refl, first.0, first.1)
    stands (suc zero) near = (b, refl, second.0, second.1)
    stands (suc (suc zero)) near = (c, refl, third.0, third.1)
    stands (suc (suc (suc j))) near = absurd (omega arith)
