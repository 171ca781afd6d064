-- Three pairs.
use Rattle.std.proofs.Common.{ℕ, zero, suc, ◌<◌, [], ◌∷◌, arith}
use Rattle.std.specs.Prelude.{slice_index_or}
use Rattle.beam_set.specs.Sets.{EachPair}

module _ {A B : Type 0} (P : A → B → Type 0) (a b c : A) (x y z : B) (one : P a x) (two : P b y) (three : P c z) where
  pub each_of_three : EachPair P (a ∷ b ∷ c ∷ []) (x ∷ y ∷ z ∷ [])
  each_of_three = record { count = omega arith; each = each }
    where
      each : (k : ℕ) (d : A) (w : B) → k < 3 →
          P (slice_index_or (a ∷ b ∷ c ∷ []) k d) (slice_index_or (x ∷ y ∷ z ∷ []) k w)
      each zero d w within = one
      each (suc zero) d w within = two
      each (suc (suc zero)) d w within = three
      each (suc (suc (suc k))) d w within = absurd (omega (arith, within))
