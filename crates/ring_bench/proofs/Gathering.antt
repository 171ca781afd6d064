-- The readers are gathered one by one.
use Rattle.std.proofs.Common.{◌≡◌, ℕ, zero, suc, ◌+◌, ◌<◌, List, [], ◌∷◌, ◌++◌, length, length-append, Option, Some, slice_get, sym, refl, ap, ◌∙◌, arith}
use mathlib.Core.Logic.{dite}
use native.Mathlib.Decide.{ℕ_discrete}
use Rattle.ring_ends.specs.declared.ring.Ring.{Ring}
use Rattle.ring_ends.specs.declared.passes.EndedReader.{EndedReader}
use Rattle.ring_ends.specs.Passes.{ring_shape, ended_knows, EndedFrom}
use Rattle.ring_ends.specs.Ended.{Gives, AreInOrder}

-- so many readers of the ring, each at the place of its number
pub record Gathered (ring : Ring) (readers : List (Option EndedReader)) (n : ℕ) : Type 0 where
  pub count : length readers ≡ n
  pub each : (j : ℕ) → j < n →
      (e : EndedReader) × Gives readers j e × EndedFrom ring e × ((ended_knows e).number ≡ j)

module _ {A : Type 0} where
  longer : (l m : List A) (i : ℕ) (a : A) → slice_get l i ≡ Some a → slice_get (l ++ m) i ≡ Some a
  longer [] m i a e = cc
  longer (x ∷ xs) m zero a e = e
  longer (x ∷ xs) m (suc i) a e = longer xs m i a e

  at_end : (l : List A) (a : A) (n : ℕ) → length l ≡ n → slice_get (l ++ a ∷ []) n ≡ Some a
  at_end [] a zero e = refl
  at_end [] a (suc n) e = absurd (omega arith)
  at_end (x ∷ xs) a zero e = absurd (omega arith)
  at_end (x ∷ xs) a (suc n) e = at_end xs a n (omega arith)

pub one_more : (ring : Ring) (readers : List (Option EndedReader)) (n : ℕ) (e : EndedReader) →
    Gathered ring readers n → EndedFrom ring e → (ended_knows e).number ≡ n →
    Gathered ring (readers ++ Some e ∷ []) (n + 1)
one_more ring readers n e so_far from number = record {
  count = length-append readers (Some e ∷ []) ∙ ap (λ (k : ℕ). k + 1) so_far.count;
  each = λ j near. dite (ℕ_discrete j n)
      (λ same. (e, at_end readers (Some e) j (so_far.count ∙ sym same), from, number ∙ sym same))
      (λ other. let h = so_far.each j (omega arith) in
      (h.0, longer readers (Some e ∷ []) j (Some h.0) h.1, h.2, h.3));
}

pub all_gathered : (ring : Ring) (readers : List (Option EndedReader)) (n : ℕ) → n ≡ (ring_shape ring).readers →
    Gathered ring readers n → AreInOrder ring readers
all_gathered ring readers n all so_far = record {
  count = so_far.count ∙ all;
  each = λ j near. let count = so_far.count in so_far.each j (omega arith);
}
