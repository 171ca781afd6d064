-- Slots that were filled beside each other.
use Rattle.std.proofs.Common.{◌≡◌, ℕ, ◌<◌, ◌++◌, All, None, Some, List, length, get_or, take, drop, sym}
use Rattle.std.specs.Prelude.{Option, IfSome, IsSome, IsSomeAnd}
use Rattle.std.proofs.Math.Seq.{take-append_seam}
use Rattle.std.proofs.lemmas.List.{get_or_default}

module _ {X : Type 0} (P : X → Type 0) where
  is_there : (slot : Option X) → IsSome slot → IfSome slot P → IsSomeAnd slot P
  is_there None some is = absurd cc
  is_there (Some x) some is = is

  all_there : (slots : List (Option X)) →
      ((k : ℕ) → k < length slots → IfSome (get_or slots k None) P) → All IsSome slots →
      All (λ slot. IsSomeAnd slot P) slots
  all_there slots filled some k d within =
      rw (sym (get_or_default slots k None d within))
      (is_there (get_or slots k None) (some k None within) (filled k within))

  -- the slots are written back
  pub filled : (empty slots : List (Option X)) → length slots ≡ length empty →
      ((k : ℕ) → k < length empty → IfSome (get_or slots k None) P) →
      All IsSome (take (length empty) (slots ++ drop (length slots) empty)) →
      All (λ slot. IsSomeAnd slot P) (take (length empty) (slots ++ drop (length slots) empty))
  filled empty slots count full some =
      let same : take (length empty) (slots ++ drop (length slots) empty) ≡ slots =
      rw (sym count) (take-append_seam slots (drop (length slots) empty)) in
      rw same (all_there slots (λ k within. full k (rw count at within)) (rw same at some))
