-- Beams that are closed one after another.
use Rattle.std.proofs.Common.{◌≡◌, ℕ, ◌+◌, ◌<◌, List, [], ◌∷◌, ◌++◌, length, get_or, remove, drop, Option, None, inl, inr, refl, sym, ◌∙◌, arith}
use Rattle.std.proofs.lemmas.Bool.{cases_lt}
use Rattle.std.proofs.lemmas.List.{get_or_append_left, get_or_read, drop_more}
use Rattle.std.proofs.Math.Seq.{get_or-append_seam}
use Rattle.beam_set.specs.declared.ended.BeamEnd.{BeamEnd}
use Rattle.beam_set.specs.declared.beam.Beam.{Beam}
use Rattle.beam_set.specs.Sets.{IsSlotEnd}

-- the first k beams came to these ends
abbrev pub ClosedUpTo : ℕ → List (Option Beam) → List (Option BeamEnd) → Type 0
ClosedUpTo k all ends = (b : ℕ) → b < k → IsSlotEnd (get_or all b None) (get_or ends b None)

pub next_closed : (all : List (Option Beam)) (ends : List (Option BeamEnd)) (k : ℕ) (x : Option Beam)
    (end : Option BeamEnd) → k < length all → x ≡ get_or all k x → length ends ≡ k → IsSlotEnd x end →
    ClosedUpTo k all ends → ClosedUpTo (k + 1) all (ends ++ end ∷ [])
next_closed all ends k x end near first count is closed = λ b below. elim (cases_lt b k) [
  | inl before ↦ rw (get_or_append_left ends (end ∷ []) None b (omega arith)) (closed b before)
  | inr from ↦
      let at : b ≡ length ends = omega arith in
      rw (at, get_or-append_seam ends end [] None, count, sym (get_or_read all k x near first None)) is
]

-- the first of those that are left, and the others
module _ {A : Type 0} (all left : List A) (k : ℕ) (is : left ≡ drop k all) (near : k < length all) where
  pub first_left : (x : A) → x ≡ get_or left 0 x → x ≡ get_or all k x
  first_left x first = first ∙ rw (is, drop_more all k x near) refl

  pub others_left : (x : A) (rest : List A) → rest ≡ remove left 0 → rest ≡ drop (k + 1) all
  others_left x rest removed = removed ∙ rw (is, drop_more all k x near) refl
