-- The readers get their passes one by one.
use Rattle.std.proofs.Common.{◌≡◌, ℕ, ◌+◌, ◌<◌, false, List, [], ◌∷◌, ◌++◌, length, get_or, drop, Option, Some, slice_get, sym, ap, ◌∙◌, subst, arith, All, IsSomeAnd}
use Rattle.std.proofs.lemmas.Option.{get_or_from_slice_get}
use mathlib.Core.Logic.{dite}
use native.Mathlib.Decide.{ℕ_discrete}
use Rattle.ring_words.specs.declared.seats.ReaderSeat.{ReaderSeat}
use Rattle.ring_words.specs.declared.words.Words.{Words}
use Rattle.ring_words.specs.Views.{fresh_reader}
use Rattle.ring_words.specs.Seats.{IsFreshReader, HasFreshReader}
use Rattle.ring_ends.specs.declared.ring.Ring.{Ring}
use Rattle.ring_ends.specs.declared.passes.ReaderPass.{ReaderPass}
use Rattle.ring_ends.specs.Passes.{ring_shape, reader_knows, ReadsFrom, HasFreshPass}
use Rattle.ring_ends.proofs.Rows.{removed, longer, at_end}

-- n passes were made of these seats
pub record Opening (ring : Ring) (all seats : List (Option ReaderSeat)) (n : ℕ)
    (passes : List (Option ReaderPass)) : Type 0 where
  pub left : seats ≡ drop n all
  pub count : length passes ≡ n
  pub fresh : (i : ℕ) → i < n → HasFreshPass ring passes i

pub passes_more : (ring : Ring) (passes : List (Option ReaderPass)) (n : ℕ) (p : ReaderPass) → length passes ≡ n →
    ReadsFrom ring p → reader_knows p ≡ fresh_reader (ring_shape ring) n → p.has_read ≡ false
    → ((i : ℕ) → i < n → HasFreshPass ring passes i) → (i : ℕ) → i < n + 1 → HasFreshPass ring (passes ++ Some p ∷ []) i
passes_more ring passes n p long reads new unread old i near = dite (ℕ_discrete i n)
    (λ same. (
      p,
      at_end passes (Some p) i (long ∙ sym same),
      reads,
      new
          ∙ ap (λ (k : ℕ). fresh_reader (ring_shape ring) k) (sym same),
      unread,
    ))
    (λ other. let h = old i (omega arith) in (h.0, longer passes (Some p ∷ []) i (Some h.0) h.1, h.2, h.3, h.4))

-- what is taken out at place n
pub taken : (words : Words) (all seats : List (Option ReaderSeat)) (n : ℕ) (o : Option ReaderSeat) →
    HasFreshReader words all n → seats ≡ drop n all → o ≡ get_or seats 0 o → (s : ReaderSeat) × (o ≡ Some s)
    × (slice_get all n ≡ Some (Some s)) × IsFreshReader words n s
taken words all seats n o h left first = (h.0, removed all seats n (Some h.0) o h.1 left first, h.1, h.2)

-- each of them is of the ring
pub all_passes : (ring : Ring) (passes : List (Option ReaderPass)) →
    ((i : ℕ) → i < length passes → HasFreshPass ring passes i) → All (λ o. IsSomeAnd o (ReadsFrom ring)) passes
all_passes ring passes fresh k d near = let h = fresh k near in
    subst (λ (o : Option ReaderPass). IsSomeAnd o (ReadsFrom ring))
    (sym (get_or_from_slice_get passes k (Some h.0) d h.1)) h.2
