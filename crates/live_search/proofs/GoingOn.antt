-- A search that goes on from the checkpoint at the end of a part.
use Rattle.std.proofs.Common.{◌≡◌, ℕ, zero, suc, ◌+◌, ◌≤◌, ◌++◌, List, [], refl, sym, ◌∙◌, ap, append-nil, append_assoc, arith}
use Rattle.search_model.specs.declared.candidate.Candidate.{Candidate}
use Rattle.search_model.specs.Parts.{check_line}
use Rattle.warm_restart.specs.Checkpoint.{CanBeSaid}
use Rattle.warm_restart.specs.Counts.{greatest_count}
use Rattle.warm_restart.specs.declared.checkpoint.Checkpoint.{Checkpoint}
use Rattle.live_search.specs.LiveText.{Layout, after_parts, end_mark, last_lines, lines_at, marked_parts, marked_text, next_after, next_end, parts_before}
use Rattle.live_search.proofs.Counts.{at_next, at_none, count, count_is, end_after, place_before}

-- the last line of n parts
pub line_is : (l : Layout) (from : Checkpoint) (list : List Candidate) (n : ℕ) →
    let at = after_parts l from list (suc n) in
    marked_parts check_line l from list (suc n)
    ≡ (marked_parts check_line l from list n ++ lines_at l (after_parts l from list n) list)
    ++ check_line at.place at.pulses
unfolding marked_parts after_parts
line_is l from list n = refl

module _ (l : Layout) (some : 1 ≤ l.every) (from : Checkpoint) (list : List Candidate) where
  abbrev at : ℕ → Checkpoint
  at n = after_parts l from list n

  abbrev marked : ℕ → List ℕ
  marked n = marked_parts check_line l from list n

  -- the parts from the n-th on are those from its checkpoint on
  pub at_further : (n k m : ℕ) → n + k ≡ m → after_parts l (at n) list k ≡ at m
  at_further n zero m is =
      let same : n ≡ m = omega (arith, is) in
      at_none l some (at n) list ∙ ap at same
  at_further n (suc k) zero is = absurd (omega (arith, is))
  at_further n (suc k) (suc m) is =
      at_next l some (at n) list k ∙ ap (λ c. next_after l c list) (at_further n k m (omega (arith, is)))
      ∙ sym (at_next l some from list m)

  marked_none : (c : Checkpoint) → marked_parts check_line l c list 0 ≡ []
  unfolding marked_parts
  marked_none c = refl

  -- what a part adds to the text
  abbrev piece : Checkpoint → List ℕ
  piece c = let end = next_after l c list in lines_at l c list ++ check_line end.place end.pulses

  marked_next : (c : Checkpoint) (k : ℕ) → marked_parts check_line l c list (suc k)
      ≡ marked_parts check_line l c list k ++ piece (after_parts l c list k)
  unfolding marked_parts
  marked_next c k =
      let p = after_parts l c list k in
      let end = next_after l p list in
      append_assoc (marked_parts check_line l c list k) (lines_at l p list) (check_line end.place end.pulses)

  pub marked_further : (n k m : ℕ) → n + k ≡ m →
      marked m ≡ marked n ++ marked_parts check_line l (at n) list k
  marked_further n zero m is =
      let same : m ≡ n = omega (arith, is) in
      ap marked same ∙ sym (append-nil (marked n)) ∙ ap (λ ts. marked n ++ ts) (sym (marked_none (at n)))
  marked_further n (suc k) zero is = absurd (omega (arith, is))
  marked_further n (suc k) (suc m) is =
      let before : n + k ≡ m = omega (arith, is) in
      marked_next from m
      ∙ ap (λ ts. ts ++ piece (at m)) (marked_further n k m before)
      ∙ ap (λ c. (marked n ++ marked_parts check_line l (at n) list k) ++ piece c) (sym (at_further n k m before))
      ∙ append_assoc (marked n) (marked_parts check_line l (at n) list k) (piece (after_parts l (at n) list k))
      ∙ ap (λ ts. marked n ++ ts) (sym (marked_next (at n) k))

  -- how many parts follow
  pub parts_left : (n k spectra : ℕ) → n + k ≡ count l some from list spectra →
      parts_before l.every (at n).place spectra ≡ k
  parts_left n k spectra is =
      let m = count l some from list spectra in
      let further : after_parts l (at n) list k ≡ at m = at_further n k m is in
      let place = ap (λ (c : Checkpoint). c.place) further in
      let end = ap (λ (c : Checkpoint). next_end l.every c.place) further in
      let after = end_after l some from list spectra in
      count_is l some (at n) list k spectra
      (λ more. let past = place_before l some from list m spectra (omega arith) (omega (arith, is, more)) in
      omega (arith, place, past))
      (omega (arith, end, after))

  pub text_further : (n k spectra : ℕ) → n + k ≡ count l some from list spectra →
      marked_text check_line l from spectra list
      ≡ marked n ++ marked_text check_line l (at n) spectra list
  text_further n k spectra is =
      let m = count l some from list spectra in
      let rest = marked_parts check_line l (at n) list k in
      let last : Checkpoint → List ℕ = λ c. last_lines end_mark l c spectra list in
      ap (λ ts. ts ++ last (at m)) (marked_further n k m is)
      ∙ append_assoc (marked n) rest (last (at m))
      ∙ ap (λ c. marked n ++ (rest ++ last c)) (sym (at_further n k m is))
      ∙ ap (λ j. marked n ++ (marked_parts check_line l (at n) list j ++ last (after_parts l (at n) list j)))
      (sym (parts_left n k spectra is))

  -- the numbers of its checkpoint
  pub said : (n spectra : ℕ) → from.place ≤ greatest_count → spectra ≤ greatest_count →
      n ≤ count l some from list spectra → (at n).pulses ≤ greatest_count → CanBeSaid (at n)
  said zero spectra first all few pulses =
      let none = ap (λ (c : Checkpoint). c.place) (at_none l some from list) in
      record { place = omega (arith, none, first); pulses = pulses }
  said (suc n) spectra first all few pulses =
      let past = place_before l some from list (suc n) spectra few (omega arith) in
      record { place = omega (arith, past, all); pulses = pulses }
