-- The text so far is a front of all that is written later.
use Rattle.std.proofs.Common.{◌≡◌, ◌≢◌, ℕ, zero, suc, ◌+◌, ◌-◌, ◌≤◌, ◌++◌, inl, inr, Bool, true, false, cond, List, [], refl, sym, ◌∙◌, ap, subst, append-nil, append_assoc, arith}
use Rattle.std.specs.Prelude.{nat_eq, nat_lt}
use Rattle.std.proofs.lemmas.Bool.{cases_eq, cases_lt, lt-ltb}
use Rattle.std.proofs.lemmas.Bool.Decides.{nat_tests}
use Rattle.std.proofs.lemmas.List.{length-append}
use Rattle.dada_model.specs.Bounds.{ObservationInRange}
use Rattle.dada_model.specs.Observation.{Observation}
use Rattle.search_model.specs.declared.candidate.Candidate.{Candidate}
use Rattle.search_model.specs.Observed.{candidates_of, filterbank_of}
use Rattle.search_model.specs.Parts.{check_line}
use Rattle.warm_restart.specs.declared.checkpoint.Checkpoint.{Checkpoint}
use Rattle.live_search.specs.LiveText.{Layout, after_parts, end_mark, last_lines, layout_of, lines_at, live_text, marked_parts, next_after, next_end, marked_text, stopped_text, text_so_far}
use Rattle.live_search.specs.Laws.{IsFront}
use Rattle.live_search.specs.Live.{Task, so_far}
use Rattle.live_search.proofs.Sizes.{no_spectra, spectra_grow}
use Rattle.live_search.proofs.Counts.{count, count_is, count_rises, end_after, next_past}

-- ---- fronts

front_none : (xs : List ℕ) → IsFront xs xs
front_none xs = ([], sym (append-nil xs))

front_more : (xs ys zs : List ℕ) → IsFront xs ys → IsFront xs (ys ++ zs)
front_more xs ys zs is = (is.0 ++ zs, ap (λ ts. ts ++ zs) is.1 ∙ append_assoc xs is.0 zs)

front_joins : (xs ys zs : List ℕ) → IsFront xs ys → IsFront ys zs → IsFront xs zs
front_joins xs ys zs first second =
    (first.0 ++ second.0, second.1 ∙ ap (λ ts. ts ++ second.0) first.1 ∙ append_assoc xs first.0 second.0)

front_behind : (before xs ys : List ℕ) → IsFront xs ys → IsFront (before ++ xs) (before ++ ys)
front_behind before xs ys is =
    (is.0, ap (λ ts. before ++ ts) is.1 ∙ sym (append_assoc before xs is.0))

front_at_most : (b : Bool) (before xs : List ℕ) → IsFront (before ++ cond b xs []) (before ++ xs)
front_at_most true before xs = front_none (before ++ xs)
front_at_most false before xs = (xs, ap (λ ts. ts ++ xs) (sym (append-nil before)))

module _ (l : Layout) (some : 1 ≤ l.every) (from : Checkpoint) (list : List Candidate) where
  abbrev at : ℕ → Checkpoint
  at n = after_parts l from list n

  abbrev marked : ℕ → List ℕ
  marked n = marked_parts check_line l from list n

  abbrev lines : ℕ → List ℕ
  lines n = lines_at l (at n) list

  abbrev parts : ℕ → ℕ
  parts spectra = count l some from list spectra

  -- the lines of a part, and then its CHECK line
  part_front : (n : ℕ) → IsFront (marked n ++ lines n) (marked (suc n))
  unfolding marked_parts
  part_front n =
      let end = next_after l (at n) list in (check_line end.place end.pulses, refl)

  -- the first parts are a front of more of them
  pub marked_front : (n more : ℕ) (m : ℕ) → n + more ≡ m → IsFront (marked n) (marked m)
  marked_front n zero m is =
      let same : m ≡ n = omega (arith, is) in
      ([], ap marked same ∙ sym (append-nil (marked n)))
  marked_front n (suc more) zero is = absurd (omega (arith, is))
  marked_front n (suc more) (suc m) is =
      front_joins (marked n) (marked m) (marked (suc m)) (marked_front n more m (omega (arith, is)))
      (front_joins (marked m) (marked m ++ lines m) (marked (suc m)) (lines m, refl) (part_front m))

  -- where no part ends with so many spectra
  amid_front : (few : ℕ) → next_end l.every (at (parts few)).place ≢ few → (text : List ℕ) →
      IsFront (marked (parts few)) text → IsFront (text_so_far l from few list) text
  amid_front few other text is =
      let n = parts few in
      let not_yet : nat_eq (next_end l.every (at n).place) few ≡ false = grind (arith, nat_tests, other) in (
        is.0,
        is.1 ∙ ap (λ ts. ts ++ is.0) (sym (append-nil (marked n)))
            ∙ ap (λ b. (marked n ++ cond b (lines n) []) ++ is.0) (sym not_yet),
      )

  -- What is written once more spectra came begins with it, if it begins with the lines of a part that ends there.
  pub grows : (few spectra : ℕ) → few ≤ spectra → (rest : List ℕ) →
      (next_end l.every (at (parts spectra)).place ≡ spectra → IsFront (lines (parts spectra)) rest) →
      IsFront (text_so_far l from few list) (marked (parts spectra) ++ rest)
  grows few spectra less rest begins =
      let n = parts few in
      let m = parts spectra in
      let b : Bool = nat_eq (next_end l.every (at n).place) few in
      let rises = count_rises l some from list few spectra less in
      elim (cases_lt n m) [
        | inl fewer ↦
            let next : suc n + (m - suc n) ≡ m = omega (arith, fewer) in
            front_more (text_so_far l from few list) (marked m) rest
            (front_joins (text_so_far l from few list) (marked n ++ lines n) (marked m)
            (front_at_most b (marked n) (lines n))
            (front_joins (marked n ++ lines n) (marked (suc n)) (marked m) (part_front n)
            (marked_front (suc n) (m - suc n) m next)))
        | inr all ↦
            let same : n ≡ m = omega (arith, rises, all) in
            elim (cases_eq (next_end l.every (at n).place) few) [
              | inl here ↦
                  let later = end_after l some from list spectra in
                  let end = ap (λ k. next_end l.every (at k).place) same in
                  let is : next_end l.every (at m).place ≡ spectra = omega (arith, here, later, end, less) in
                  front_joins (text_so_far l from few list) (marked n ++ lines n) (marked m ++ rest)
                  (front_at_most b (marked n) (lines n))
                  (subst (λ k. IsFront (marked k ++ lines k) (marked m ++ rest)) (sym same)
                  (front_behind (marked m) (lines m) rest (begins is)))
              | inr other ↦
                  amid_front few other (marked m ++ rest)
                  (front_more (marked n) (marked m) rest
                  ([], ap marked (sym same) ∙ sym (append-nil (marked n))))
            ]
      ]

  -- ---- what is written

  pub so_far_grows : (few spectra : ℕ) → few ≤ spectra →
      IsFront (text_so_far l from few list) (text_so_far l from spectra list)
  so_far_grows few spectra less =
      let m = parts spectra in
      grows few spectra less (cond (nat_eq (next_end l.every (at m).place) spectra) (lines m) [])
      (λ is.
      let here : nat_eq (next_end l.every (at m).place) spectra ≡ true = grind (arith, nat_tests, is) in
      ([], ap (λ b. cond b (lines m) []) here ∙ sym (append-nil (lines m))))

  -- the last part has the lines of a part that ends there
  last_begins : (spectra : ℕ) → next_end l.every (at (parts spectra)).place ≡ spectra →
      IsFront (lines (parts spectra)) (last_lines check_line l (at (parts spectra)) spectra list)
  last_begins spectra is =
      let m = parts spectra in
      subst (λ u. IsFront (lines m) (last_lines check_line l (at m) u list)) is
      (check_line (next_end l.every (at m).place) (next_after l (at m) list).pulses, refl)

  pub stopped_grows : (few spectra : ℕ) → few ≤ spectra →
      IsFront (text_so_far l from few list) (stopped_text l from spectra list)
  stopped_grows few spectra less =
      let m = parts spectra in
      let last = last_lines check_line l (at m) spectra list in
      grows few spectra less (cond (nat_lt (at m).place spectra) last [])
      (λ is.
      let past = next_past l.every (at m).place some in
      subst (λ b. IsFront (lines m) (cond b last [])) (sym (lt-ltb (at m).place spectra (omega (arith, past, is))))
      (last_begins spectra is))

-- ---- with an END line

module _ (l : Layout) (some : 1 ≤ l.every) (from : Checkpoint) (list : List Candidate) where
  ended_begins : (spectra : ℕ) →
      let at = after_parts l from list (count l some from list spectra) in
      next_end l.every at.place ≡ spectra →
      IsFront (lines_at l at list) (last_lines end_mark l at spectra list)
  ended_begins spectra is =
      let at = after_parts l from list (count l some from list spectra) in
      subst (λ u. IsFront (lines_at l at list) (last_lines end_mark l at u list)) is
      (end_mark (next_end l.every at.place) (next_after l at list).pulses, refl)

  pub whole_grows : (few spectra : ℕ) → few ≤ spectra →
      IsFront (text_so_far l from few list) (marked_text check_line l from spectra list)
  whole_grows few spectra less =
      let at = after_parts l from list (count l some from list spectra) in
      grows l some from list few spectra less (last_lines end_mark l at spectra list) (ended_begins spectra)

  -- nothing is written of data that don't pass the first place
  pub nothing_yet : (spectra : ℕ) → spectra ≤ from.place → text_so_far l from spectra list ≡ []
  unfolding marked_parts after_parts
  nothing_yet spectra few =
      let past = next_past l.every from.place some in
      let first = count_is l some from list 0 spectra
      (λ more. absurd (omega (arith, more))) (omega (arith, few, past)) in
      let tail : ℕ → List ℕ = λ n. let at = after_parts l from list n in
      cond (nat_eq (next_end l.every at.place) spectra) (lines_at l at list) [] in
      let not_yet : nat_eq (next_end l.every from.place) spectra ≡ false = grind (arith, nat_tests, few, past) in
      ap (λ n. marked_parts check_line l from list n ++ tail n) first
      ∙ ap (λ b. cond b (lines_at l from list) []) not_yet

-- ---- of data bytes

module _ (o : Observation) (range : ObservationInRange o) (t : Task) (some : 1 ≤ t.every) where
  pub data_grow : (bytes more : List ℕ) →
      IsFront (so_far o t (bytes ++ more) bytes) (live_text o t.search t.every t.from (bytes ++ more))
  data_grow bytes more =
      let count = length-append bytes more in
      whole_grows (layout_of o t.search t.every) some t.from (candidates_of o t.search (bytes ++ more))
      (filterbank_of o bytes).spectra (filterbank_of o (bytes ++ more)).spectra
      (spectra_grow o bytes (bytes ++ more) range (omega (arith, count)))

  pub data_before : (all bytes : List ℕ) → (filterbank_of o bytes).spectra ≤ t.from.place → so_far o t all bytes ≡ []
  data_before all bytes few =
      nothing_yet (layout_of o t.search t.every) some t.from (candidates_of o t.search all)
      (filterbank_of o bytes).spectra few

  pub data_begins : (all : List ℕ) → so_far o t all [] ≡ []
  data_begins all = let none = no_spectra o range in data_before all [] (omega (arith, none))
