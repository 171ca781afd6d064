-- The pulses of a window of ends among those of a larger one.
use Rattle.std.proofs.Common.{◌≡◌, ◌∙◌, ℕ, ◌+◌, ◌-◌, ◌*◌, ◌≤◌, ◌<◌, ◌&&◌, ◌⊎◌, inl, inr, Bool, true, false, cond, leb, ltb, List, [], ◌∷◌, ◌++◌, zero, suc, refl, sym, ap, arith}
use Rattle.std.specs.List.{filter, flat_map, range_with_len}
use Rattle.std.proofs.lemmas.Bool.{cases_lt, le-leb, lt-leb}
use Rattle.std.proofs.lemmas.List.Elements.{filter-append}
use Rattle.fold_search.specs.Cells.{CellCounts, cells_by}
use Rattle.search_model.specs.declared.candidate.Candidate.{Candidate}
use Rattle.search_model.specs.declared.candidate.Candidate.TheVariants.{Pulse, Fold}
use Rattle.search_model.specs.declared.search.Search.{Search}
use Rattle.search_model.specs.Candidates.{delay_of, if_detected, within_delays}
use Rattle.search_model.specs.Detection.{is_detected}
use Rattle.search_model.specs.Parts.{ends_within, within_part}
use Rattle.search_model.specs.Search.{widths}
use Rattle.shard_search.specs.Pulses.{box_of, pulse_of, pulses_of_delay, pulses_of_end, pulses_of_ends}
use Rattle.shard_search.specs.Sought.{Sought, cells_in, is_sought_end}

not_both : {X : Type 0} (b : Bool) (xs : List X) → cond (b && false) xs [] ≡ []
not_both true xs = refl
not_both false xs = refl

-- ---- pulses of ends that are not sought

unsought : (y : ℕ → ℕ → ℕ) (s : Search) (c : Sought) (u d w : ℕ) → is_sought_end c u ≡ false →
    pulse_of y s c u d w ≡ []
unfolding pulse_of
unsought y s c u d w out =
    let found = if_detected (cells_in c) s (Pulse (c.first + u) d w (box_of y d u w)) in
    ap (λ b. cond (leb (d + w) (u + 1) && b) found []) out ∙ not_both (leb (d + w) (u + 1)) found

none_flat : (g : ℕ → List Candidate) → ((k : ℕ) → g k ≡ []) → (ks : List ℕ) → flat_map g ks ≡ []
none_flat g none [] = refl
none_flat g none (k ∷ ks) = ap (λ xs. xs ++ flat_map g ks) (none k) ∙ none_flat g none ks

none_in : (g : ℕ → List Candidate) (start count : ℕ) →
    ((u : ℕ) → start ≤ u → u < start + count → g u ≡ []) → flat_map g (range_with_len start count) ≡ []
none_in g start zero none = refl
none_in g start (suc count) none =
    ap (λ xs. xs ++ flat_map g (range_with_len (start + 1) count)) (none start (omega arith) (omega arith))
    ∙ none_in g (start + 1) count (λ u from to. none u (omega arith) (omega arith))

pub none_sought : (y : ℕ → ℕ → ℕ) (s : Search) (c : Sought) (first end count : ℕ) →
    ((u : ℕ) → u < count → is_sought_end c u ≡ false) → pulses_of_ends y s c first end 0 count ≡ []
none_sought y s c first end count out =
    none_in (λ u. pulses_of_end y s c first end u) 0 count
    (λ u from to. none_flat (λ d. pulses_of_delay y s c u d)
    (λ d. none_flat (λ w. pulse_of y s c u d w)
    (λ w. unsought y s c u d w (out u (omega arith))) (widths s))
    (range_with_len first (end - first)))

-- ---- a window

-- an end of the window is sought in the larger one too
abbrev pub IsInside : Sought → ℕ → ℕ → Sought → ℕ → Type 0
IsInside c place until d u = (ends_within place until (Pulse (c.first + u) 0 0 0) ≡ is_sought_end c u)
    × ((is_sought_end c u ≡ false) ⊎ (is_sought_end d u ≡ true))

keep_none : (b : Bool) → let none : List Candidate = [] in none ≡ cond b none none
keep_none true = refl
keep_none false = refl

one_kept : (p : Candidate → Bool) (x : Candidate) (begins all own found : Bool) → p x ≡ own →
    (own ≡ false) ⊎ (all ≡ true) →
    filter p (cond (begins && all) (cond found (x ∷ []) []) []) ≡ cond (begins && own) (cond found (x ∷ []) []) []
one_kept p x false all own found same inside = refl
one_kept p x true true own true same inside = ap (λ b. cond b (x ∷ []) []) same
one_kept p x true true own false same inside = keep_none own
one_kept p x true false true found same inside = elim inside [
  | inl off ↦ absurd (let other : true ≡ false = off in cc)
  | inr on ↦ absurd (let other : false ≡ true = on in cc)
]
one_kept p x true false false found same inside = refl

pulse_kept : (y : ℕ → ℕ → ℕ) (s : Search) (c d : Sought) (place until u e w : ℕ) → d.counts ≡ c.counts →
    d.first ≡ c.first → IsInside c place until d u →
    filter (ends_within place until) (pulse_of y s d u e w) ≡ pulse_of y s c u e w
unfolding pulse_of
pulse_kept y s c d place until u e w counts first inside =
    let sum = box_of y e u w in
    let p = ends_within place until in
    ap (λ k. filter p (cond (leb (e + w) (u + 1) && is_sought_end d u)
    (cond (is_detected s.mean s.sd s.snr sum (w * cells_in d e)) (Pulse (k + u) e w sum ∷ []) []) [])) first
    ∙ one_kept p (Pulse (c.first + u) e w sum) (leb (e + w) (u + 1)) (is_sought_end d u) (is_sought_end c u)
    (is_detected s.mean s.sd s.snr sum (w * cells_in d e)) inside.0 inside.1
    ∙ ap (λ k. cond (leb (e + w) (u + 1) && is_sought_end c u)
    (cond (is_detected s.mean s.sd s.snr sum (w * k)) (Pulse (c.first + u) e w sum ∷ []) []) [])
    (ap (λ (x : CellCounts). cells_by x e) counts)

flat_kept : (p : Candidate → Bool) (g h : ℕ → List Candidate) → ((k : ℕ) → filter p (g k) ≡ h k) → (ks : List ℕ) →
    filter p (flat_map g ks) ≡ flat_map h ks
flat_kept p g h each [] = refl
flat_kept p g h each (k ∷ ks) =
    filter-append p (g k) (flat_map g ks) ∙ ap (λ xs. xs ++ filter p (flat_map g ks)) (each k)
    ∙ ap (λ xs. h k ++ xs) (flat_kept p g h each ks)

range_kept : (p : Candidate → Bool) (g h : ℕ → List Candidate) (start count : ℕ) →
    ((u : ℕ) → start ≤ u → u < start + count → filter p (g u) ≡ h u) →
    filter p (flat_map g (range_with_len start count)) ≡ flat_map h (range_with_len start count)
range_kept p g h start zero each = refl
range_kept p g h start (suc count) each =
    filter-append p (g start) (flat_map g (range_with_len (start + 1) count))
    ∙ ap (λ xs. xs ++ filter p (flat_map g (range_with_len (start + 1) count)))
    (each start (omega arith) (omega arith))
    ∙ ap (λ xs. h start ++ xs)
    (range_kept p g h (start + 1) count (λ u from to. each u (omega arith) (omega arith)))

pub window_kept : (y : ℕ → ℕ → ℕ) (s : Search) (c d : Sought) (place until first end count : ℕ) →
    d.counts ≡ c.counts → d.first ≡ c.first → ((u : ℕ) → u < count → IsInside c place until d u) →
    within_part place until (pulses_of_ends y s d first end 0 count) ≡ pulses_of_ends y s c first end 0 count
window_kept y s c d place until first end count counts same inside =
    let p = ends_within place until in
    range_kept p (λ u. pulses_of_end y s d first end u) (λ u. pulses_of_end y s c first end u) 0 count
    (λ u from to. flat_kept p (λ e. pulses_of_delay y s d u e) (λ e. pulses_of_delay y s c u e)
    (λ e. flat_kept p (λ w. pulse_of y s d u e w) (λ w. pulse_of y s c u e w)
    (λ w. pulse_kept y s c d place until u e w counts same (inside u (omega arith))) (widths s))
    (range_with_len first (end - first)))

-- ---- a part of a part

-- a filter of what another one keeps, at the first element
keep_on : (p q r : Candidate → Bool) (x : Candidate) (xs : List Candidate) (b : Bool) → q x ≡ b →
    (q x ≡ true → p x ≡ r x) → (q x ≡ false → r x ≡ false) → filter p (filter q xs) ≡ filter r xs →
    filter p (filter q (x ∷ xs)) ≡ filter r (x ∷ xs)
keep_on p q r x xs true is on off rest =
    ap (λ b. filter p (cond b (x ∷ filter q xs) (filter q xs))) is
    ∙ ap (λ b. cond b (x ∷ filter p (filter q xs)) (filter p (filter q xs))) (on is)
    ∙ ap (λ ys. cond (r x) (x ∷ ys) ys) rest
keep_on p q r x xs false is on off rest =
    ap (λ b. filter p (cond b (x ∷ filter q xs) (filter q xs))) is ∙ rest
    ∙ sym (ap (λ b. cond b (x ∷ filter r xs) (filter r xs)) (off is))

-- filters one after the other
filter_twice : (p q r : Candidate → Bool) → ((x : Candidate) → q x ≡ true → p x ≡ r x) →
    ((x : Candidate) → q x ≡ false → r x ≡ false) → (xs : List Candidate) → filter p (filter q xs) ≡ filter r xs
filter_twice p q r on off [] = refl
filter_twice p q r on off (x ∷ xs) = keep_on p q r x xs (q x) refl (on x) (off x) (filter_twice p q r on off xs)

-- filters in either order, at the first element
turn_on : (p q : Candidate → Bool) (x : Candidate) (xs : List Candidate) (a b : Bool) → p x ≡ a → q x ≡ b →
    filter p (filter q xs) ≡ filter q (filter p xs) → filter p (filter q (x ∷ xs)) ≡ filter q (filter p (x ∷ xs))
turn_on p q x xs true true is is' rest =
    ap (λ b. filter p (cond b (x ∷ filter q xs) (filter q xs))) is'
    ∙ ap (λ b. cond b (x ∷ filter p (filter q xs)) (filter p (filter q xs))) is
    ∙ ap (λ ys. x ∷ ys) rest
    ∙ sym (ap (λ b. filter q (cond b (x ∷ filter p xs) (filter p xs))) is
    ∙ ap (λ b. cond b (x ∷ filter q (filter p xs)) (filter q (filter p xs))) is')
turn_on p q x xs true false is is' rest =
    ap (λ b. filter p (cond b (x ∷ filter q xs) (filter q xs))) is' ∙ rest
    ∙ sym (ap (λ b. filter q (cond b (x ∷ filter p xs) (filter p xs))) is
    ∙ ap (λ b. cond b (x ∷ filter q (filter p xs)) (filter q (filter p xs))) is')
turn_on p q x xs false true is is' rest =
    ap (λ b. filter p (cond b (x ∷ filter q xs) (filter q xs))) is'
    ∙ ap (λ b. cond b (x ∷ filter p (filter q xs)) (filter p (filter q xs))) is
    ∙ rest ∙ sym (ap (λ b. filter q (cond b (x ∷ filter p xs) (filter p xs))) is)
turn_on p q x xs false false is is' rest =
    ap (λ b. filter p (cond b (x ∷ filter q xs) (filter q xs))) is'
    ∙ rest ∙ sym (ap (λ b. filter q (cond b (x ∷ filter p xs) (filter p xs))) is)

-- filters in either order
filter_turn : (p q : Candidate → Bool) (xs : List Candidate) → filter p (filter q xs) ≡ filter q (filter p xs)
filter_turn p q [] = refl
filter_turn p q (x ∷ xs) = turn_on p q x xs (p x) (q x) refl refl (filter_turn p q xs)

-- what lies within a part lies within one that begins sooner
later_part : (needed place until : ℕ) → needed ≤ place → (x : Candidate) → ends_within needed until x ≡ false →
    ends_within place until x ≡ false
later_part needed place until less (Pulse end d w sum) out = elim (cases_lt end place) [
  | inl before ↦ ap (λ b. b && ltb end until) (lt-leb place end before)
  | inr from ↦
      let early = le-leb needed end (omega arith) in
      let limit : ltb end until ≡ false = sym (ap (λ b. b && ltb end until) early) ∙ out in
      ap (λ b. leb place end && b) limit ∙ none (leb place end)
]
  where
    none : (b : Bool) → b && false ≡ false
    none true = refl
    none false = refl
later_part needed place until less (Fold d p m j q sum) out = refl

pub part_of_part : (needed place until : ℕ) → needed ≤ place → (xs : List Candidate) →
    within_part place until (within_part needed until xs) ≡ within_part place until xs
part_of_part needed place until less xs =
    filter_twice (ends_within place until) (ends_within needed until) (ends_within place until) (λ x on. refl)
    (later_part needed place until less) xs

pub part_of_delays : (place until least bound : ℕ) (xs : List Candidate) →
    within_part place until (within_delays least bound xs) ≡ within_delays least bound (within_part place until xs)
part_of_delays place until least bound xs =
    filter_turn (ends_within place until) (λ c. leb least (delay_of c) && ltb (delay_of c) bound) xs
