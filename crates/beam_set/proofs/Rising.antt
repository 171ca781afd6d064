-- Pulses near a spectrum in a list that rises: the first pulse that does not end too early tells whether there is one.
use Rattle.std.proofs.Common.{◌≡◌, ℕ, ◌+◌, ◌-◌, ◌<◌, ◌≤◌, Bool, true, false, inl, inr, List, length, get_or, refl, sym, ap, subst, ◌∙◌, arith}
use Rattle.std.specs.Int.{abs_diff}
use Rattle.std.specs.List.{list_any}
use Rattle.std.specs.List.Sorted.{IsPartitionPoint}
use Rattle.std.proofs.lemmas.Bool.{cases_lt, false≢true, ltb-true, leb-false, lt-ltb, ltb-false, lt-leb}
use Rattle.std.proofs.lemmas.List.{get_or_read}
use Rattle.std.proofs.lemmas.List.Folds.{list_any_none, list_any_at}
use Rattle.search_model.specs.declared.candidate.Candidate.{Candidate}
use Rattle.search_model.specs.declared.candidate.Candidate.TheVariants.{Pulse, Fold}
use Rattle.search_model.specs.Order.{Precedes, IsRising}
use Rattle.beam_set.specs.Marks.{is_near}
use Rattle.beam_set.specs.Ends.{is_before, EndsRise}

-- what precedes a pulse that ends before a spectrum is one too
before_too : (u : ℕ) (x y : Candidate) → Precedes x y → is_before u y ≡ true → is_before u x ≡ true
before_too u (Pulse e d w s) (Pulse e' d' w' s') order before =
    let early : e' < u = ltb-true e' u before in
    elim order [
      | inl below ↦ lt-ltb e u (omega (arith, below, early))
      | inr same ↦ lt-ltb e u (omega (arith, same.0, early))
    ]
before_too u (Pulse e d w s) (Fold d' p m j f s') order before = absurd (false≢true before)
before_too u (Fold d p m j f s) (Pulse e d' w s') order before = absurd order
before_too u (Fold d p m j f s) (Fold d' p' m' j' f' s') order before = absurd (false≢true before)

-- in a list that rises, pulses come first and are ordered by their ends
pub ends_rise : (list : List Candidate) → IsRising list → EndsRise list
ends_rise list rising = λ u i j d first within before. elim (cases_lt i j) [
  | inl below ↦ before_too u (get_or list i d) (get_or list j d) (rising i j d below within) before
  | inr above ↦
      let same : j ≡ i = omega (arith, first, above) in
      subst (λ k. is_before u (get_or list k d) ≡ true) same before
]

-- a pulse that ends too early is not near
early_is_far : (within u v : ℕ) (x : Candidate) → v ≡ u - within → is_before v x ≡ true → is_near within u x ≡ false
early_is_far within u v (Pulse e d w s) least before =
    let early : e < v = ltb-true e v before in
    lt-leb (abs_diff u e) within (omega arith)
early_is_far within u v (Fold d p m j f s) least before = refl

-- nor is a later one than one that does not end too early, and is not near
later_is_far : (within u v : ℕ) (x y : Candidate) → v ≡ u - within → is_before v x ≡ false →
    is_near within u x ≡ false → ((v : ℕ) → is_before v y ≡ true → is_before v x ≡ true) → is_near within u y ≡ false
later_is_far within u v x (Fold d p m j f s) least late far follows = refl
later_is_far within u v (Pulse e d w s) (Pulse e' d' w' s') least late far follows =
    let from : v ≤ e = ltb-false e v late in
    let apart : within < abs_diff u e = leb-false (abs_diff u e) within far in
    let after : e < e' + 1 = ltb-true e (e' + 1) (follows (e' + 1) (lt-ltb e' (e' + 1) (omega arith))) in
    lt-leb (abs_diff u e') within (omega arith)
later_is_far within u v (Fold d p m j f s) (Pulse e d' w s') least late far follows =
    absurd (false≢true (follows (e + 1) (lt-ltb e (e + 1) (omega arith))))

module _ (list : List Candidate) (within u v n : ℕ) (rise : EndsRise list) (least : v ≡ u - within)
    (point : IsPartitionPoint (λ c. is_before v c ≡ true) (λ c. is_before v c ≡ false) list n)
  where
    -- none is near where all end too early
    pub none_late : length list ≤ n → false ≡ list_any (is_near within u) list
    none_late all = sym (list_any_none (is_near within u) list (λ k d inside.
        early_is_far within u v (get_or list k d) least (point.0 k d (omega arith) (omega (arith, inside, all)))))

    -- the first of the others is near, or none is
    pub first_tells : (x : Candidate) → n < length list → x ≡ get_or list n x →
        is_near within u x ≡ list_any (is_near within u) list
    first_tells x inside is = decide (is_near within u x) refl
      where
        decide : (b : Bool) → is_near within u x ≡ b → is_near within u x ≡ list_any (is_near within u) list
        decide true near = near ∙ sym (list_any_at (is_near within u) list n x inside
            (ap (is_near within u) (sym is) ∙ near))
        decide false far = far ∙ sym (list_any_none (is_near within u) list (λ k d within_list.
            elim (cases_lt k n) [
              | inl below ↦ early_is_far within u v (get_or list k d) least (point.0 k d (omega arith) below)
              | inr above ↦
                  let at : x ≡ get_or list n d = get_or_read list n x inside is d in
                  later_is_far within u v x (get_or list k d) least (rw at (point.1 n d (omega arith) inside)) far
                  (λ v before. ap (is_before v) at ∙ rise v n k d above within_list before)
            ]))
