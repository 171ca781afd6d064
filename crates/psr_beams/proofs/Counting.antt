-- What the inputs of all beams counted, by the numbers of the beams.
use Rattle.std.proofs.Common.{◌≡◌, ℕ, zero, suc, ◌<◌, ◌≤◌, List, [], ◌∷◌, length, get_or, slice_get, refl, sym, ap, ◌∙◌, inl, inr, arith}
use Rattle.std.specs.Option.{option_map_or}
use Rattle.std.proofs.lemmas.Bool.{cases_lt}
use Rattle.std.proofs.lemmas.Option.{slice_get-get_or, slice_get_past}
use Rattle.psr_base.specs.Count.{Rose}
use Rattle.psr_base.specs.Inputs.{HasReadFrom}
use Rattle.psr_base.specs.Told.{Told}
use Rattle.psr_beams.specs.Seen.{faults_at, calm_at}

-- an element of a list
pub element : {X : Type 0} (xs : List X) (k : ℕ) → k < length xs → X
element [] k within = absurd (omega (arith, within))
element (x ∷ xs) zero within = x
element (x ∷ xs) (suc k) within = element xs k (omega (arith, within))

module _ {I : Type 0} where
  -- what is seen of a beam that is there
  pub seen_there : {V : Type 0} (f : I → V) (none : V) (xs : List I) (k : ℕ) (x : I) → k < length xs →
      option_map_or f (slice_get xs k) none ≡ f (get_or xs k x)
  seen_there f none xs k x within = rw (slice_get-get_or xs k x within) refl

  seen_past : {V : Type 0} (f : I → V) (none : V) (xs : List I) (k : ℕ) → length xs ≤ k →
      option_map_or f (slice_get xs k) none ≡ none
  seen_past f none xs k over = rw (slice_get_past xs k over) refl

  pub calm_there : (is_calm : I → Type 0) (xs : List I) (k : ℕ) (x : I) → k < length xs → calm_at is_calm xs k →
      is_calm (get_or xs k x)
  calm_there is_calm xs k x within calm = rw (slice_get-get_or xs k x within) at calm

  -- inputs that stand are seen as before
  pub seen_still : {V : Type 0} (f : I → V) (none : V) (xs ys : List I) (k : ℕ) → length ys ≡ length xs →
      ((x : I) → get_or ys k x ≡ get_or xs k x) →
      option_map_or f (slice_get ys k) none ≡ option_map_or f (slice_get xs k) none
  seen_still f none xs ys k same still = elim (cases_lt k (length xs)) [
    | inl below ↦
        let x = element xs k below in
        seen_there f none ys k x (omega (arith, below, same)) ∙ ap f (still x) ∙ sym (seen_there f none xs k x below)
    | inr over ↦ seen_past f none ys k (omega (arith, over, same)) ∙ sym (seen_past f none xs k over)
  ]

module _ {I : Type 0} (told : I → Told) (is_calm : I → Type 0) (faults : I → ℕ) where
  -- ---- one beam

  pub stood : (P : Type 0) (x y : I) → ¬ P → y ≡ x → HasReadFrom told is_calm faults P x y
  stood P x y not same = rw same (record {
    names = refl;
    count = omega arith;
    rose = λ p. absurd (not p);
    quiet = λ n. refl;
    calm = λ c. c;
  })

  pub retyped : (P Q : Type 0) (x y : I) → (P → Q) → (Q → P) → HasReadFrom told is_calm faults P x y →
      HasReadFrom told is_calm faults Q x y
  retyped P Q x y there back r = record {
    names = r.names;
    count = r.count;
    rose = λ q. r.rose (back q);
    quiet = λ n. r.quiet (λ p. n (there p));
    calm = r.calm;
  }

  pub read_on : (Q : Type 0) (x y z : I) → HasReadFrom told is_calm faults ⊥ x y →
      HasReadFrom told is_calm faults Q y z → HasReadFrom told is_calm faults Q x z
  read_on Q x y z a b =
      let still = a.quiet (λ e. e) in
      let more = b.count in
      record {
        names = b.names ∙ a.names;
        count = omega (arith, still, more);
        rose = λ q. rw (sym still) (b.rose q);
        quiet = λ n. b.quiet n ∙ still;
        calm = λ c. b.calm (a.calm c);
      }

  -- ---- all beams

  -- calls of these beams failed
  pub record AllRead (failed : ℕ → Type 0) (before after : List I) : Type 0 where
    pub lent : length after ≡ length before
    pub each : (k : ℕ) (x : I) → HasReadFrom told is_calm faults (failed k) (get_or before k x) (get_or after k x)

module _ {I : Type 0} {told : I → Told} {is_calm : I → Type 0} {faults : I → ℕ} {failed : ℕ → Type 0}
    {before after : List I} (all : AllRead told is_calm faults failed before after) where
  pub counts : (k : ℕ) → faults_at faults before k ≤ faults_at faults after k
  counts k = elim (cases_lt k (length before)) [
    | inl below ↦
        let x = element before k below in
        let lent = all.lent in
        let old = seen_there faults 0 before k x below in
        let new = seen_there faults 0 after k x (omega (arith, below, lent)) in
        let more = (all.each k x).count in
        omega (arith, old, new, more)
    | inr over ↦
        let lent = all.lent in
        let old = seen_past faults 0 before k over in
        let new = seen_past faults 0 after k (omega (arith, over, lent)) in
        omega (arith, old, new)
  ]

  pub still : (k : ℕ) → ¬ failed k → faults_at faults after k ≡ faults_at faults before k
  still k not = elim (cases_lt k (length before)) [
    | inl below ↦
        let x = element before k below in
        let lent = all.lent in
        seen_there faults 0 after k x (omega (arith, below, lent)) ∙ (all.each k x).quiet not
        ∙ sym (seen_there faults 0 before k x below)
    | inr over ↦
        let lent = all.lent in
        seen_past faults 0 after k (omega (arith, over, lent)) ∙ sym (seen_past faults 0 before k over)
  ]

  pub rises : (k : ℕ) → k < length before → failed k → Rose (faults_at faults before k) (faults_at faults after k)
  rises k below did =
      let x = element before k below in
      let lent = all.lent in
      rw (seen_there faults 0 before k x below, seen_there faults 0 after k x (omega (arith, below, lent)))
      ((all.each k x).rose did)
