-- Lists that grow by one element at their end, and lists of which one element after another is set.
use Rattle.std.proofs.Common.{◌≡◌, ◌≢◌, ℕ, ◌+◌, ◌<◌, List, [], ◌∷◌, ◌++◌, length, length-append, get_or, set, sym, ap, subst, ◌∙◌, inl, inr, arith}
use Rattle.std.proofs.lemmas.Bool.{cases_lt}
use Rattle.std.proofs.lemmas.List.{get_or-set_same, get_or-set_other, get_or_append_left}
use Rattle.std.proofs.Math.Seq.{get_or-append_seam}

-- what holds below n, and of n, holds below n + 1
pub one_more : (P : ℕ → Type 0) (n : ℕ) → ((k : ℕ) → k < n → P k) → P n → (k : ℕ) → k < n + 1 → P k
one_more P n all is k below = elim (cases_lt k n) [
  | inl less ↦ all k less
  | inr above ↦ let same : n ≡ k = omega (arith, below, above) in subst P same is
]

module _ {X : Type 0} (xs more : List X) (x : X) (n : ℕ) (count : length xs ≡ n) (grown : more ≡ xs ++ x ∷ []) where
  pub longer : length more ≡ n + 1
  longer = ap length grown ∙ length-append xs (x ∷ []) ∙ ap (λ k. k + 1) count

  pub kept_at : (d : X) (k : ℕ) → k < n → get_or more k d ≡ get_or xs k d
  kept_at d k less = ap (λ ys. get_or ys k d) grown ∙ get_or_append_left xs (x ∷ []) d k (omega (arith, less, count))

  pub new_at : (d : X) → get_or more n d ≡ x
  new_at d = ap (λ ys. get_or ys n d) grown ∙ ap (λ k. get_or (xs ++ x ∷ []) k d) (sym count)
      ∙ get_or-append_seam xs x [] d

  -- what holds of each element and of the new one holds of all
  pub all_more : (P : ℕ → X → Type 0) (d : X) → ((k : ℕ) → k < n → P k (get_or xs k d)) → P n x → (k : ℕ) → k < n + 1 →
      P k (get_or more k d)
  all_more P d all is = one_more (λ k. P k (get_or more k d)) n
      (λ k less. subst (P k) (sym (kept_at d k less)) (all k less)) (subst (P n) (sym (new_at d)) is)

module _ {I : Type 0} (old : List I) (new : I) (n : ℕ) (within : n < length old) where
  pub others_stand : (k : ℕ) (x : I) → k ≢ n → get_or (set old n new) k x ≡ get_or old k x
  others_stand k x other = get_or-set_other old n k new x other

  -- what holds of each element before and of the one that is set holds of all of these
  pub all_set : (P : ℕ → I → Type 0) (x : I) → ((k : ℕ) → k < n → P k (get_or old k x)) → P n new → (k : ℕ) →
      k < n + 1 → P k (get_or (set old n new) k x)
  all_set P x all is = one_more (λ k. P k (get_or (set old n new) k x)) n
      (λ k less. subst (P k) (sym (others_stand k x (λ e. omega (arith, e, less)))) (all k less))
      (subst (P n) (sym (get_or-set_same old n new x within)) is)
