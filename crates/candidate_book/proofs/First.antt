-- A loop that looks for the first of the candidates that stand next.
use Rattle.std.proofs.Common.{◌≡◌, ℕ, ◌+◌, ◌<◌, ◌⊎◌, inl, inr, Option, Some, None, sym, ◌∙◌, subst, refl, arith}
use Rattle.std.specs.Option.{ForSome}
use Rattle.std.proofs.lemmas.Bool.{cases_lt}
use Rattle.std.proofs.lemmas.Option.{none-some, same_Some}
use Rattle.search_model.specs.declared.candidate.Candidate.{Candidate}
use Rattle.search_model.specs.CandidateLaws.{OrderIsStrict}
use Rattle.search_model.specs.Order.{Precedes}
use Rattle.candidate_book.specs.First.{IsFirst, FindsFirst}
use Rattle.candidate_book.specs.declared.merge.Next.{Next}

-- k is below i, or i itself
below_or_at : (k i : ℕ) → k < i + 1 → (k < i) ⊎ (k ≡ i)
below_or_at k i h = elim (cases_lt k i) [
  | inl below ↦ inl below
  | inr at ↦ inr (omega arith)
]

-- book i has no candidate left
pub first_past_none : (next : ℕ → Option Candidate) (i : ℕ) (found : Option Next) → FindsFirst next i found →
    next i ≡ None → FindsFirst next (i + 1) found
first_past_none next i None none ends = λ k h. elim (below_or_at k i h) [
  | inl below ↦ none k below
  | inr at ↦ subst (λ n. next n ≡ None) (sym at) ends
]
first_past_none next i (Some found) is ends = record {
  within = omega (arith, is.within);
  is_next = is.is_next;
  first = λ k h other stands. elim (below_or_at k i h) [
    | inl below ↦ is.first k below other stands
    | inr at ↦ absurd (none-some other (sym ends ∙ subst (λ n. next n ≡ Some other) at stands))
  ];
}

-- the candidate of book i doesn't precede the one that was found
pub first_past_later : (next : ℕ → Option Candidate) (i : ℕ) (c : Candidate) (found : Option Next) →
    FindsFirst next i found → next i ≡ Some c → (ForSome found (λ one. Precedes c one.candidate) → ⊥) →
    FindsFirst next (i + 1) found
first_past_later next i c None none stands later = absurd (later (λ x e. absurd (none-some x e)))
first_past_later next i c (Some found) is stands later = record {
  within = omega (arith, is.within);
  is_next = is.is_next;
  first = λ k h other other_stands. elim (below_or_at k i h) [
    | inl below ↦ is.first k below other other_stands
    | inr at ↦ λ before.
        let same : c ≡ other = same_Some c other (sym stands ∙ subst (λ n. next n ≡ Some other) at other_stands) in
        later (λ x e.
        let one : found ≡ x = same_Some found x e in
        subst (λ y. Precedes c y.candidate) one (subst (λ y. Precedes y found.candidate) (sym same) before))
  ];
}

-- it does, so it is found
pub first_is_new : OrderIsStrict → (next : ℕ → Option Candidate) (i : ℕ) (c : Candidate) (found : Option Next) →
    FindsFirst next i found → next i ≡ Some c → ForSome found (λ one. Precedes c one.candidate) →
    IsFirst next (i + 1) (record { book = i; candidate = c })
first_is_new order next i c found finds stands before = record {
  within = omega arith;
  is_next = stands;
  first = λ k h other other_stands. elim (below_or_at k i h) [
    | inl below ↦ earlier found finds before k below other other_stands
    | inr at ↦ λ precedes.
        let same : c ≡ other = same_Some c other (sym stands ∙ subst (λ n. next n ≡ Some other) at other_stands) in
        order.never c (subst (λ y. Precedes y c) (sym same) precedes)
  ];
} where
  earlier : (found : Option Next) → FindsFirst next i found → ForSome found (λ one. Precedes c one.candidate) →
      (k : ℕ) → k < i → (other : Candidate) → next k ≡ Some other → Precedes other c → ⊥
  earlier None none before k below other stands precedes = none-some other (sym (none k below) ∙ stands)
  earlier (Some one) is before k below other stands precedes =
      is.first k below other stands (order.follows other c one.candidate precedes (before one refl))
