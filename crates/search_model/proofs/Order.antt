-- The order of candidates is strict, and of two candidates one precedes the other or they share a delay; lists that
-- are merged by it.
use Rattle.std.proofs.Common.{◌≡◌, ℕ, ◌<◌, ◌⊎◌, inl, inr, ◌↔◌, List, ◌∙◌, arith}
use Rattle.std.specs.Prelude.{Contains}
use Rattle.std.proofs.lemmas.Bool.{cases_lt}
use Rattle.search_model.specs.declared.candidate.Candidate.{Candidate}
use Rattle.search_model.specs.declared.candidate.Candidate.TheVariants.{Pulse, Fold}
use Rattle.search_model.specs.Candidates.{delay_of}
use Rattle.search_model.specs.Order.{IsBelow, Precedes, IsRising, IsMergeOf}
use Rattle.search_model.proofs.Lists.{IsStrict, same_members}

below_follows : (a b c : ℕ) (P Q R : Type 0) → (P → Q → R) → IsBelow a b P → IsBelow b c Q → IsBelow a c R
below_follows a b c P Q R next (inl h) (inl k) = inl (omega arith)
below_follows a b c P Q R next (inl h) (inr (e, q)) = inl (omega arith)
below_follows a b c P Q R next (inr (e, p)) (inl k) = inl (omega arith)
below_follows a b c P Q R next (inr (e, p)) (inr (g, q)) = inr (e ∙ g, next p q)

below_never : (a : ℕ) (P : Type 0) → (P → ⊥) → IsBelow a a P → ⊥
below_never a P none (inl h) = absurd (omega arith)
below_never a P none (inr (e, p)) = none p

less_follows : (a b c : ℕ) → a < b → b < c → a < c
less_follows a b c h k = omega arith

less_never : (a : ℕ) → a < a → ⊥
less_never a h = absurd (omega arith)

pub never : (x : Candidate) → Precedes x x → ⊥
never (Pulse end delay width sum) h =
    below_never end _ (below_never delay _ (less_never width)) h
never (Fold delay period halvings trial phase sum) h =
    below_never delay _ (below_never period _ (below_never trial _ (less_never phase))) h

pub follows : (x y z : Candidate) → Precedes x y → Precedes y z → Precedes x z
follows (Pulse e1 d1 w1 s1) (Pulse e2 d2 w2 s2) (Pulse e3 d3 w3 s3) h k =
    below_follows e1 e2 e3 _ _ _ (below_follows d1 d2 d3 _ _ _ (less_follows w1 w2 w3)) h k
follows (Pulse e1 d1 w1 s1) (Pulse e2 d2 w2 s2) (Fold d3 p3 m3 j3 f3 s3) h k = tt
follows (Pulse e1 d1 w1 s1) (Fold d2 p2 m2 j2 f2 s2) (Pulse e3 d3 w3 s3) h k = absurd k
follows (Pulse e1 d1 w1 s1) (Fold d2 p2 m2 j2 f2 s2) (Fold d3 p3 m3 j3 f3 s3) h k = tt
follows (Fold d1 p1 m1 j1 f1 s1) (Pulse e2 d2 w2 s2) z h k = absurd h
follows (Fold d1 p1 m1 j1 f1 s1) (Fold d2 p2 m2 j2 f2 s2) (Pulse e3 d3 w3 s3) h k = absurd k
follows (Fold d1 p1 m1 j1 f1 s1) (Fold d2 p2 m2 j2 f2 s2) (Fold d3 p3 m3 j3 f3 s3) h k =
    below_follows d1 d2 d3 _ _ _
    (below_follows p1 p2 p3 _ _ _ (below_follows j1 j2 j3 _ _ _ (less_follows f1 f2 f3))) h k

-- of two numbers, one is below the other or they are equal
compare : (a b : ℕ) (P Q : Type 0) → IsBelow a b P ⊎ (IsBelow b a Q ⊎ (a ≡ b))
compare a b P Q = elim (cases_lt a b) [
  | inl below ↦ inl (inl below)
  | inr at ↦ elim (cases_lt b a) [
    | inl above ↦ inr (inl (inl above))
    | inr more ↦ inr (inr (omega arith))
  ]
]

-- the same of two pairs of numbers, which may have equal second ones
compare_pairs : (a b c d : ℕ) (P Q : Type 0) →
    IsBelow a b (IsBelow c d P) ⊎ (IsBelow b a (IsBelow d c Q) ⊎ (c ≡ d))
compare_pairs a b c d P Q = elim (compare a b (IsBelow c d P) (IsBelow d c Q)) [
  | inl below ↦ inl below
  | inr (inl above) ↦ inr (inl above)
  | inr (inr same) ↦ elim (compare c d P Q) [
    | inl below ↦ inl (inr (same, below))
    | inr (inl above) ↦ inr (inl (inr (omega arith, above)))
    | inr (inr equal) ↦ inr (inr equal)
  ]
]

-- one of two candidates precedes the other, or they share a delay
pub precedes_or_shares : (x y : Candidate) → Precedes x y ⊎ (Precedes y x ⊎ (delay_of x ≡ delay_of y))
precedes_or_shares (Pulse e1 d1 w1 s1) (Pulse e2 d2 w2 s2) = compare_pairs e1 e2 d1 d2 (w1 < w2) (w2 < w1)
precedes_or_shares (Pulse e1 d1 w1 s1) (Fold d2 p2 m2 j2 f2 s2) = inl tt
precedes_or_shares (Fold d1 p1 m1 j1 f1 s1) (Pulse e2 d2 w2 s2) = inr (inl tt)
precedes_or_shares (Fold d1 p1 m1 j1 f1 s1) (Fold d2 p2 m2 j2 f2 s2) = compare d1 d2 _ _

precedes_strict : IsStrict Precedes
precedes_strict = record { never = never; follows = follows }

-- rising lists with the same members are one list
pub rising_same : (xs ys : List Candidate) → IsRising xs → IsRising ys →
    ((c : Candidate) → Contains xs c ↔ Contains ys c) → xs ≡ ys
rising_same xs ys first second same = same_members Precedes precedes_strict xs ys first second same

-- lists have one merge
pub merged_same : (parts : List (List Candidate)) (xs ys : List Candidate) → IsMergeOf parts xs → IsMergeOf parts ys →
    xs ≡ ys
merged_same parts xs ys first second =
    rising_same xs ys first.rises second.rises
    (λ c. (λ h. (second.members c).1 ((first.members c).0 h), λ h. (first.members c).1 ((second.members c).0 h)))
