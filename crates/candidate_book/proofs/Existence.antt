-- Books that can be merged have a merged list: each candidate is put into the others in its place.
use Rattle.std.proofs.Common.{◌≡◌, ◌⊎◌, inl, inr, ◌↔◌, List, [], ◌∷◌, get_or, zero, suc, refl, subst, sym, arith}
use Rattle.std.specs.Prelude.{All, AllPairs, Any, Contains}
use Rattle.std.proofs.lemmas.List.Elements.{All-head, All-tail, Contains-get_or}
use Rattle.std.proofs.lemmas.List.Kept.{AllPairs-cons}
use Rattle.search_model.specs.declared.candidate.Candidate.{Candidate}
use Rattle.search_model.specs.Candidates.{delay_of}
use Rattle.search_model.specs.CandidateLaws.{OrderIsStrict}
use Rattle.search_model.specs.Order.{Precedes, IsRising, IsMergeOf}
use Rattle.candidate_book.specs.Conditions.{ShareNoDelay}
use Rattle.candidate_book.proofs.Members.{no_member, member_head, member_tail, member_cases, pairs_tail, pairs_head}

abbrev Comparable : Candidate → Candidate → Type 0
Comparable x y = Precedes x y ⊎ Precedes y x

all_members : (P : Candidate → Type 0) (xs : List Candidate) → ((x : Candidate) → Contains xs x → P x) → All P xs
all_members P xs h = λ k d small. h (get_or xs k d) (Contains-get_or xs k d small)

-- a rising list with the members of a list and one more, or of two lists
record Joined (Member : Candidate → Type 0) : Type 0 where
  list : List Candidate
  rises : IsRising list
  members : (c : Candidate) → Contains list c ↔ Member c

insert : OrderIsStrict → (x : Candidate) (xs : List Candidate) → IsRising xs →
    ((y : Candidate) → Contains xs y → Comparable x y) →
    Joined (λ c. (x ≡ c) ⊎ Contains xs c)
insert order x [] rises compares = record {
  list = x ∷ [];
  rises = λ i j d below small. absurd (omega arith);
  members = λ c. (
    member_cases x [] c,
    λ is. elim is [
      | inl same ↦ subst (Contains (x ∷ [])) same (member_head x [])
      | inr none ↦ absurd (no_member c none)
    ],
  );
}
insert order x (y ∷ ys) rises compares = elim (compares y (member_head y ys)) [
  | inl before ↦ record {
    list = x ∷ y ∷ ys;
    rises = AllPairs-cons Precedes x (y ∷ ys)
        (all_members (Precedes x) (y ∷ ys) (λ z h. elim (member_cases y ys z h) [
          | inl same ↦ subst (Precedes x) same before
          | inr tail ↦ order.follows x y z before (pairs_head Precedes y ys rises z tail)
        ])) rises;
    members = λ c. (
      member_cases x (y ∷ ys) c,
      λ is. elim is [
        | inl same ↦ subst (Contains (x ∷ y ∷ ys)) same (member_head x (y ∷ ys))
        | inr tail ↦ member_tail x (y ∷ ys) c tail
      ],
    );
  }
  | inr after ↦
      let more = insert order x ys (pairs_tail Precedes y ys rises) (λ z h. compares z (member_tail y ys z h)) in
      record {
        list = y ∷ more.list;
        rises = AllPairs-cons Precedes y more.list
            (all_members (Precedes y) more.list (λ z h. elim ((more.members z).0 h) [
              | inl same ↦ subst (Precedes y) same after
              | inr tail ↦ pairs_head Precedes y ys rises z tail
            ])) more.rises;
        members = λ c. (
          λ h. elim (member_cases y more.list c h) [
            | inl same ↦ inr (subst (Contains (y ∷ ys)) same (member_head y ys))
            | inr tail ↦ elim ((more.members c).0 tail) [
              | inl is ↦ inl is
              | inr inside ↦ inr (member_tail y ys c inside)
            ]
          ],
          λ is. elim is [
            | inl same ↦ member_tail y more.list c ((more.members c).1 (inl same))
            | inr h ↦ elim (member_cases y ys c h) [
              | inl head ↦ subst (Contains (y ∷ more.list)) head (member_head y more.list)
              | inr tail ↦ member_tail y more.list c ((more.members c).1 (inr tail))
            ]
          ],
        );
      }
]

insert_all : OrderIsStrict → (xs ys : List Candidate) → IsRising xs → IsRising ys →
    ((x y : Candidate) → Contains xs x → Contains ys y → Comparable x y) →
    Joined (λ c. Contains xs c ⊎ Contains ys c)
insert_all order [] ys first second compares = record {
  list = ys;
  rises = second;
  members = λ c. (
    λ h. inr h,
    λ is. elim is [
      | inl none ↦ absurd (no_member c none)
      | inr h ↦ h
    ],
  );
}
insert_all order (x ∷ xs) ys first second compares =
    let more = insert_all order xs ys (pairs_tail Precedes x xs first) second
    (λ a b ha hb. compares a b (member_tail x xs a ha) hb) in
    let one = insert order x more.list more.rises (λ z h. elim ((more.members z).0 h) [
      | inl tail ↦ inl (pairs_head Precedes x xs first z tail)
      | inr other ↦ compares x z (member_head x xs) other
    ]) in
    record {
      list = one.list;
      rises = one.rises;
      members = λ c. (
        λ h. elim ((one.members c).0 h) [
          | inl same ↦ inl (subst (Contains (x ∷ xs)) same (member_head x xs))
          | inr inside ↦ elim ((more.members c).0 inside) [
            | inl tail ↦ inl (member_tail x xs c tail)
            | inr other ↦ inr other
          ]
        ],
        λ is. elim is [
          | inl h ↦ elim (member_cases x xs c h) [
            | inl same ↦ (one.members c).1 (inl same)
            | inr tail ↦ (one.members c).1 (inr ((more.members c).1 (inl tail)))
          ]
          | inr other ↦ (one.members c).1 (inr ((more.members c).1 (inr other)))
        ],
      );
    }

-- a member of a later list
any_tail : (xs : List Candidate) (lists : List (List Candidate)) (c : Candidate) →
    Any (λ list. Contains list c) lists → Any (λ list. Contains list c) (xs ∷ lists)
any_tail xs lists c (k, list, small, is, h) = (suc k, list, omega arith, is, h)

any_cases : (xs : List Candidate) (lists : List (List Candidate)) (c : Candidate) →
    Any (λ list. Contains list c) (xs ∷ lists) → Contains xs c ⊎ Any (λ list. Contains list c) lists
any_cases xs lists c (zero, list, small, is, h) = inl (subst (λ ys. Contains ys c) (sym is) h)
any_cases xs lists c (suc k, list, small, is, h) = inr (k, list, omega arith, is, h)

pub lists_merge : OrderIsStrict → (lists : List (List Candidate)) → All IsRising lists → AllPairs ShareNoDelay lists →
    (merged : List Candidate) × IsMergeOf lists merged
lists_merge order [] rise apart = (
  [],
  record {
    rises = λ i j d below small. absurd (omega arith);
    members = λ c. (λ h. absurd (no_member c h), λ (k, list, small, is, h). absurd (omega arith));
  },
)
lists_merge order (xs ∷ lists) rise apart =
    let more = lists_merge order lists (All-tail IsRising xs lists rise) (pairs_tail ShareNoDelay xs lists apart) in
    let joined = insert_all order xs more.0 (All-head IsRising xs lists rise) more.1.rises
    (λ x y hx hy. elim (order.compares x y) [
      | inl before ↦ inl before
      | inr (inl after) ↦ inr after
      | inr (inr same) ↦ absurd (apart_from xs lists apart x y hx ((more.1.members y).0 hy) same)
    ]) in (
      joined.list,
      record {
        rises = joined.rises;
        members = λ c. (
          λ h. elim ((joined.members c).0 h) [
            | inl first ↦ (0, xs, omega arith, refl, first)
            | inr later ↦ any_tail xs lists c ((more.1.members c).0 later)
          ],
          λ any. elim (any_cases xs lists c any) [
            | inl first ↦ (joined.members c).1 (inl first)
            | inr later ↦ (joined.members c).1 (inr ((more.1.members c).1 later))
          ],
        );
      },
    ) where
      apart_from : (xs : List Candidate) (lists : List (List Candidate)) → AllPairs ShareNoDelay (xs ∷ lists) →
          (x y : Candidate) → Contains xs x → Any (λ list. Contains list y) lists → delay_of x ≡ delay_of y → ⊥
      apart_from xs lists apart x y hx (k, list, small, is, hy) same =
          subst (λ ys. ShareNoDelay xs ys) is (apart 0 (suc k) list (omega arith) (omega arith)) x y hx hy same
