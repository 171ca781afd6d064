-- Books that are merged: at each step the first of the candidates that stand next is the merged list's next one.
use Rattle.std.proofs.Common.{◌≡◌, ◌≢◌, ℕ, ◌+◌, ◌<◌, ◌≤◌, ◌⊎◌, inl, inr, ◌↔◌, List, [], ◌∷◌, length, get_or, drop, set, suc, Option, None, refl, sym, ap, subst, ◌∙◌, arith, get_or-set_same, get_or-set_other, add-one}
use Rattle.std.specs.Prelude.{All, Contains}
use Rattle.std.proofs.lemmas.Bool.{cases_lt}
use Rattle.std.proofs.lemmas.List.{get_or-map, length-map}
use Rattle.std.proofs.lemmas.List.Elements.{All-get_or, All-contains}
use Rattle.search_model.specs.declared.candidate.Candidate.{Candidate}
use Rattle.search_model.specs.Candidates.{delay_of}
use Rattle.search_model.specs.CandidateLaws.{OrderIsStrict}
use Rattle.search_model.specs.Order.{Precedes, IsRising, IsMergeOf}
use Rattle.candidate_book.specs.Book.{BookContents}
use Rattle.candidate_book.specs.Conditions.{kept_in, kept_lists, IsSearched, ShareNoDelay, CanBeMerged}
use Rattle.candidate_book.specs.First.{kept_at, next_at, IsFirst}
use Rattle.candidate_book.specs.declared.merge.Next.{Next}
use Rattle.candidate_book.proofs.Members.{is_or_not, no_member, member_head, member_tail, member_cases, pairs_tail, pairs_head, pairs_drop, drop_next, drop_ends, next_member, next_cases}

-- the merged list of the parts 0 to n - 1
pub record PartsMerge (n : ℕ) (part : ℕ → List Candidate) (merged : List Candidate) : Type 0 where
  pub rises : IsRising merged
  pub members : (c : Candidate) → Contains merged c ↔ ((k : ℕ) × (k < n) × Contains (part k) c)

-- what is left of book k from its place on
abbrev pub left_at : List (Option BookContents) → List ℕ → ℕ → List Candidate
left_at books places k = drop (get_or places k 0) (kept_at books k)

-- c begins part i, and precedes all others
pub record Begins (n i : ℕ) (part later : ℕ → List Candidate) (c : Candidate) (more : List Candidate) : Type 0 where
  within : i < n
  begins : part i ≡ c ∷ more
  ends : later i ≡ more
  others : (k : ℕ) → k ≢ i → later k ≡ part k
  rises : IsRising (part i)
  ahead : (k : ℕ) → k < n → k ≢ i → (d : Candidate) → Contains (part k) d → Precedes c d

module _ (order : OrderIsStrict) (n i : ℕ) (part later : ℕ → List Candidate) (c : Candidate) (more : List Candidate)
    (first : Begins n i part later c more) where
  begins_rises : IsRising (c ∷ more)
  begins_rises = subst IsRising first.begins first.rises

  -- what stands in a part is c or stands in what is left of it
  stays : (k : ℕ) (x : Candidate) → Contains (part k) x → (c ≡ x) ⊎ Contains (later k) x
  stays k x h = elim (is_or_not k i) [
    | inl is ↦
        let here : Contains (c ∷ more) x = subst (λ xs. Contains xs x) (ap part is ∙ first.begins) h in
        elim (member_cases c more x here) [
          | inl same ↦ inl same
          | inr tail ↦ inr (subst (λ xs. Contains xs x) (sym first.ends ∙ ap later (sym is)) tail)
        ]
    | inr other ↦ inr (subst (λ xs. Contains xs x) (sym (first.others k other)) h)
  ]

  -- what is left stood there, after c
  stood : (k : ℕ) (x : Candidate) → k < n → Contains (later k) x → Contains (part k) x × Precedes c x
  stood k x within h = elim (is_or_not k i) [
    | inl is ↦
        let tail : Contains more x = subst (λ xs. Contains xs x) (ap later is ∙ first.ends) h in
        let there : Contains (part k) x =
        subst (λ xs. Contains xs x) (sym first.begins ∙ ap part (sym is)) (member_tail c more x tail) in
        (there, pairs_head Precedes c more begins_rises x tail)
    | inr other ↦
        let there : Contains (part k) x = subst (λ xs. Contains xs x) (first.others k other) h in
        (there, first.ahead k within other x there)
  ]

  stands : Contains (part i) c
  stands = subst (λ xs. Contains xs c) (sym first.begins) (member_head c more)

  head_is : (h : Candidate) (t : List Candidate) → PartsMerge n part (h ∷ t) → h ≡ c
  head_is h t merge =
      elim (member_cases h t c ((merge.members c).1 (i, first.within, stands))) [
        | inl is ↦ is
        | inr tail ↦
            let before = pairs_head Precedes h t merge.rises c tail in
            let from = (merge.members h).0 (member_head h t) in
            elim (stays from.0 h from.2) [
              | inl same ↦ sym same
              | inr after ↦ absurd
                  (order.never c (order.follows c h c (stood from.0 h from.1 after).1 before))
            ]
      ]

  to_rest : (h : Candidate) (t : List Candidate) → PartsMerge n part (h ∷ t) → h ≡ c → (x : Candidate) →
      Contains t x → (k : ℕ) × (k < n) × Contains (later k) x
  to_rest h t merge is x inside =
      let from = (merge.members x).0 (member_tail h t x inside) in
      elim (stays from.0 x from.2) [
        | inr after ↦ (from.0, from.1, after)
        | inl same ↦ absurd
            (order.never h (subst (Precedes h) (sym (is ∙ same)) (pairs_head Precedes h t merge.rises x inside)))
      ]

  from_rest : (h : Candidate) (t : List Candidate) → PartsMerge n part (h ∷ t) → h ≡ c → (x : Candidate) →
      (k : ℕ) × (k < n) × Contains (later k) x → Contains t x
  from_rest h t merge is x (k, within, after) =
      let before = stood k x within after in
      elim (member_cases h t x ((merge.members x).1 (k, within, before.0))) [
        | inr tail ↦ tail
        | inl same ↦ absurd (order.never c (subst (Precedes c) (sym same ∙ is) before.1))
      ]

  -- so the merged list begins with c, and the rest merges what is left
  pub takes_first : (merged : List Candidate) → PartsMerge n part merged →
      (rest : List Candidate) × (merged ≡ c ∷ rest) × PartsMerge n later rest
  takes_first [] merge = absurd (no_member c ((merge.members c).1 (i, first.within, stands)))
  takes_first (h ∷ t) merge =
      let is = head_is h t merge in (
        t,
        ap (λ (x : Candidate). x ∷ t) is,
        record {
          rises = pairs_tail Precedes h t merge.rises;
          members = λ x. (to_rest h t merge is x, from_rest h t merge is x);
        },
      )

-- parts that have ended have no merged candidate left
pub all_ended : (n : ℕ) (part : ℕ → List Candidate) (merged : List Candidate) → PartsMerge n part merged →
    ((k : ℕ) → k < n → part k ≡ []) → merged ≡ []
all_ended n part [] merge ended = refl
all_ended n part (h ∷ t) merge ended =
    let from = (merge.members h).0 (member_head h t) in
    absurd (no_member h (subst (λ xs. Contains xs h) (ended from.0 from.1) from.2))

-- the same parts
pub same_parts : (n : ℕ) (part other : ℕ → List Candidate) (merged : List Candidate) →
    ((k : ℕ) → part k ≡ other k) → PartsMerge n part merged → PartsMerge n other merged
same_parts n part other merged same merge = record {
  rises = merge.rises;
  members = λ c. (
    λ h.
        let from = (merge.members c).0 h in
        (from.0, from.1, subst (λ xs. Contains xs c) (same from.0) from.2),
    λ (k, within, h). (merge.members c).1 (k, within, subst (λ xs. Contains xs c) (sym (same k)) h),
  );
}

-- ---- books

module _ (books : List (Option BookContents)) where
  list_at : (k : ℕ) (d : List Candidate) → k < length books → get_or (kept_lists books) k d ≡ kept_at books k
  list_at k d within = get_or-map kept_in books k None d within

  lists_count : length (kept_lists books) ≡ length books
  lists_count = simp length-map

  book_rises : CanBeMerged books → (k : ℕ) → k < length books → IsRising (kept_at books k)
  book_rises can k within =
      let count = lists_count in
      subst IsRising (list_at k [] within) (All-get_or IsRising (kept_lists books) k [] (omega arith) can.rise)

  shares_none : CanBeMerged books → (i k : ℕ) → i < k → k < length books →
      ShareNoDelay (kept_at books i) (kept_at books k)
  shares_none can i k below within =
      let count = lists_count in
      let lists : ShareNoDelay (get_or (kept_lists books) i []) (get_or (kept_lists books) k []) =
      can.apart i k [] below (omega arith) in
      subst (λ xs. ShareNoDelay xs (kept_at books k)) (list_at i [] (omega arith))
      (subst (λ ys. ShareNoDelay (get_or (kept_lists books) i []) ys) (list_at k [] within) lists)

  -- two books share no delay
  apart_at : CanBeMerged books → (i k : ℕ) → i < length books → k < length books → k ≢ i → (x y : Candidate) →
      Contains (kept_at books i) x → Contains (kept_at books k) y → delay_of x ≡ delay_of y → ⊥
  apart_at can i k wi wk other x y hx hy same = elim (cases_lt i k) [
    | inl below ↦ shares_none can i k below wk x y hx hy same
    | inr at ↦ shares_none can k i (omega arith) wi y x hy hx (sym same)
  ]

  pub books_merge : (merged : List Candidate) → IsMergeOf (kept_lists books) merged →
      PartsMerge (length books) (kept_at books) merged
  books_merge merged merge =
      let count = lists_count in
      record {
        rises = merge.rises;
        members = λ c. (
          λ h.
              let (k, list, small, is, inside) = (merge.members c).0 h in
              let within : k < length books = omega arith in
              (k, within, subst (λ xs. Contains xs c) (sym is ∙ list_at k list within) inside),
          λ (k, within, inside).
              (merge.members c).1 (k, kept_at books k, omega arith, list_at k (kept_at books k) within, inside),
        );
      }

  module _ (order : OrderIsStrict) (can : CanBeMerged books) (places later : List ℕ) (found : Next)
      (first : IsFirst (next_at books places) (length books) found)
      (moves : later ≡ set places found.book (get_or places found.book 0 + 1))
      (room : length books ≤ length places) where
    c : Candidate
    c = found.candidate

    i : ℕ
    i = found.book

    -- the first precedes what another book has left
    after_first : (k : ℕ) → k < length books → k ≢ i → (d : Candidate) → Contains (left_at books places k) d →
        Precedes c d
    unfolding c i
    after_first k within other d h = elim (next_cases (next_at books places k)) [
      | inl none ↦
          let ended = drop_ends (kept_at books k) (get_or places k 0) none in
          absurd (no_member d (subst (λ xs. Contains xs d) ended h))
      | inr one ↦
          let next = one.0 in
          let is = one.1 in
          let from = drop_next (kept_at books k) (get_or places k 0) next is in
          let rises = pairs_drop Precedes (get_or places k 0) (kept_at books k) (book_rises can k within) in
          let before : Precedes c next = elim (order.compares c next) [
            | inl precedes ↦ precedes
            | inr (inl after) ↦ absurd (first.first k within next is after)
            | inr (inr same) ↦ absurd
                (apart_at can i k first.within within other c next
                (next_member (kept_at books i) (get_or places i 0) c first.is_next)
                (next_member (kept_at books k) (get_or places k 0) next is) same)
          ] in
          elim (member_cases next (drop (suc (get_or places k 0)) (kept_at books k)) d
          (subst (λ xs. Contains xs d) from h)) [
            | inl same ↦ subst (Precedes c) same before
            | inr tail ↦ order.follows c next d before
                (pairs_head Precedes next _ (subst IsRising from rises) d tail)
          ]
    ]

    place_moves : get_or later i 0 ≡ suc (get_or places i 0)
    unfolding i
    place_moves =
        let within : found.book < length places = omega (arith, first.within) in
        ap (λ (xs : List ℕ). get_or xs found.book 0) moves ∙ rw get_or-set_same (rw add-one refl)

    place_stays : (k : ℕ) → k ≢ i → get_or later k 0 ≡ get_or places k 0
    unfolding i
    place_stays k other = ap (λ (xs : List ℕ). get_or xs k 0) moves ∙ rw get_or-set_other refl

    begins : Begins (length books) i (left_at books places) (left_at books later) c
        (drop (suc (get_or places i 0)) (kept_at books i))
    unfolding c i
    begins = record {
      within = first.within;
      begins = drop_next (kept_at books i) (get_or places i 0) c first.is_next;
      ends = ap (λ (p : ℕ). drop p (kept_at books i)) place_moves;
      others = λ k other. ap (λ (p : ℕ). drop p (kept_at books k)) (place_stays k other);
      rises = pairs_drop Precedes (get_or places i 0) (kept_at books i) (book_rises can i first.within);
      ahead = after_first;
    }

    -- the merged list's next candidate is the one that was found
    pub next_is_found : (merged : List Candidate) → PartsMerge (length books) (left_at books places) merged →
        (rest : List Candidate) × (merged ≡ found.candidate ∷ rest)
        × PartsMerge (length books) (left_at books later) rest
    unfolding c i
    next_is_found merged merge = takes_first order _ _ _ _ _ _ begins merged merge

  -- where no book has a candidate left, nor has the merged list
  pub none_left : (places : List ℕ) (merged : List Candidate) →
      PartsMerge (length books) (left_at books places) merged →
      ((k : ℕ) → k < length books → next_at books places k ≡ None) → merged ≡ []
  none_left places merged merge ended =
      all_ended (length books) (left_at books places) merged merge
      (λ k within. drop_ends (kept_at books k) (get_or places k 0) (ended k within))

  -- the one that was found is one that a search can have
  pub found_is_searched : CanBeMerged books → (places : List ℕ) (found : Next) →
      IsFirst (next_at books places) (length books) found → IsSearched found.candidate
  found_is_searched can places found first =
      let count = lists_count in
      let lists = All-get_or (All IsSearched) (kept_lists books) found.book [] (omega (arith, first.within))
      can.searched in
      All-contains IsSearched (kept_at books found.book) found.candidate
      (subst (All IsSearched) (list_at found.book [] first.within) lists)
      (next_member (kept_at books found.book) (get_or places found.book 0) found.candidate first.is_next)

  -- at first all is left
  pub all_left : (places : List ℕ) (merged : List Candidate) → ((k : ℕ) → get_or places k 0 ≡ 0) →
      IsMergeOf (kept_lists books) merged → PartsMerge (length books) (left_at books places) merged
  all_left places merged zeros merge =
      same_parts (length books) (kept_at books) (left_at books places) merged
      (λ k. ap (λ (p : ℕ). drop p (kept_at books k)) (sym (zeros k))) (books_merge merged merge)
