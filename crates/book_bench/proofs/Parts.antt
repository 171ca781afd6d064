-- Parts that are checked candidate by candidate.
use Rattle.std.proofs.Common.{◌≡◌, ℕ, ◌%◌, ◌<◌, ◌≤◌, inl, inr, List, [], ◌∷◌, ◌++◌, length, get_or, Option, Some, None, refl, sym, ap, subst, ◌∙◌, arith}
use Rattle.std.specs.Prelude.{All, Contains}
use Rattle.std.proofs.lemmas.List.{get_or-map, length-map}
use Rattle.std.proofs.lemmas.List.Elements.{All-push, All-contains, All-from_get_or, Contains-get_or, Contains-push_cases}
use Rattle.std.proofs.lemmas.List.Quantifiers.{all_pairs_push}
use Rattle.search_model.specs.declared.candidate.Candidate.{Candidate}
use Rattle.search_model.specs.Candidates.{delay_of}
use Rattle.search_model.specs.Order.{Precedes, IsRising}
use Rattle.candidate_book.specs.Book.{BookContents}
use Rattle.candidate_book.specs.Conditions.{kept_in, kept_lists, IsSearched, CanBeMerged}
use Rattle.search_model.specs.CandidateLaws.{OrderIsStrict}
use Rattle.book_bench.specs.Parts.{IsPart, Continues, EndsWith}

no_member : {X : Type 0} (x : X) → Contains {X = X} [] x → ⊥
no_member x (k, h, e) = absurd (omega arith)

-- each candidate of the list precedes one that may stand behind its last
all_precede : (list : List Candidate) (last : Option Candidate) (x : Candidate) → OrderIsStrict →
    EndsWith list last → ((before : Candidate) → last ≡ Some before → Precedes before x) →
    (c : Candidate) → Contains list c → Precedes c x
all_precede list None x order ends after c h = absurd (no_member c (subst (λ xs. Contains xs c) ends h))
all_precede list (Some last) x order ends after c h = elim (ends c h) [
  | inl same ↦ subst (λ b. Precedes b x) (sym same) (after last refl)
  | inr before ↦ order.follows c last x before (after last refl)
]

pub part_more : (n k : ℕ) (list : List Candidate) (last : Option Candidate) (x : Candidate) → OrderIsStrict →
    EndsWith list last → IsPart n k list → Continues n k last x → IsPart n k (list ++ x ∷ [])
part_more n k list last x order ends part continues = record {
  rises = all_pairs_push Precedes list x part.rises
      (λ i d small. all_precede list last x order ends continues.after (get_or list i d)
      (Contains-get_or list i d small));
  searched = All-push IsSearched list x part.searched continues.searched;
  shared = All-push (λ c. delay_of c % n ≡ k) list x part.shared continues.shared;
}

pub ends_more : (n k : ℕ) (list : List Candidate) (last : Option Candidate) (x : Candidate) → OrderIsStrict →
    EndsWith list last → Continues n k last x → EndsWith (list ++ x ∷ []) (Some x)
ends_more n k list last x order ends continues = λ c h. elim (Contains-push_cases list x c h) [
  | inl inside ↦ inr (all_precede list last x order ends continues.after c inside)
  | inr same ↦ inl (sym same)
]

-- parts of all books
pub parts_can_be_merged : (books : List (Option BookContents)) → length books ≤ 7 →
    ((k : ℕ) → k < length books → IsPart (length books) k (kept_in (get_or books k None))) → CanBeMerged books
parts_can_be_merged books few parts =
    let n = length books in
    let count : length (kept_lists books) ≡ length books = simp length-map in
    let at = λ (k : ℕ) (d : List Candidate) (h : k < length books). get_or-map kept_in books k None d h in
    record {
      few = few;
      rise = All-from_get_or IsRising (kept_lists books) []
          (λ k h. let small : k < length books = omega arith in
          subst IsRising (sym (at k [] small)) (parts k small).rises);
      searched = All-from_get_or (All IsSearched) (kept_lists books) []
          (λ k h. let small : k < length books = omega arith in
          subst (All IsSearched) (sym (at k [] small)) (parts k small).searched);
      apart = λ i j d below h x y hx hy same.
          let small : j < length books = omega arith in
          let less : i < length books = omega arith in
          let first = All-contains (λ c. delay_of c % n ≡ i) (kept_in (get_or books i None)) x (parts i less).shared
          (subst (λ xs. Contains xs x) (at i d less) hx) in
          let second = All-contains (λ c. delay_of c % n ≡ j) (kept_in (get_or books j None)) y (parts j small).shared
          (subst (λ xs. Contains xs y) (at j d small) hy) in
          let equal : i ≡ j = sym first ∙ ap (λ (v : ℕ). v % n) same ∙ second in
          absurd (omega arith);
    }
