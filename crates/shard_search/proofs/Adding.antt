-- Candidates that are added to a book one after another.
use Rattle.std.proofs.Common.{◌≡◌, ℕ, ◌+◌, List, [], ◌++◌, sym, ap, subst, ◌∙◌, append_assoc}
use Rattle.std.specs.List.{range_with_len, flat_map}
use Rattle.std.proofs.lemmas.List.{append-nil}
use Rattle.search_model.specs.declared.candidate.Candidate.{Candidate}
use Rattle.candidate_book.specs.Book.{BookContents, book_of}
use Rattle.fold_search.specs.Judging.{Adds}
use Rattle.shard_search.proofs.Ranges.{flat_more}

pub adds_none : (b : BookContents) → Adds b b []
adds_none b = λ list is. is ∙ ap (book_of b.limit) (sym (append-nil list))

pub adds_both : (a b c : BookContents) (xs ys : List Candidate) → Adds a b xs → Adds b c ys → Adds a c (xs ++ ys)
adds_both a b c xs ys first second = λ list is.
    let middle = first list is in
    let limit : b.limit ≡ a.limit = ap (λ (book : BookContents). book.limit) middle in
    second (list ++ xs) (middle ∙ ap (λ n. book_of n (list ++ xs)) (sym limit))
    ∙ ap (λ n. book_of n (list ++ xs ++ ys)) limit
    ∙ ap (book_of a.limit) (append_assoc list xs ys)

pub adds_same : (a b : BookContents) (xs ys : List Candidate) → xs ≡ ys → Adds a b xs → Adds a b ys
adds_same a b xs ys same adds = let P : List Candidate → Type 0 = λ list. Adds a b list in subst P same adds

-- a piece more
pub adds_more : (a b c : BookContents) (g : ℕ → List Candidate) (from n j : ℕ) → from + n ≡ j →
    Adds a b (flat_map g (range_with_len from n)) → Adds b c (g j) →
    Adds a c (flat_map g (range_with_len from (n + 1)))
adds_more a b c g from n j at before here =
    adds_same a c (flat_map g (range_with_len from n) ++ g j) (flat_map g (range_with_len from (n + 1)))
    (sym (flat_more g from n j at)) (adds_both a b c (flat_map g (range_with_len from n)) (g j) before here)
