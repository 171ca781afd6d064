-- Candidates that are added to a book one after another.
use Rattle.std.proofs.Common.{◌≡◌, ℕ, ◌+◌, ◌*◌, ◌^◌, ◌≤◌, ◌<◌, Bool, true, false, cond, inl, inr, List, [], ◌∷◌, ◌++◌, length, Option, Some, None, get_or, refl, sym, ap, subst, ◌∙◌, append_assoc, arith, leb}
use Rattle.std.specs.List.{range_with_len, flat_map}
use Rattle.std.proofs.lemmas.Bool.{cases_lt, cond-true, cond-false, false≢true, le-leb, lt-leb}
use Rattle.std.proofs.lemmas.List.{append-nil}
use Rattle.search_model.specs.declared.candidate.Candidate.{Candidate}
use Rattle.search_model.specs.declared.candidate.Candidate.TheVariants.{Fold}
use Rattle.search_model.specs.declared.search.Search.{Search}
use Rattle.search_model.specs.Detection.{is_detected}
use Rattle.search_model.specs.Folds.{fold_sum}
use Rattle.search_model.specs.Laws.{TestsDetection}
use Rattle.search_model.specs.Candidates.{if_detected}
use Rattle.detect_rule.specs.Noise.{StandOutFrom}
use Rattle.fast_fold.specs.Folding.{FoldsSeeRows, block_of}
use Rattle.candidate_book.specs.Book.{BookContents, book_of}
use Rattle.fold_search.specs.Judging.{Adds, noise_of, reaches, reaching_at, reaching_folds, detected_folds, folds_in_trial}
use Rattle.fold_search.proofs.Ranges.{flat_more, flat_agree, flat_nothing}

-- ---- lists that are added

pub adds_none : (b : BookContents) → Adds b b []
adds_none b = λ list is. is ∙ ap (book_of b.limit) (sym (append-nil list))

pub adds_both : (a b c : BookContents) (xs ys : List Candidate) → Adds a b xs → Adds b c ys → Adds a c (xs ++ ys)
adds_both a b c xs ys first second = λ list is.
    let middle = first list is in
    let limit : b.limit ≡ a.limit = ap (λ (book : BookContents). book.limit) middle in
    second (list ++ xs) (middle ∙ ap (λ n. book_of n (list ++ xs)) (sym limit))
    ∙ ap (λ n. book_of n (list ++ xs ++ ys)) limit
    ∙ ap (book_of a.limit) (append_assoc list xs ys)

pub adds_same : (a b : BookContents) (xs ys : List Candidate) → xs ≡ ys → Adds a b xs → Adds a b ys
adds_same a b xs ys same adds = let P : List Candidate → Type 0 = λ list. Adds a b list in subst P same adds

-- a piece more
pub adds_more : (a b c : BookContents) (g : ℕ → List Candidate) (from n j : ℕ) → from + n ≡ j →
    Adds a b (flat_map g (range_with_len from n)) → Adds b c (g j) →
    Adds a c (flat_map g (range_with_len from (n + 1)))
adds_more a b c g from n j at before here =
    adds_same a c (flat_map g (range_with_len from n) ++ g j) (flat_map g (range_with_len from (n + 1)))
    (sym (flat_more g from n j at)) (adds_both a b c (flat_map g (range_with_len from n)) (g j) before here)

-- ---- a least sum

-- a sum that reaches the least one is detected, and no other
pub reaches_least : TestsDetection → (s : Search) (cells : ℕ) (least : Option ℕ) (sum : ℕ) → sum < 2 ^ 32 →
    StandOutFrom (noise_of s) cells least →
    (b : Bool) → is_detected s.mean s.sd s.snr sum cells ≡ b → reaches least sum ≡ b
reaches_least law s cells None sum small from true is =
    absurd (from sum small ((law s.mean s.sd s.snr sum cells).0 is))
reaches_least law s cells None sum small from false is = refl
reaches_least law s cells (Some least) sum small from true is =
    le-leb least sum ((from sum small).0 ((law s.mean s.sd s.snr sum cells).0 is))
reaches_least law s cells (Some least) sum small from false is = elim (cases_lt sum least) [
  | inl below ↦ lt-leb least sum below
  | inr reached ↦
      absurd (false≢true (sym is ∙ (law s.mean s.sd s.snr sum cells).1 ((from sum small).1 reached)))
]

-- so the same candidates are added
pub reaching_are_detected : TestsDetection → (cells : ℕ → ℕ) (s : Search) (least : Option ℕ) (d p m j : ℕ)
    (sums : List ℕ) → ((k : ℕ) → get_or sums k 0 < 2 ^ 32) → StandOutFrom (noise_of s) (2 ^ m * cells d) least →
    reaching_folds least d p m j sums ≡ detected_folds cells s d p m j sums
reaching_are_detected law cells s least d p m j sums small from =
    flat_agree (λ q. reaching_at least d p m j sums q)
    (λ q. if_detected cells s (Fold d p m j q (get_or sums q 0))) 0 (length sums)
    (λ q _ _. ap (λ b. cond b (Fold d p m j q (get_or sums q 0) ∷ []) [])
    (reaches_least law s (2 ^ m * cells d) least (get_or sums q 0) (small q) from
    (is_detected s.mean s.sd s.snr (get_or sums q 0) (2 ^ m * cells d)) refl))

-- none where not even the greatest reaches the least
pub none_reach : (least greatest d p m j : ℕ) (sums : List ℕ) → ((k : ℕ) → get_or sums k 0 ≤ greatest) →
    greatest < least → reaching_folds (Some least) d p m j sums ≡ []
none_reach least greatest d p m j sums bound below =
    flat_nothing (λ q. reaching_at (Some least) d p m j sums q) 0 (length sums)
    (λ q _ _. ap (λ b. cond b (Fold d p m j q (get_or sums q 0) ∷ []) [])
    (let most = bound q in lt-leb least (get_or sums q 0) (omega arith)))

-- and none where no sum is detected
pub none_at_all : (d p m j : ℕ) (sums : List ℕ) → reaching_folds None d p m j sums ≡ []
none_at_all d p m j sums = flat_nothing (λ q. reaching_at None d p m j sums q) 0 (length sums) (λ q _ _. refl)

-- ---- one step of each loop

-- a book under another name
pub adds_renamed : (a b c : BookContents) (xs : List Candidate) → b ≡ c → Adds a c xs → Adds a b xs
adds_renamed a b c xs same adds = let P : BookContents → Type 0 = λ book. Adds a book xs in subst P (sym same) adds

-- a phase whose sum reaches the least
pub reached_at : (least d p m j : ℕ) (sums : List ℕ) (q : ℕ) → least ≤ get_or sums q 0 →
    Fold d p m j q (get_or sums q 0) ∷ [] ≡ reaching_at (Some least) d p m j sums q
reached_at least d p m j sums q reached =
    sym (cond-true (leb least (get_or sums q 0)) (Fold d p m j q (get_or sums q 0) ∷ []) []
    (le-leb least (get_or sums q 0) reached))

-- and one whose sum does not
pub missed_at : (least d p m j : ℕ) (sums : List ℕ) (q : ℕ) → get_or sums q 0 < least →
    [] ≡ reaching_at (Some least) d p m j sums q
missed_at least d p m j sums q below =
    sym (cond-false (leb least (get_or sums q 0)) (Fold d p m j q (get_or sums q 0) ∷ []) []
    (lt-leb least (get_or sums q 0) below))

-- the detected sums of a profile are the folds of its trial
pub profile_folds : FoldsSeeRows → (cells : ℕ → ℕ) (s : Search) (d p m j period level : ℕ) (profile values : List ℕ) →
    period ≡ p → level ≡ m → length profile ≡ period →
    ((q : ℕ) → q < period →
    get_or profile q 0 ≡ fold_sum (block_of values period level 0) period level j q) →
    detected_folds cells s d p m j profile ≡ folds_in_trial cells s d p m j values
profile_folds law cells s d p m j period level profile values is_period is_level long sums =
    let piece : ℕ → List Candidate = λ q. if_detected cells s (Fold d p m j q (get_or profile q 0)) in
    let count : length profile ≡ p = long ∙ is_period in
    ap (λ n. flat_map piece (range_with_len 0 n)) count
    ∙ flat_agree piece (λ q. if_detected cells s (Fold d p m j q (fold_sum values p m j q))) 0 p
    (λ q _ small. ap (λ sum. if_detected cells s (Fold d p m j q sum))
    (sums q (omega arith)
    ∙ ap (λ n. fold_sum (block_of values n level 0) n level j q) is_period
    ∙ ap (λ n. fold_sum (block_of values p n 0) p n j q) is_level
    ∙ law values p m j q (omega arith)))
