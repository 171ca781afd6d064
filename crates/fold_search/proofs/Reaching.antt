-- A bound of all fold sums, by what the values have above a base.
use Rattle.std.proofs.Common.{◌≡◌, ℕ, zero, suc, ◌+◌, ◌-◌, ◌*◌, ◌%◌, ◌^◌, ◌<◌, ◌≤◌, inl, inr, cond, List, [], ◌∷◌, length, sum_by, slice_index, Some, refl, sym, ap, ◌∙◌, arith, add-one}
use Rattle.std.specs.List.{range_with_len}
use Rattle.std.specs.Int.{div_ceil}
use Rattle.std.proofs.lemmas.Bool.{cases_lt, lt-leb}
use Rattle.std.proofs.lemmas.Grind.{div_ceil_times}
use Rattle.std.proofs.lemmas.List.{get_or-map, get_or_past}
use Rattle.std.proofs.lemmas.List.FromFn.{sum_by-map-range_with_len_more}
use Rattle.std.proofs.lemmas.List.Sums.{sum-map}
use Rattle.search_model.specs.declared.candidate.Candidate.TheVariants.{Fold}
use Rattle.search_model.specs.declared.search.Search.{Search}
use Rattle.search_model.specs.Detection.{is_detected}
use Rattle.search_model.specs.Candidates.{if_detected}
use Rattle.search_model.specs.Folds.{fold_sum, shift}
use Rattle.search_model.specs.Laws.{TestsDetection}
use Rattle.detect_rule.specs.Noise.{StandOutFrom}
use Rattle.fast_fold.specs.Excess.{excesses, ExcessUpTo}
use Rattle.fold_search.specs.Judging.{noise_of, folds_in_trial, folds_in_trials}
use Rattle.fold_search.proofs.Adding.{reaches_least}
use Rattle.fold_search.proofs.Ranges.{flat_nothing}

-- one term more
next : (f : ℕ → ℕ) (n : ℕ) → sum_by f (range_with_len 0 (suc n)) ≡ sum_by f (range_with_len 0 n) + f n
next f n =
    ap (λ k. sum_by f (range_with_len 0 k)) (sym (add-one n))
    ∙ sym (sum-map f (range_with_len 0 (n + 1)))
    ∙ sum_by-map-range_with_len_more (λ x. x) f 0 n n (omega arith)
    ∙ ap (λ s. s + f n) (sum-map f (range_with_len 0 n))

-- terms that are at most a base above others
terms_above : (f g : ℕ → ℕ) (base n : ℕ) → ((i : ℕ) → f i ≤ g i + base)
    → sum_by f (range_with_len 0 n) ≤ sum_by g (range_with_len 0 n) + n * base
terms_above f g base zero each = omega arith
terms_above f g base (suc n) each =
    let front = terms_above f g base n each in
    let last = each n in
    omega (arith, front, last, next f n, next g n)

-- a value is at most a base above its excess
value_above : (base : ℕ) (values : List ℕ) (k : ℕ) → slice_index values k ≤ slice_index (excesses base values) k + base
value_above base values k = elim (cases_lt k (length values)) [
  | inl h ↦ omega (arith, get_or-map (λ x. x - base) values k 0 0 h)
  | inr h ↦ omega (arith, get_or_past values k 0 h)
]

-- and a fold sum at most as many bases as there are rows above that of the excesses
fold_above : (base : ℕ) (values : List ℕ) (p m j q : ℕ)
    → fold_sum values p m j q ≤ fold_sum (excesses base values) p m j q + 2 ^ m * base
fold_above base values p m j q =
    terms_above (λ i. slice_index values (i * p + (q + shift m j i) % p))
    (λ i. slice_index (excesses base values) (i * p + (q + shift m j i) % p)) base (2 ^ m)
    (λ i. value_above base values (i * p + (q + shift m j i) % p))

-- below a least sum
pub all_below_least : (values : List ℕ) (p m least rows base greatest : ℕ) → rows ≡ 2 ^ m → 0 < rows
    → base ≡ div_ceil (least - 65535) rows → greatest < least - base * rows
    → ExcessUpTo base values p m p greatest
    → (j q : ℕ) → j < 2 ^ m → q < p → fold_sum values p m j q < least
all_below_least values p m least rows base greatest is_rows some is_base below up j q trial phase =
    let ceiling = (div_ceil_times (least - 65535) rows some).0 in
    let product : base * rows ≡ div_ceil (least - 65535) rows * rows = ap (λ b. b * rows) is_base in
    let bases : 2 ^ m * base ≡ base * rows = ap (λ n. n * base) (sym is_rows) ∙ omega arith in
    let sum : ℕ = fold_sum (excesses base values) p m j q in
    let most = up j q trial phase in
    let above = fold_above base values p m j q in
    omega (arith, ceiling, product, bases, most, above)

-- the product of base and rows
pub bases_fit : (least rows base : ℕ) → least < 2 ^ 32 → 0 < rows → rows ≤ 4096 → base ≡ div_ceil (least - 65535) rows
    → base * rows < 2 ^ 32
bases_fit least rows base small some few is_base =
    let ceiling = (div_ceil_times (least - 65535) rows some).1 in
    let product : base * rows ≡ div_ceil (least - 65535) rows * rows = ap (λ b. b * rows) is_base in
    omega (arith, ceiling, product)

-- a sum below the least one is no candidate
no_candidate : TestsDetection → (cells : ℕ → ℕ) (s : Search) (least d p m j q sum : ℕ) → sum < least → sum < 2 ^ 32
    → StandOutFrom (noise_of s) (2 ^ m * cells d) (Some least) → if_detected cells s (Fold d p m j q sum) ≡ []
no_candidate law cells s least d p m j q sum below small from =
    ap (λ b. cond b (Fold d p m j q sum ∷ []) [])
    (sym (reaches_least law s (2 ^ m * cells d) (Some least) sum small from
    (is_detected s.mean s.sd s.snr sum (2 ^ m * cells d)) refl)
    ∙ lt-leb least sum below)

-- and so a period has none
pub none_detected : TestsDetection → (cells : ℕ → ℕ) (s : Search) (least d p m : ℕ) (values : List ℕ) → least < 2 ^ 32
    → ((j q : ℕ) → j < 2 ^ m → q < p → fold_sum values p m j q < least)
    → StandOutFrom (noise_of s) (2 ^ m * cells d) (Some least) → folds_in_trials cells s d p m values ≡ []
none_detected law cells s least d p m values small below from =
    flat_nothing (λ j. folds_in_trial cells s d p m j values) 0 (2 ^ m)
    (λ j _ trial. flat_nothing (λ q. if_detected cells s (Fold d p m j q (fold_sum values p m j q))) 0 p
    (λ q _ phase.
    let lt = below j q (omega arith) (omega arith) in
    no_candidate law cells s least d p m j q (fold_sum values p m j q) lt (omega arith) from))
