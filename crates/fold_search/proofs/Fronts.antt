-- The folds of a series are those of the front that folds can use.
use Rattle.std.proofs.Common.{◌≡◌, ℕ, ◌+◌, ◌-◌, ◌*◌, ◌^◌, ◌≤◌, ◌<◌, List, [], length, take, drop, sym, ap, ◌∙◌, arith, cond, ltb}
use Rattle.std.proofs.Math.Nat.{mul-le-mul_right}
use Rattle.std.proofs.lemmas.List.{take-take}
use Rattle.std.proofs.lemmas.List.FromFn.{length-map-range_with_len}
use Rattle.search_model.specs.declared.candidate.Candidate.TheVariants.{Fold}
use Rattle.search_model.specs.declared.search.Search.{Search}
use Rattle.search_model.specs.Samples.{Filterbank}
use Rattle.search_model.specs.Sums.{path_sum}
use Rattle.search_model.specs.Folds.{series, halvings, fold_sum}
use Rattle.search_model.specs.Candidates.{if_detected, folds_of_delay}
use Rattle.fast_fold.specs.Folding.{FoldsSeeRows, block_of}
use Rattle.fold_search.specs.Judging.{folds_in_trial, folds_in_trials, folds_in_period, folds_in_values}
use Rattle.fold_search.proofs.Ranges.{flat_agree}
use Rattle.fold_search.proofs.Halvings.{rows_rise, halvings_within, halvings_front}

-- what lies past the rows is not read
fold_front : FoldsSeeRows → (cap : ℕ) (xs : List ℕ) (p m j q : ℕ) → 0 < p → 2 ^ m * p ≤ cap →
    fold_sum (take cap xs) p m j q ≡ fold_sum xs p m j q
fold_front law cap xs p m j q some room =
    let z : 0 * (2 ^ m * p) ≡ 0 = omega arith in
    let same : block_of (take cap xs) p m 0 ≡ block_of xs p m 0 =
    ap (λ n. take (2 ^ m * p) (drop n (take cap xs))) z
    ∙ take-take (2 ^ m * p) cap xs room
    ∙ sym (ap (λ n. take (2 ^ m * p) (drop n xs)) z) in
    sym (law (take cap xs) p m j q some)
    ∙ ap (λ rows. fold_sum rows p m j q) same
    ∙ law xs p m j q some

trials_front : FoldsSeeRows → (cells : ℕ → ℕ) (s : Search) (d p m cap : ℕ) (xs : List ℕ) → 0 < p → 2 ^ m * p ≤ cap →
    folds_in_trials cells s d p m (take cap xs) ≡ folds_in_trials cells s d p m xs
trials_front law cells s d p m cap xs some room =
    flat_agree (λ j. folds_in_trial cells s d p m j (take cap xs)) (λ j. folds_in_trial cells s d p m j xs) 0 (2 ^ m)
    (λ j _ _. flat_agree
    (λ q. if_detected cells s (Fold d p m j q (fold_sum (take cap xs) p m j q)))
    (λ q. if_detected cells s (Fold d p m j q (fold_sum xs p m j q))) 0 p
    (λ q _ _. ap (λ sum. if_detected cells s (Fold d p m j q sum)) (fold_front law cap xs p m j q some room)))

-- how many halvings there are by two counts that are equal
period_front : FoldsSeeRows → (cells : ℕ → ℕ) (s : Search) (d p cap : ℕ) (xs : List ℕ) → 0 < p →
    2 ^ s.fold_rows * p ≤ cap → (m n : ℕ) → m ≡ n → n ≤ s.fold_rows →
    cond (ltb 0 m) (folds_in_trials cells s d p m (take cap xs)) []
    ≡ cond (ltb 0 n) (folds_in_trials cells s d p n xs) []
period_front law cells s d p cap xs some room m n same few =
    let rise = rows_rise n s.fold_rows p few in
    ap (λ k. cond (ltb 0 k) (folds_in_trials cells s d p k (take cap xs)) []) same
    ∙ ap (λ folds. cond (ltb 0 n) folds []) (trials_front law cells s d p n cap xs some (omega (arith, rise, room)))

-- the folds of the values that can be used
pub values_front : FoldsSeeRows → (cells : ℕ → ℕ) (s : Search) (d cap : ℕ) (xs : List ℕ) → 0 < s.fold_min →
    cap ≡ s.fold_max * 2 ^ s.fold_rows →
    folds_in_values cells s d (take cap xs) ≡ folds_in_values cells s d xs
values_front law cells s d cap xs some is =
    flat_agree (λ p. folds_in_period cells s d p (take cap xs)) (λ p. folds_in_period cells s d p xs)
    s.fold_min (s.fold_max + 1 - s.fold_min)
    (λ p from to.
    let long : p ≤ s.fold_max = omega arith in
    let most : p * 2 ^ s.fold_rows ≤ s.fold_max * 2 ^ s.fold_rows = mul-le-mul_right (2 ^ s.fold_rows) long in
    let room : 2 ^ s.fold_rows * p ≤ cap = omega (arith, most, is) in
    period_front law cells s d p cap xs (omega arith) room
    (halvings s.fold_rows p (length (take cap xs))) (halvings s.fold_rows p (length xs))
    (halvings_front s.fold_rows p cap xs room) (halvings_within p (length xs) s.fold_rows))

-- the folds of a delay are those of its series
pub delay_folds : (f : Filterbank) (edges : List ℕ) (cells : ℕ → ℕ) (s : Search) (d : ℕ) →
    folds_in_values cells s d (series f edges d) ≡ folds_of_delay f edges cells s d
delay_folds f edges cells s d =
    let long : length (series f edges d) ≡ f.spectra - d =
    length-map-range_with_len (λ i. path_sum f edges (d + i) d) 0 (f.spectra - d) in
    flat_agree (λ p. folds_in_period cells s d p (series f edges d))
    (λ p. let m = halvings s.fold_rows p (f.spectra - d) in
    cond (ltb 0 m) (folds_in_trials cells s d p m (series f edges d)) [])
    s.fold_min (s.fold_max + 1 - s.fold_min)
    (λ p _ _. ap (λ n. let m = halvings s.fold_rows p n in
    cond (ltb 0 m) (folds_in_trials cells s d p m (series f edges d)) []) long)
