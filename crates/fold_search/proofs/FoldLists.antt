-- The folds of some delays.
use Rattle.std.proofs.Common.{◌≡◌, ℕ, ◌+◌, ◌-◌, Bool, true, false, cond, List, [], ◌∷◌, refl, sym, ap, ◌∙◌, arith, ltb}
use Rattle.std.specs.Prelude.{filter, ◌&&◌, ◌==◌, ◌%◌, ◌^◌}
use Rattle.std.specs.List.{range_with_len, flat_map}
use Rattle.std.proofs.lemmas.Bool.{leb-false}
use Rattle.std.proofs.lemmas.List.Elements.{All-cons}
use Rattle.search_model.specs.declared.candidate.Candidate.{Candidate}
use Rattle.search_model.specs.declared.candidate.Candidate.TheVariants.{Fold}
use Rattle.search_model.specs.declared.search.Search.{Search}
use Rattle.search_model.specs.Samples.{Filterbank}
use Rattle.search_model.specs.Folds.{series, halvings, fold_sum}
use Rattle.search_model.specs.Search.{folds_are_on, periods, delays}
use Rattle.search_model.specs.Candidates.{fold_at, folds_of_trial, folds_at, folds_of_delay, folds, delay_of, within_delays}
use Rattle.fold_search.specs.FoldSearch.{IsDelayRange, folds_if_folded, folds_of_delays}
use Rattle.fold_search.proofs.Ranges.{flat_agree}
use Rattle.fold_search.proofs.Within.{AreOf, own_none, own_if, own_flat, keep_none, has_delay, flat_filter, delays_part}

own_folds : (f : Filterbank) (edges : List ℕ) (cells : ℕ → ℕ) (s : Search) (d : ℕ) →
    AreOf d (folds_of_delay f edges cells s d)
own_folds f edges cells s d =
    own_flat d (λ p. folds_at f edges cells s d p)
    (λ p. let m = halvings s.fold_rows p (f.spectra - d) in
    own_if d (ltb 0 m) (flat_map (λ j. folds_of_trial f edges cells s d p m j) (range_with_len 0 (2 ^ m)))
    (own_flat d (λ j. folds_of_trial f edges cells s d p m j)
    (λ j. own_flat d (λ q. fold_at f edges cells s d p m j q)
    (λ q. own_if d _ (Fold d p m j q (fold_sum (series f edges d) p m j q) ∷ [])
    (All-cons (λ (c : Candidate). delay_of c ≡ d) (Fold d p m j q (fold_sum (series f edges d) p m j q)) [] refl
    (own_none d)))
    (range_with_len 0 p))
    (range_with_len 0 (2 ^ m))))
    (periods s)

-- where folds are off, there are none
none_off : (f : Filterbank) (edges : List ℕ) (cells : ℕ → ℕ) (s : Search) (d : ℕ) (step on : Bool) →
    folds_are_on s ≡ on →
    cond step (folds_of_delay f edges cells s d) [] ≡ cond (on && step) (folds_of_delay f edges cells s d) []
none_off f edges cells s d step true is = refl
none_off f edges cells s d step false is =
    let off = leb-false s.fold_min s.fold_max is in
    let none : s.fold_max + 1 - s.fold_min ≡ 0 = omega arith in
    ap (λ n. cond step (flat_map (λ p. folds_at f edges cells s d p) (range_with_len s.fold_min n)) []) none
    ∙ sym (keep_none step)

-- the part of the folds that is within the delays is the folds of these delays
pub folds_within : (f : Filterbank) (edges : List ℕ) (cells : ℕ → ℕ) (s : Search) (lo hi : ℕ) → IsDelayRange s lo hi →
    folds_of_delays f edges cells s lo (hi - lo) ≡ within_delays lo hi (folds f edges cells s)
folds_within f edges cells s lo hi are =
    let from = are.from in
    let order = are.order in
    let to = are.to in
    let g : ℕ → List Candidate = λ d. folds_of_delay f edges cells s d in
    let step : ℕ → Bool = λ d. (d - s.min_delay) % s.fold_step == 0 in
    let h : ℕ → List Candidate = λ d. cond (step d) (g d) [] in
    sym (
    ap (filter (has_delay lo hi)) (flat_filter g step (delays s))
    ∙ delays_part h s.min_delay lo hi (s.max_delay + 1 - s.min_delay)
    (λ d. own_if d (step d) (g d) (own_folds f edges cells s d)) from order (omega arith)
    ∙ flat_agree h (λ d. folds_if_folded f edges cells s d) lo (hi - lo)
    (λ d _ _. none_off f edges cells s d (step d) (folds_are_on s) refl))
