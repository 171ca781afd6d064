use Rattle.std.proofs.Common.{◌≡◌, ◌∙◌, ℕ, ◌+◌, ◌-◌, List, length, get_or, sym, ap, subst, arith}
use Rattle.search_model.specs.Samples.{Filterbank}
use Rattle.search_model.specs.Folds.{series}
use Rattle.search_model.specs.Candidates.{folds, within_delays}
use Rattle.candidate_book.specs.Book.{BookContents}
use Rattle.fold_search.specs.Judging.{Adds}
use Rattle.fold_search.specs.Series.{Front, no_front, IsFrontOf}
use Rattle.fold_search.specs.FoldSearch.{Fronts, HasDelay, KeepsFrontOf, IsDelayRange, AreOfSeries, folds_of_delays}
use Rattle.fold_search.specs.Cells.{cells_by}
use Rattle.fold_search.proofs.Adding.{adds_same}
use Rattle.fold_search.proofs.FoldLists.{folds_within}
use Rattle.fold_search.proofs.folds.FoldSearch.end.Goals as goal

-- the fronts of all delays are those of the series from the first on
of_series : (seen : Fronts) (fronts : List Front) (f : Filterbank) (edges : List ℕ) → fronts ≡ seen.fronts →
    length seen.fronts ≡ seen.end - seen.first →
    ((d : ℕ) → HasDelay seen d → KeepsFrontOf seen d (series f edges d)) → AreOfSeries fronts f edges seen.first
of_series seen fronts f edges same count all = λ k small.
    let long : length fronts ≡ seen.end - seen.first = ap length same ∙ count in
    let at : seen.first + k - seen.first ≡ k = omega arith in
    let P : List Front → Type 0 = λ list. IsFrontOf (get_or list k no_front) (series f edges (seen.first + k)) in
    let Q : ℕ → Type 0 = λ n. IsFrontOf (get_or seen.fronts n no_front) (series f edges (seen.first + k)) in
    subst P (sym same)
    (subst Q at (all (seen.first + k) (record { above = omega arith; below = omega arith })))

-- what is added over all delays
ended : (old new : BookContents) (cells : ℕ → ℕ) (seen : Fronts) (fronts : List Front) (f : Filterbank)
    (edges : List ℕ) →
    fronts ≡ seen.fronts → length seen.fronts ≡ seen.end - seen.first → IsDelayRange seen.search seen.first seen.end →
    (AreOfSeries fronts f edges seen.first →
    Adds old new (folds_of_delays f edges cells seen.search seen.first (length fronts))) →
    ((d : ℕ) → HasDelay seen d → KeepsFrontOf seen d (series f edges d)) →
    Adds old new (within_delays seen.first seen.end (folds f edges cells seen.search))
ended old new cells seen fronts f edges same count delays adds all =
    adds_same old new _ _
    (ap (folds_of_delays f edges cells seen.search seen.first) (ap length same ∙ count)
    ∙ folds_within f edges cells seen.search seen.first seen.end delays)
    (adds (of_series seen fronts f edges same count all))

pub returns-clause-folds : goal.returns-clause-folds
returns-clause-folds c = λ f edges.
    let inside = c.self.inside in
    let P : Fronts → Type 0 = λ seen. ((d : ℕ) → HasDelay seen d → KeepsFrontOf seen d (series f edges d)) →
    Adds c.args.book.now c.fold_fronts.new.book
    (within_delays seen.first seen.end (folds f edges (cells_by c.args.cells.now) seen.search)) in
    subst P c.self.view_is
    (ended c.args.book.now c.fold_fronts.new.book (cells_by c.args.cells.now) _ c.as_slice.result.now f edges
    c.as_slice.ensures.value
    c.self.invariant.count c.self.invariant.delays (c.fold_fronts.ensures.folds f edges))
