use Rattle.std.proofs.Common.{◌≡◌, ℕ, List, sym, ◌∙◌, ap, subst}
use Rattle.search_model.specs.declared.search.Search.{Search}
use Rattle.search_model.specs.Samples.{Filterbank}
use Rattle.search_model.specs.Candidates.{folds, within_delays}
use Rattle.fold_search.specs.FoldSearch.{KeepsFrontOf}
use Rattle.fold_search.specs.Judging.{Adds}
use Rattle.fold_search.specs.Cells.{CellCounts, AreFewCells, cells_by}
use Rattle.shard_search.specs.Sought.{Sought}
use Rattle.shard_search.specs.Sums.{ShardState, StandsForStream, sums_of, sums_from_delay, folds_of_plan}
use Rattle.shard_search.proofs.Adding.{adds_same}
use Rattle.shard_search.proofs.PulseLists.{series_is}
use Rattle.shard_search.proofs.shard.ShardSearch.end.Goals as goal

same_folds : (f : Filterbank) (edges : List ℕ) (first first' end end' : ℕ) (c c' : CellCounts) (s s' : Search) →
    first ≡ first' → end ≡ end' → c ≡ c' → s ≡ s' →
    within_delays first end (folds f edges (cells_by c) s) ≡ within_delays first' end' (folds f edges (cells_by c') s')
same_folds f edges first first' end end' c c' s s' ef ee ec es =
    ap (λ a. within_delays a end (folds f edges (cells_by c) s)) ef
    ∙ ap (λ b. within_delays first' b (folds f edges (cells_by c) s)) ee
    ∙ ap (λ (x : CellCounts). within_delays first' end' (folds f edges (cells_by x) s)) ec
    ∙ ap (λ t. within_delays first' end' (folds f edges (cells_by c') t)) es

pub end-requires-clause-cells : goal.end-requires-clause-cells
end-requires-clause-cells c =
    let fit = c.self.invariant.0 in
    let same = fit.pulses.end_is ∙ sym fit.folds.end_is in
    let P : CellCounts → Type 0 = λ counts. AreFewCells counts 4096 c.self.inside.folds.end in
    subst P (sym c.counts.ensures)
    (subst (AreFewCells c.sought.result.now.counts 4096) same c.sought.ensures.fits.cells)

pub returns-clause-folds : goal.returns-clause-folds
returns-clause-folds c = λ f stands whole.
    let i = c.self.inside in
    let fit = c.self.invariant.0 in
    let P : ShardState → Type 0 = λ s. StandsForStream s f in
    let W : ShardState → Type 0 = λ s. f.spectra ≡ s.carry.fed in
    let before = subst P (sym c.self.view_is) stands in
    let all = subst W (sym c.self.view_is) whole in
    let edges = i.carry.tables.plan.edges in
    let T : ShardState → Type 0 = λ s. Adds c.args.book.now c.end.new.book
    (folds_of_plan f s.carry.tables.plan s.pulses.search s.pulses.sought) in
    subst T c.self.view_is
    (adds_same c.args.book.now c.end.new.book _ _
    (same_folds f edges i.folds.first _ i.folds.end _ c.counts.result.now i.pulses.sought.counts i.folds.search
    i.pulses.search fit.folds.first_is fit.folds.end_is
    (c.counts.ensures ∙ ap (λ (x : Sought). x.counts) c.sought.ensures.value) fit.folds.search_is)
    (c.end.ensures.folds f edges
    (λ d h. subst (KeepsFrontOf i.folds d)
    (sym (series_is f edges d ∙ ap (sums_from_delay (sums_of f edges) d) all)) (before.folds d h))))
