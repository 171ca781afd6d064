use Rattle.std.proofs.Common.{◌≡◌, ◌∙◌, ◌*◌, ◌^◌, true, [], sym, ap, arith}
use Rattle.std.proofs.lemmas.Bool.{cond-true}
use Rattle.search_model.specs.Folds.{series}
use Rattle.search_model.specs.Candidates.{folds_of_delay}
use Rattle.fold_search.specs.Judging.{folds_in_values}
use Rattle.fold_search.specs.FoldSearch.{is_folded, folds_if_folded}
use Rattle.fold_search.specs.Cells.{cells_by}
use Rattle.fold_search.proofs.Adding.{adds_same}
use Rattle.fold_search.proofs.Fronts.{values_front, delay_folds}
use Rattle.fold_search.proofs.folds.fold_front.Goals as goal

pub returns-then-is_folded-clause-folds : goal.returns-then-is_folded-clause-folds
returns-then-is_folded-clause-folds c = λ f edges front.
    let s = c.args.search.now in
    let d = c.args.delay in
    let cells = (cells_by c.args.cells.now) in
    let folded : is_folded s d ≡ true = sym c.is_folded.ensures ∙ c.if-is_folded.true in
    let most : c.args.front.now.most ≡ s.fold_max * 2 ^ s.fold_rows =
    c.requires.most ∙ cond-true (is_folded s d) (s.fold_max * 2 ^ s.fold_rows) 0 folded in
    let some = c.requires.range.folds.least_min in
    adds_same c.args.book.now c.fold_values.new.book _ (folds_if_folded f edges cells s d)
    (ap (folds_in_values cells s d) (c.values.ensures.value ∙ front)
    ∙ values_front c.folds_see_rows.ensures cells s d c.args.front.now.most (series f edges d) (omega arith) most
    ∙ delay_folds f edges cells s d
    ∙ sym (cond-true (is_folded s d) (folds_of_delay f edges cells s d) [] folded))
    c.fold_values.ensures.list
