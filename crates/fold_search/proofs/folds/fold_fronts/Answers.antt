use Rattle.std.proofs.Common.{◌≡◌, ◌∙◌, ℕ, ◌+◌, ◌<◌, length, sym, ap, subst, refl, arith}
use Rattle.std.proofs.lemmas.List.{get_or_read}
use Rattle.search_model.specs.Folds.{series}
use Rattle.fold_search.specs.Series.{Front, no_front, IsFrontOf}
use Rattle.fold_search.specs.FoldSearch.{folds_if_folded, folds_of_delays}
use Rattle.fold_search.specs.Cells.{cells_by}
use Rattle.fold_search.proofs.Adding.{adds_more, adds_same}
use Rattle.fold_search.proofs.CellBounds.{few_cells}
use Rattle.fold_search.proofs.folds.fold_fronts.Goals as goal

pub fold_front-requires-clause-cells : goal.fold_front-requires-clause-cells
fold_front-requires-clause-cells c =
    let to = c.requires.delays.to in
    let most = c.requires.range.delays.most in
    few_cells c.args.cells.now (c.args.first + length c.args.fronts.now) (c.args.first + c.loop-at.at)
    c.requires.cells (omega arith) (omega (arith, to, most))

pub loop-at-preserved : goal.loop-at-preserved
loop-at-preserved c =
    let at : ℕ = c.loop-at.at in
    let fronts = c.args.fronts.now in
    let before = c.loop-at.invariant in
    let room = c.fold_front.ensures.room in
    let small : at < length fronts = omega arith in
    let is = get_or_read fronts at c.index-fronts-at.result small c.index-fronts-at.is no_front in
    record {
      room = record {
        longest = room.longest ∙ before.room.longest;
        most = room.most ∙ before.room.most;
      };
      folds = λ f edges are.
          adds_more c.args.book.now c.loop-at.book c.fold_front.new.book
          (λ d. folds_if_folded f edges (cells_by c.args.cells.now) c.args.search.now d) c.args.first at
          (c.args.first + at) refl (before.folds f edges are)
          (c.fold_front.ensures.folds f edges
          (subst (λ (front : Front). IsFrontOf front (series f edges (c.args.first + at))) (sym is) (are at small)));
      count = let count = c.fold_front.ensures.count in omega (arith, before.count, count);
    }

pub returns-clause-folds : goal.returns-clause-folds
returns-clause-folds c = λ f edges are.
    let all : c.loop-at.at ≡ length c.args.fronts.now = omega arith in
    adds_same c.args.book.now c.loop-at.book _ _
    (ap (folds_of_delays f edges (cells_by c.args.cells.now) c.args.search.now c.args.first) all)
    (c.loop-at.invariant.folds f edges are)
