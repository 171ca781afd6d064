use Rattle.std.proofs.Common.{◌≡◌, ◌*◌, ◌^◌, ap, ◌∙◌, drop, arith}
use Rattle.search_model.specs.Folds.{fold_sum}
use Rattle.fast_fold.proofs.Halves.{of_rows}
use Rattle.fast_fold.proofs.folder.folds_see_rows.Goals as goal

pub returns : goal.returns
returns c = λ series p r j q phases.
    of_rows (drop (0 * (2 ^ r * p)) series) p r j q phases
    ∙ ap (λ n. fold_sum (drop n series) p r j q) (let e : 0 * (2 ^ r * p) ≡ 0 = omega arith in e)
