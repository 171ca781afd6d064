use Rattle.std.proofs.Common.{◌-◌, ◌*◌, ◌^◌, ◌<◌, ap, ◌∙◌, arith, rules}
use Rattle.std.specs.Int.{div_ceil}
use Rattle.std.proofs.lemmas.Nat.{pow_pos}
use Rattle.fold_search.proofs.Reaching.{all_below_least, bases_fit}
use Rattle.fold_search.proofs.judging.may_reach.Goals as goal

pub overflow_mul-base : goal.overflow_mul-base
overflow_mul-base c =
    let rows = c.fold_row_count-rows.ensures in
    let some : 0 < 2 ^ c.args.halvings = pow_pos c.args.halvings in
    let base = c.div_ceil-base.ensures
    ∙ ap (λ l. div_ceil l c.fold_row_count-rows.result) c.saturating_sub.ensures in
    let fit = bases_fit c.args.least c.fold_row_count-rows.result c.div_ceil-base.result (omega arith)
    (omega (arith, rows.value, some)) rows.bound base in
    omega (arith, fit)

pub returns-clause-none : goal.returns-clause-none
returns-clause-none c = λ missed.
    let rows = c.fold_row_count-rows.ensures in
    let some : 0 < 2 ^ c.args.halvings = pow_pos c.args.halvings in
    let base = c.div_ceil-base.ensures
    ∙ ap (λ l. div_ceil l c.fold_row_count-rows.result) c.saturating_sub.ensures in
    let below : c.greatest_excess.result < c.args.least - c.div_ceil-base.result * c.fold_row_count-rows.result =
    search rules in
    all_below_least c.args.values.now c.args.period c.args.halvings c.args.least c.fold_row_count-rows.result
    c.div_ceil-base.result c.greatest_excess.result rows.value (omega (arith, rows.value, some))
    base below c.greatest_excess.ensures.greatest.enough
