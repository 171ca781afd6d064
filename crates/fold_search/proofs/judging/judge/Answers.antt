use Rattle.std.proofs.Common.{◌∙◌, [], ap, sym, arith}
use Rattle.fold_search.specs.Judging.{reaching_folds, detected_folds}
use Rattle.fold_search.proofs.Adding.{adds_none, adds_same, none_reach, none_at_all, reaching_are_detected}
use Rattle.fold_search.proofs.judging.judge.Goals as goal

pub returns-then-greatest-least-clause-list : goal.returns-then-greatest-least-clause-list
returns-then-greatest-least-clause-list c = λ cells s from.
    let of = c.args.of in
    let sums = c.args.sums.now in
    let j = c.args.trial in
    adds_same c.args.book.now c.add_reaching.new.book _ (detected_folds cells s of.delay of.period of.halvings j sums)
    (ap (λ least. reaching_folds least of.delay of.period of.halvings j sums) (sym c.in-Some.is)
    ∙ reaching_are_detected c.tests_detection.ensures cells s c.args.least of.delay of.period of.halvings j sums
    (λ k. let fits = c.type_inv.sums k in omega (arith, fits)) from)
    c.add_reaching.ensures.list

pub returns-else-greatest-least-clause-list : goal.returns-else-greatest-least-clause-list
returns-else-greatest-least-clause-list c = λ cells s from.
    let of = c.args.of in
    let sums = c.args.sums.now in
    let j = c.args.trial in
    adds_same c.args.book.now c.args.book.now [] (detected_folds cells s of.delay of.period of.halvings j sums)
    (sym (none_reach c.in-Some.least c.greatest.result of.delay of.period of.halvings j sums
    c.greatest.ensures.bound c.if-greatest-least.false)
    ∙ ap (λ least. reaching_folds least of.delay of.period of.halvings j sums) (sym c.in-Some.is)
    ∙ reaching_are_detected c.tests_detection.ensures cells s c.args.least of.delay of.period of.halvings j sums
    (λ k. let fits = c.type_inv.sums k in omega (arith, fits)) from)
    (adds_none c.args.book.now)

pub returns-in_default-clause-list : goal.returns-in_default-clause-list
returns-in_default-clause-list c = λ cells s from.
    let of = c.args.of in
    let sums = c.args.sums.now in
    let j = c.args.trial in
    adds_same c.args.book.now c.args.book.now [] (detected_folds cells s of.delay of.period of.halvings j sums)
    (sym (none_at_all of.delay of.period of.halvings j sums)
    ∙ ap (λ least. reaching_folds least of.delay of.period of.halvings j sums) (sym c.in_default.is)
    ∙ reaching_are_detected c.tests_detection.ensures cells s c.args.least of.delay of.period of.halvings j sums
    (λ k. let fits = c.type_inv.sums k in omega (arith, fits)) from)
    (adds_none c.args.book.now)
