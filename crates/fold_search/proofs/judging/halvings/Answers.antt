use Rattle.std.proofs.Common.{◌≡◌, ◌+◌, ◌-◌, ◌*◌, ◌^◌, ◌≤◌, sym, ap, ◌∙◌, arith}
use Rattle.search_model.specs.Folds.{halvings as halvings_of}
use Rattle.fold_search.proofs.Halvings.{halvings_all, halvings_stay, twice_as_long}
use Rattle.fold_search.proofs.judging.halvings.Goals as goal

pub loop-halvings-preserved : goal.loop-halvings-preserved
loop-halvings-preserved c =
    let before = c.loop-halvings.invariant in
    let next = before.next in
    let fits : 2 ^ (c.loop-halvings.halvings + 1) * c.args.period ≤ c.args.room = omega arith in
    record {
      within = omega arith;
      next = ap (λ n. n * 2) next ∙ twice_as_long (c.loop-halvings.halvings + 1) c.args.period;
      value = halvings_all c.args.period c.args.room c.loop-halvings.halvings fits;
      fits = λ _. fits;
    }

pub returns-else-next-room-clause-value : goal.returns-else-next-room-clause-value
returns-else-next-room-clause-value c =
    let before = c.loop-halvings.invariant in
    let next = before.next in
    let rest : c.loop-halvings.halvings + (c.args.most - c.loop-halvings.halvings) ≡ c.args.most = omega arith in
    sym (
    ap (λ m. halvings_of m c.args.period c.args.room) (sym rest)
    ∙ halvings_stay c.args.period c.args.room (c.args.most - c.loop-halvings.halvings) c.loop-halvings.halvings
    (omega arith)
    ∙ before.value)
