use Rattle.std.proofs.Common.{refl}
use Rattle.shard_search.proofs.Rows.{taken_more}
use Rattle.shard_search.proofs.shard.take_row.Goals as goal

pub returns-clause-taken : goal.returns-clause-taken
returns-clause-taken c = λ y is before.
    let a = c.args in
    taken_more y a.pulses.now c.take.new.self a.folds.now c.take_folds.new.folds a.start a.d a.row.now _
    c.take.ensures.alike c.take_folds.ensures.alike c.requires.delay c.requires.fold
    refl is c.take.ensures.own c.take.ensures.others c.take_folds.ensures.own
    c.take_folds.ensures.others (λ k had below. c.take.ensures.hits y a.start k is had below)
    (λ had kept. c.take.ensures.kept y a.start is had kept) before
