use Rattle.std.proofs.Common.{◌+◌, sym, ap, subst}
use Rattle.shard_search.specs.PulseSearch.{PulseState, half_row}
use Rattle.shard_search.specs.Sums.{HaveTaken, sums_of}
use Rattle.shard_search.proofs.LeftOut.{taken_quietly}
use Rattle.shard_search.proofs.Passing.{can_take_halves, half_row_is, half_row_length}
use Rattle.shard_search.proofs.shard.take_quiet.Goals as goal

pub take_quiet-requires : goal.take_quiet-requires
take_quiet-requires c =
    can_take_halves c.args.carry.now c.args.pulses.now c.in-Some.halves c.args.d c.requires.delay c.requires.row
    c.in-Some.ensures.long c.in-Some.ensures.sums

pub returns-in-Some-clause-taken : goal.returns-in-Some-clause-taken
returns-in-Some-clause-taken c = λ quiet f stands before.
    let a = c.args in
    let carry = a.carry.now in
    let p = a.pulses.now in
    let q = c.take_quiet.new.self in
    let y = sums_of f carry.tables.plan.edges in
    let row = half_row c.in-Some.halves in
    let taken = c.take_quiet.ensures in
    let is = half_row_is carry c.in-Some.halves f a.d c.requires.row.at c.in-Some.ensures.long
    (λ k lt. c.in-Some.ensures.sums f k stands lt) in
    let long = half_row_length carry.last c.in-Some.halves c.in-Some.ensures.long in
    subst (λ n. HaveTaken y q a.folds.now carry.fed n (a.d + 1)) long
    (taken_quietly y p q a.folds.now carry.fed a.d row taken.alike (ap (λ (r : PulseState). r.hits) taken.same)
    c.requires.delay c.requires.fold is (taken.own quiet) taken.others (c.is_folded.ensures.kept c.if-is_folded.false)
    (λ k has lt. taken.quiet quiet y carry.fed k is has lt) taken.kept
    (subst (λ n. HaveTaken y p a.folds.now carry.fed n a.d) (sym long) before))
