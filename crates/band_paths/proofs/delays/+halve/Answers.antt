use Rattle.std.proofs.Common.{◌+◌, ◌-◌, ◌/◌, slice_index, arith, rules, get_or-set_same, get_or-set_other, ◌≢◌}
use Rattle.band_paths.proofs.Bands.{halved_twice}
use Rattle.band_paths.proofs.delays.+halve.Goals as goal

pub returns-then-hi-lo-lt2-clause-halved : goal.returns-then-hi-lo-lt2-clause-halved
returns-then-hi-lo-lt2-clause-halved t c =
    c.halves_join.ensures.single c.args.edges.now c.args.lo c.args.hi _ (omega arith) (omega arith)

pub halve-requires-2 : goal.halve-requires-2
halve-requires-2 t c =
    let delays = c.args.delays.now in
    let middle = c.args.lo + (c.args.hi - c.args.lo) / 2 in
    let value = slice_index delays c.args.lo + c.split-upper.result in
    let at_middle = c.halve.ensures.kept.above middle (omega arith) in
    let at_end = c.halve.ensures.kept.above c.args.hi (omega arith) in
    let same = get_or-set_same delays middle value 0 (omega arith) in
    let not_end : c.args.hi ≢ middle = omega arith in
    let other = get_or-set_other delays middle c.args.hi value 0 not_end in
    let part = c.split-upper.ensures.part in
    search rules

pub returns-clause-halved : goal.returns-clause-halved
returns-clause-halved t c =
    (halved_twice c.halves_join.ensures c.args.edges.now c.args.lo c.args.hi _ c.args.delays.now c.halve.new.delays
    c.halve-2.new.delays (omega arith) (omega arith)
    (let v = c.split-upper.ensures.value in omega arith)
    c.halve.ensures.kept c.halve.ensures.halved c.halve-2.ensures.kept c.halve-2.ensures.halved).0

pub returns-clause-kept : goal.returns-clause-kept
returns-clause-kept t c =
    (halved_twice c.halves_join.ensures c.args.edges.now c.args.lo c.args.hi _ c.args.delays.now c.halve.new.delays
    c.halve-2.new.delays (omega arith) (omega arith)
    (let v = c.split-upper.ensures.value in omega arith)
    c.halve.ensures.kept c.halve.ensures.halved c.halve-2.ensures.kept c.halve-2.ensures.halved).1
