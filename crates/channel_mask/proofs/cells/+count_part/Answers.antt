use Rattle.std.proofs.Common.{ℕ, ◌+◌, ◌^◌, ◌<◌, arith, rules}
use Rattle.channel_mask.proofs.Counts.{AreHalves, are_halves, count_more}
use Rattle.channel_mask.proofs.cells.+count_part.Goals as goal
use Rattle.channel_mask.proofs.cells.+count_part.Goals.{After-split-part}

-- the counts of the halves that are added
halves : (t : ℕ) (c : After-split-part t) → AreHalves c.args.edges.now c.args.masked.now c.requires.edges c.args.lo
    c.args.hi c.loop-d.d c.split-part.result c.in_ok-upper.upper.items c.in_ok-lower.lower.items
halves t c =
    are_halves c.args.edges.now c.args.masked.now c.requires.edges c.halves_add.ensures c.asked_rows_are_there.ensures
    c.args.lo c.args.hi c.args.last (omega arith) c.requires.within c.requires.delay c.split-above.result
    c.split-above.ensures.value c.in_ok-upper.upper.items c.in_ok-lower.lower.items c.in_ok-upper.ensures
    c.in_ok-lower.ensures c.loop-d.d c.split-part.result (omega (arith, c.loop-d-test.true)) c.split-part.ensures.value

pub index-requires : goal.index-requires
index-requires t c =
    let there = (halves t (goal.at.index-requires t c).After-split-part).upper_there in
    omega arith

pub index-requires-in-loop-d : goal.index-requires-in-loop-d
index-requires-in-loop-d t c =
    let there = (halves t (goal.at.index-requires-in-loop-d t c).After-split-part).lower_there in
    omega arith

pub overflow_add-index : goal.overflow_add-index
overflow_add-index t c =
    let sum = (halves t (goal.at.overflow_add-index t c).After-split-part).sum in
    let few = (sum _ _ c.index.ensures c.index-in-loop-d.ensures).few in
    let many = c.requires.edges.many in
    let small : c.index.result.now + c.index-in-loop-d.result.now < 2 ^ 32 = omega (arith, c.loop-d-test.true) in
    search rules

pub loop-d-preserved : goal.loop-d-preserved
loop-d-preserved t c =
    let sum = (halves t (goal.at.loop-d-preserved t c).After-split-part).sum in
    rw c.in_ok-push.ensures.items (count_more c.args.edges.now c.args.masked.now c.args.lo c.args.hi c.loop-d.d
    (c.index.result.now + c.index-in-loop-d.result.now) c.loop-d.counts.items c.loop-d.invariant
    (sum _ _ c.index.ensures c.index-in-loop-d.ensures))
