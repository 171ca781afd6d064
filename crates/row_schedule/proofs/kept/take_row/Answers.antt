use Rattle.std.proofs.Common.{length, ap, true, false, refl, arith}
use Rattle.row_schedule.specs.Moving.{kept_lists}
use Rattle.row_schedule.proofs.Going.{hold_room, taken_more}
use Rattle.row_schedule.proofs.kept.take_row.Goals as goal

pub narrow_to-requires-clause-own : goal.narrow_to-requires-clause-own
narrow_to-requires-clause-own c =
    hold_room c.args.rows.now c.args.next.now.narrow c.args.r c.hold-to.result true
    (kept_lists c.args.kept_narrow.now c.args.kept_wide.now) c.hold-to.ensures c.if-to.true c.requires.room

pub narrow_to-requires-clause-from : goal.narrow_to-requires-clause-from
narrow_to-requires-clause-from c =
    let from = c.hold-from.ensures.size_is in
    let to = c.hold-to.ensures.size_is in
    let long = ap length c.of-values.ensures in
    let room = hold_room c.args.rows.now c.args.before.now.narrow c.args.r c.hold-from.result c.hold-from.result.narrow
    (kept_lists c.args.old_narrow.now c.args.old_wide.now) c.hold-from.ensures refl c.requires.old_room in
    omega arith

pub widen_to-requires-clause-own : goal.widen_to-requires-clause-own
widen_to-requires-clause-own c =
    hold_room c.args.rows.now c.args.next.now.narrow c.args.r c.hold-to.result false
    (kept_lists c.args.kept_narrow.now c.args.kept_wide.now) c.hold-to.ensures c.if-to.false c.requires.room

pub widen_to-requires-clause-from : goal.widen_to-requires-clause-from
widen_to-requires-clause-from c =
    let from = c.hold-from.ensures.size_is in
    let to = c.hold-to.ensures.size_is in
    let long = ap length c.of-values.ensures in
    let room = hold_room c.args.rows.now c.args.before.now.narrow c.args.r c.hold-from.result c.hold-from.result.narrow
    (kept_lists c.args.old_narrow.now c.args.old_wide.now) c.hold-from.ensures refl c.requires.old_room in
    omega arith

pub returns-then-to : goal.returns-then-to
returns-then-to c = λ y u fits keeps so_far.
    taken_more c.args.rows.now c.args.before.now.narrow c.args.next.now.narrow y u c.args.r c.hold-from.result
    c.hold-to.result c.hold-from.result.narrow true _ (kept_lists c.args.old_narrow.now c.args.old_wide.now)
    (kept_lists c.args.kept_narrow.now c.args.kept_wide.now) (kept_lists c.narrow_to.new.out c.args.kept_wide.now)
    c.hold-from.ensures c.hold-to.ensures refl c.if-to.true c.of-values.ensures c.narrow_to.ensures refl fits keeps
    so_far

pub returns : goal.returns
returns c = λ y u fits keeps so_far.
    taken_more c.args.rows.now c.args.before.now.narrow c.args.next.now.narrow y u c.args.r c.hold-from.result
    c.hold-to.result c.hold-from.result.narrow false _ (kept_lists c.args.old_narrow.now c.args.old_wide.now)
    (kept_lists c.args.kept_narrow.now c.args.kept_wide.now) (kept_lists c.args.kept_narrow.now c.widen_to.new.out)
    c.hold-from.ensures c.hold-to.ensures refl c.if-to.false c.of-values.ensures c.widen_to.ensures refl fits keeps
    so_far
