use Rattle.std.proofs.Common.{◌≡◌, vec_len, length, arith, rules}
use Rattle.row_model.specs.Tails.{row_count}
use Rattle.row_schedule.proofs.Going.{kept_room_stays}
use Rattle.row_schedule.proofs.kept.take_rows.Goals as goal

pub loop-r-init : goal.loop-r-init
loop-r-init c = λ y u fits kept q lt. absurd (omega arith)

pub take_row-requires-clause-room : goal.take_row-requires-clause-room
take_row-requires-clause-room c =
    kept_room_stays c.args.rows.now c.args.next.now.narrow c.args.kept_narrow.now c.args.kept_wide.now
    c.loop-r.kept_narrow c.loop-r.kept_wide c.loop-r.auto.kept_narrow c.loop-r.auto.kept_wide c.requires.room

pub loop-r-preserved : goal.loop-r-preserved
loop-r-preserved c = λ y u fits kept.
    let len : vec_len c.args.rows.now.sources ≡ length c.args.rows.now.sources.items = search rules in
    let is = c.len-r-end.ensures in
    let lt = c.loop-r-test.true in
    c.take_row.ensures y u fits (kept c.loop-r.r (omega arith)) (c.loop-r.invariant y u fits kept)

pub returns : goal.returns
returns c = λ y u fits kept r in_rows.
    let end = c.loop-r-test.false in
    let all = c.loop-r.auto.r-end in
    let is = c.len-r-end.ensures in
    let len : vec_len c.args.rows.now.sources ≡ length c.args.rows.now.sources.items = search rules in
    let count : c.loop-r.r ≡ row_count c.args.rows.now = omega arith in
    c.loop-r.invariant y u fits kept r (omega arith)
