use Rattle.std.proofs.Common.{◌≡◌, vec_len, length, arith, rules}
use Rattle.row_model.specs.Tails.{row_count}
use Rattle.row_schedule.proofs.Going.{kept_room_stays}
use Rattle.row_schedule.proofs.filling.keep_rows.Goals as goal

pub loop-row-init : goal.loop-row-init
loop-row-init c = λ x y u adds fits kept stands. record {
  first = λ q lt. absurd (omega arith);
  others = λ q past lt. kept q lt;
}

pub keep_row-requires-clause-kept : goal.keep_row-requires-clause-kept
keep_row-requires-clause-kept c =
    kept_room_stays c.args.rows.now c.args.schedule.now.narrow c.args.kept_narrow.now c.args.kept_wide.now
    c.loop-row.kept_narrow c.loop-row.kept_wide c.loop-row.auto.kept_narrow c.loop-row.auto.kept_wide c.requires.kept

pub loop-row-preserved : goal.loop-row-preserved
loop-row-preserved c = λ x y u adds fits kept stands.
    let len : vec_len c.args.rows.now.sources ≡ length c.args.rows.now.sources.items = search rules in
    let is = c.len-row-end.ensures in
    let lt = c.loop-row-test.true in
    c.keep_row.ensures x y u adds fits (stands c.loop-row.row (omega arith)) (c.loop-row.invariant x y u adds fits kept stands)

pub returns : goal.returns
returns c = λ x y u adds fits kept stands r in_rows.
    let end = c.loop-row-test.false in
    let all = c.loop-row.auto.row-end in
    let is = c.len-row-end.ensures in
    let len : vec_len c.args.rows.now.sources ≡ length c.args.rows.now.sources.items = search rules in
    let count : c.loop-row.row ≡ row_count c.args.rows.now = omega arith in
    (c.loop-row.invariant x y u adds fits kept stands).first r (omega arith)
