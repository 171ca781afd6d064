use Rattle.std.proofs.Common.{true, false, refl}
use Rattle.row_schedule.specs.Moving.{kept_lists}
use Rattle.row_schedule.proofs.Going.{hold_room, kept_on_more}
use Rattle.row_schedule.proofs.filling.keep_row.Goals as goal

pub go_on_narrow-requires-clause-own : goal.go_on_narrow-requires-clause-own
go_on_narrow-requires-clause-own c =
    hold_room c.args.rows.now c.args.schedule.now.narrow c.args.row c.hold-hold.result true
    (kept_lists c.args.kept_narrow.now c.args.kept_wide.now) c.hold-hold.ensures c.if-hold.true c.requires.kept

pub go_on-requires-clause-own : goal.go_on-requires-clause-own
go_on-requires-clause-own c =
    hold_room c.args.rows.now c.args.schedule.now.narrow c.args.row c.hold-hold.result false
    (kept_lists c.args.kept_narrow.now c.args.kept_wide.now) c.hold-hold.ensures c.if-hold.false c.requires.kept

pub returns-then-hold : goal.returns-then-hold
returns-then-hold c = λ x y u adds fits stands so_far.
    kept_on_more c.args.rows.now c.args.schedule.now.narrow x y u c.args.room c.args.spectra c.args.row
    c.own_place-from.result c.hold-hold.result true c.args.wide.now
    (kept_lists c.args.kept_narrow.now c.args.kept_wide.now)
    (kept_lists c.go_on_narrow.new.list c.args.kept_wide.now) c.requires.row c.hold-hold.ensures c.if-hold.true
    c.own_place-from.ensures c.go_on_narrow.ensures refl adds fits stands so_far

pub returns : goal.returns
returns c = λ x y u adds fits stands so_far.
    kept_on_more c.args.rows.now c.args.schedule.now.narrow x y u c.args.room c.args.spectra c.args.row
    c.own_place-from.result c.hold-hold.result false c.args.wide.now
    (kept_lists c.args.kept_narrow.now c.args.kept_wide.now)
    (kept_lists c.args.kept_narrow.now c.go_on.new.list) c.requires.row c.hold-hold.ensures c.if-hold.false
    c.own_place-from.ensures c.go_on.ensures refl adds fits stands so_far
