use Rattle.std.proofs.Common.{length, ap, arith, refl}
use Rattle.row_schedule.specs.Moving.{kept_lists}
use Rattle.row_schedule.proofs.Going.{hold_room}
use Rattle.row_schedule.proofs.OwnPlaces.{adds_here, places_apart}
use Rattle.row_schedule.proofs.filling.fill_sum.Goals as goal

pub overflow_add-held : goal.overflow_add-held
overflow_add-held c =
    let is = c.hold-hold.ensures in
    let few = is.few in
    let short = is.short in
    omega arith

pub add_late-requires-clause-kept : goal.add_late-requires-clause-kept
add_late-requires-clause-kept c =
    let is = c.hold-hold.ensures in
    let size = is.size_is in
    let enough = c.requires.merge.enough in
    let long = ap length c.of.ensures in
    let room = hold_room c.args.rows.now c.args.schedule.now.narrow c.args.merge.upper c.hold-hold.result
    c.hold-hold.result.narrow (kept_lists c.args.kept_narrow.now c.args.kept_wide.now) is refl c.requires.kept in
    omega arith

pub add_late-requires-clause-upper_apart : goal.add_late-requires-clause-upper_apart
add_late-requires-clause-upper_apart c =
    places_apart c.args.room c.args.spectra c.args.merge.upper c.args.row c.own_place-2.result c.own_place.result
    c.requires.short c.requires.upper c.own_place-2.ensures c.own_place.ensures

pub add_late-requires-clause-lower_apart : goal.add_late-requires-clause-lower_apart
add_late-requires-clause-lower_apart c =
    places_apart c.args.room c.args.spectra c.args.merge.lower c.args.row c.own_place-3.result c.own_place.result
    c.requires.short c.requires.lower c.own_place-3.ensures c.own_place.ensures

pub returns : goal.returns
returns c =
    adds_here c.args.rows.now c.args.schedule.now.narrow (kept_lists c.args.kept_narrow.now c.args.kept_wide.now)
    c.args.merge c.args.row c.args.room c.args.spectra _ c.own_place.result c.own_place-2.result c.own_place-3.result
    c.hold-hold.result _ c.args.wide.now c.add_late.new.list c.hold-hold.ensures c.of.ensures refl c.own_place.ensures
    c.own_place-2.ensures c.own_place-3.ensures c.add_late.ensures
