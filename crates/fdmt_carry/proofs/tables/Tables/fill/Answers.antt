use Rattle.std.proofs.Common.{ℕ, subst, sym}
use Rattle.row_schedule.specs.Samples.{values_of}
use Rattle.row_schedule.specs.Follows.{Follows}
use Rattle.row_schedule.specs.Filling.{HaveTableRoom}
use Rattle.fdmt_carry.specs.Tables.{Tables, MakesTables, tables}
use Rattle.fdmt_carry.specs.Making.{Fills}
use Rattle.fdmt_carry.proofs.Rooms.{filled_long, pass_room_stays, table_room_stays, wide_long}
use Rattle.fdmt_carry.proofs.Running.{filled}
use Rattle.fdmt_carry.proofs.tables.Tables.fill.Goals as goal

pub keep_rows-requires-clause-follows : goal.keep_rows-requires-clause-follows
keep_rows-requires-clause-follows c =
    subst (λ (x : Tables). Follows x.rows.rows c.args.pass.now.schedule) (sym c.self.view_is)
    c.requires.pass.1.runs.follows

pub keep_rows-requires-clause-room : goal.keep_rows-requires-clause-room
keep_rows-requires-clause-room c =
    let made = c.fill_nodes.new.stores in
    subst (λ (x : Tables). HaveTableRoom x.rows.rows x.most made) (sym c.self.view_is)
    (table_room_stays c.args.self.now.rows.rows c.args.self.now.most c.args.stores.now made
    (wide_long c.args.stores.now made c.fill_nodes.ensures.wrote) c.requires.room)

pub keep_rows-requires-clause-kept_room : goal.keep_rows-requires-clause-kept_room
keep_rows-requires-clause-kept_room c =
    let made = c.fill_nodes.new.stores in
    pass_room_stays c.args.pass.now.schedule c.args.stores.now made
    (wide_long c.args.stores.now made c.fill_nodes.ensures.wrote) c.requires.pass_room

pub returns-clause-long : goal.returns-clause-long
returns-clause-long c =
    filled_long c.args.stores.now c.fill_nodes.new.stores c.keep_rows.new.self c.fill_nodes.ensures.wrote
    c.keep_rows.ensures.wrote

pub returns-clause-fills : goal.returns-clause-fills
returns-clause-fills c =
    let s = c.self.inside in
    let t = tables s.plan s.chunk s.most s.rows in
    let pass = c.args.pass.now in
    let spectra : ℕ = c.args.spectra in
    let samples = values_of c.args.samples in
    let old = c.args.stores.now in
    let made = c.fill_nodes.new.stores in
    let new = c.keep_rows.new.self in
    let makes = subst (λ (x : Tables). MakesTables x pass.schedule.narrow spectra samples old made)
    (sym c.self.view_is) c.fill_nodes.ensures.makes in
    subst (λ (x : Tables). Fills x pass spectra samples old new) c.self.view_is
    (filled c.rows_add_up.ensures c.rows_are_bounded.ensures t pass spectra samples old made new c.self.invariant makes
    c.fill_nodes.ensures.wrote c.keep_rows.ensures.keeps c.keep_rows.ensures.wrote.wide)
