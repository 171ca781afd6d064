use Rattle.std.proofs.Common.{subst, sym}
use Rattle.row_schedule.specs.Follows.{Follows}
use Rattle.fdmt_carry.specs.Tables.{Tables, tables}
use Rattle.fdmt_carry.specs.Making.{KeepsFor}
use Rattle.fdmt_carry.proofs.Rooms.{sizes_room, sizes_table_room}
use Rattle.fdmt_carry.proofs.Running.{kept_for}
use Rattle.fdmt_carry.proofs.tables.Tables.go_over.Goals as goal

pub go_over-requires-clause-before : goal.go_over-requires-clause-before
go_over-requires-clause-before c =
    subst (λ (x : Tables). Follows x.rows.rows c.args.pass.now.schedule) (sym c.self.view_is)
    c.requires.pass.1.runs.follows

pub go_over-requires-clause-next : goal.go_over-requires-clause-next
go_over-requires-clause-next c =
    subst (λ (x : Tables). Follows x.rows.rows c.args.next.now.schedule) (sym c.self.view_is)
    c.requires.next.1.runs.follows

pub returns-clause-room : goal.returns-clause-room
returns-clause-room c =
    sizes_room c.args.next.now.schedule c.args.spare c.go_over.new.self c.requires.next_room c.go_over.ensures.sizes

pub returns-clause-table_room : goal.returns-clause-table_room
returns-clause-table_room c =
    sizes_table_room c.args.self.now.rows.rows c.args.self.now.most c.args.spare c.go_over.new.self
    c.requires.table_room c.go_over.ensures.sizes

pub returns-clause-keeps : goal.returns-clause-keeps
returns-clause-keeps c =
    let s = c.self.inside in
    let t = tables s.plan s.chunk s.most s.rows in
    subst (λ (x : Tables). KeepsFor x c.args.pass.now c.args.next.now c.args.stores.now c.go_over.new.self)
    c.self.view_is
    (kept_for c.rows_are_bounded.ensures t c.args.pass.now c.args.next.now c.args.stores.now c.go_over.new.self
    c.self.invariant c.go_over.ensures.kept)
