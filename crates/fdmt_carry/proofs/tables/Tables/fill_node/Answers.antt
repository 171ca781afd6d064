use Rattle.std.proofs.Common.{◌≡◌, ℕ, ◌+◌, ◌<◌, length, arith, ap, sym, ◌∙◌, subst, refl}
use Rattle.std.proofs.lemmas.List.{get_or_read}
use Rattle.row_schedule.specs.Samples.{values_of}
use Rattle.row_schedule.specs.Filling.{HaveTableRoom}
use Rattle.row_schedule.specs.Follows.{Follows}
use Rattle.fdmt_carry.specs.Orders.{start_of}
use Rattle.fdmt_carry.specs.Tables.{Tables, MakesNode, node_count, tables}
use Rattle.fdmt_carry.proofs.Rooms.{nothing_written, pass_room_stays, table_room_stays, wide_long, wrote_yet}
use Rattle.fdmt_carry.proofs.Starts.{is_start}
use Rattle.fdmt_carry.proofs.Tabled.{MakesBefore, is_of_others, makes_more, node_begins, node_ends}
use Rattle.fdmt_carry.proofs.tables.Tables.fill_node.Goals as goal

pub loop-r-init : goal.loop-r-init
loop-r-init c =
    let t = c.args.self.now in
    let s = c.self.inside in
    let k : ℕ = c.args.k in
    let node = c.requires.node in
    let entries = c.self.invariant.rows.starts.entries in
    let count = ap (λ (x : Tables). node_count x) c.self.view_is in
    let there : k < length s.rows.starts.items = omega arith in
    let first : c.index-r.result.now ≡ start_of t.rows k =
    get_or_read s.rows.starts.items k c.index-r.result.now there c.index-r.ensures 0
    ∙ ap (λ (x : Tables). start_of x.rows k) c.self.view_is in (
      nothing_written c.args.stores.now,
      λ x y u given after.
          node_begins t k c.index-r.result.now u c.args.spectra y c.args.stores.now.wide first after,
    )

pub fill_row-requires-clause-room : goal.fill_row-requires-clause-room
fill_row-requires-clause-room c =
    subst (λ (x : Tables). HaveTableRoom x.rows.rows x.most c.loop-r.stores) (sym c.self.view_is)
    (table_room_stays c.args.self.now.rows.rows c.args.self.now.most c.args.stores.now c.loop-r.stores
    (wide_long c.args.stores.now c.loop-r.stores c.loop-r.invariant.0) c.requires.room)

pub fill_row-requires-clause-follows : goal.fill_row-requires-clause-follows
fill_row-requires-clause-follows c =
    subst (λ (x : Tables). Follows x.rows.rows c.args.pass.now.schedule) (sym c.self.view_is)
    c.requires.pass.1.runs.follows

pub fill_row-requires-clause-kept_room : goal.fill_row-requires-clause-kept_room
fill_row-requires-clause-kept_room c =
    pass_room_stays c.args.pass.now.schedule c.args.stores.now c.loop-r.stores
    (wide_long c.args.stores.now c.loop-r.stores c.loop-r.invariant.0) c.requires.pass_room

pub fill_row-requires-clause-row : goal.fill_row-requires-clause-row
fill_row-requires-clause-row c =
    let s = c.self.inside in
    let k : ℕ = c.args.k in
    let is = c.self.invariant in
    let node = c.requires.node in
    let entries = is.rows.starts.entries in
    let count = ap (λ (x : Tables). node_count x) c.self.view_is in
    let t = tables s.plan s.chunk s.most s.rows in
    let in_k : k < node_count t = omega arith in
    let there : k + 1 < length s.rows.starts.items = omega arith in
    let end = get_or_read s.rows.starts.items (k + 1) c.index-r-end.result.now there c.index-r-end.ensures 0 in
    let laid = (c.plans_are_laid.ensures s.plan is.plan).0 in
    let start = is_start c.rows_are_numbered.ensures s.plan s.rows _ k refl laid is.rows in_k in
    let within = start.within in
    let to = c.loop-r-test.true in
    omega arith

pub fill_row-requires-clause-others : goal.fill_row-requires-clause-others
fill_row-requires-clause-others c =
    let s = c.self.inside in
    let t = tables s.plan s.chunk s.most s.rows in
    is_of_others c.rows_come_after.ensures t c.loop-r.r c.self.invariant

pub loop-r-preserved : goal.loop-r-preserved
loop-r-preserved c =
    let s = c.self.inside in
    let t = tables s.plan s.chunk s.most s.rows in
    let k : ℕ = c.args.k in
    let r : ℕ = c.loop-r.r in
    let spectra : ℕ = c.args.spectra in
    let narrow = c.args.pass.now.schedule.narrow in
    let samples = values_of c.args.samples in
    let old = c.args.stores.now in
    let mid = c.loop-r.stores in
    let new = c.fill_row.new.self in
    let is = c.self.invariant in
    let node = c.requires.node in
    let entries = is.rows.starts.entries in
    let count = ap (λ (x : Tables). node_count x) c.self.view_is in
    let in_k : k < node_count t = omega arith in
    let there : k + 1 < length s.rows.starts.items = omega arith in
    let first = get_or_read s.rows.starts.items k c.index-r.result.now (omega arith) c.index-r.ensures 0 in
    let end = get_or_read s.rows.starts.items (k + 1) c.index-r-end.result.now there c.index-r-end.ensures 0 in
    let laid = (c.plans_are_laid.ensures s.plan is.plan).0 in
    let from = c.loop-r.auto.r in
    let to = c.loop-r-test.true in (
      wrote_yet old mid new c.loop-r.invariant.0 c.fill_row.ensures.wrote,
      subst (λ (x : Tables). MakesBefore x narrow k (r + 1) spectra samples old new) c.self.view_is
          (makes_more c.rows_are_numbered.ensures c.rows_come_after.ensures t narrow k r spectra samples old mid new laid
          is in_k (omega arith) (omega arith) c.loop-r.invariant.0 c.fill_row.ensures.stands c.fill_row.ensures.others
          (subst (λ (x : Tables). MakesBefore x narrow k r spectra samples old mid) (sym c.self.view_is)
          c.loop-r.invariant.1)),
    )

pub returns-clause-makes : goal.returns-clause-makes
returns-clause-makes c =
    let s = c.self.inside in
    let t = tables s.plan s.chunk s.most s.rows in
    let k : ℕ = c.args.k in
    let r : ℕ = c.loop-r.r in
    let spectra : ℕ = c.args.spectra in
    let narrow = c.args.pass.now.schedule.narrow in
    let samples = values_of c.args.samples in
    let old = c.args.stores.now in
    let new = c.loop-r.stores in
    let is = c.self.invariant in
    let node = c.requires.node in
    let entries = is.rows.starts.entries in
    let count = ap (λ (x : Tables). node_count x) c.self.view_is in
    let in_k : k < node_count t = omega arith in
    let there : k + 1 < length s.rows.starts.items = omega arith in
    let first = get_or_read s.rows.starts.items k c.index-r.result.now (omega arith) c.index-r.ensures 0 in
    let end = get_or_read s.rows.starts.items (k + 1) c.index-r-end.result.now there c.index-r-end.ensures 0 in
    let laid = (c.plans_are_laid.ensures s.plan is.plan).0 in
    let start = is_start c.rows_are_numbered.ensures s.plan s.rows _ k refl laid is.rows in_k in
    let next = start.next in
    let past = c.loop-r-test.false in
    let most = c.loop-r.auto.r-end (omega arith) in
    let makes = subst (λ (x : Tables). MakesBefore x narrow k r spectra samples old new) (sym c.self.view_is)
    c.loop-r.invariant.1 in
    subst (λ (x : Tables). MakesNode x narrow k spectra samples old new) c.self.view_is
    (λ x y u given after. node_ends t k r u spectra y new.wide (omega arith) (makes x y u given after))
