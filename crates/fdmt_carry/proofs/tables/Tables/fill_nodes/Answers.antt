use Rattle.std.proofs.Common.{◌≡◌, ℕ, ◌+◌, ◌-◌, ap, ◌∙◌, arith, subst}
use Rattle.row_schedule.specs.Samples.{values_of}
use Rattle.fdmt_carry.specs.Orders.{start_of}
use Rattle.fdmt_carry.specs.Tables.{Tables, RowsStand, node_count}
use Rattle.fdmt_carry.proofs.Rooms.{given_stays, nothing_written, pass_room_stays, table_room_stays, wide_long, wrote_yet}
use Rattle.fdmt_carry.proofs.Tabled.{none_stand}
use Rattle.fdmt_carry.proofs.tables.Tables.fill_nodes.Goals as goal

pub loop-done-init : goal.loop-done-init
loop-done-init c = (
  nothing_written c.args.stores.now,
  λ x y u given.
      let none : c.nodes-count.result - 0 ≡ c.nodes-count.result = omega arith in
      none_stand c.args.self.now (c.nodes-count.result - 0) u c.args.spectra y c.args.stores.now.wide c.hold.ensures
      (none ∙ c.nodes-count.ensures.value ∙ ap (λ (t : Tables). node_count t) c.self.view_is),
)

pub fill_node-requires-clause-room : goal.fill_node-requires-clause-room
fill_node-requires-clause-room c =
    table_room_stays c.args.self.now.rows.rows c.args.self.now.most c.args.stores.now c.loop-done.stores
    (wide_long c.args.stores.now c.loop-done.stores c.loop-done.invariant.0) c.requires.room

pub fill_node-requires-clause-pass_room : goal.fill_node-requires-clause-pass_room
fill_node-requires-clause-pass_room c =
    pass_room_stays c.args.pass.now.schedule c.args.stores.now c.loop-done.stores
    (wide_long c.args.stores.now c.loop-done.stores c.loop-done.invariant.0) c.requires.pass_room

pub loop-done-preserved : goal.loop-done-preserved
loop-done-preserved c =
    let t = c.args.self.now in
    let spectra : ℕ = c.args.spectra in
    let old = c.args.stores.now in
    let mid = c.loop-done.stores in
    let new = c.fill_node.new.stores in
    let count : ℕ = c.nodes-count.result in
    let lt = c.loop-done-test.true in
    let here : count - c.loop-done.done ≡ count - 1 - c.loop-done.done + 1 = omega arith in
    let next : count - 1 - c.loop-done.done ≡ count - (c.loop-done.done + 1) = omega arith in (
      wrote_yet old mid new c.loop-done.invariant.0 c.fill_node.ensures.wrote,
      λ x y u given.
          subst (λ (k : ℕ). RowsStand t (start_of t.rows k) y u spectra new.wide) next
          (c.fill_node.ensures.makes x y u
          (given_stays t.rows.rows c.args.pass.now.schedule.narrow x y u t.chunk spectra (values_of c.args.samples) old
          mid c.loop-done.invariant.0 given)
          (subst (λ (k : ℕ). RowsStand t (start_of t.rows k) y u spectra mid.wide) here
          (c.loop-done.invariant.1 x y u given))),
    )

pub returns-clause-makes : goal.returns-clause-makes
returns-clause-makes c = λ x y u given r from lt.
    let t = c.args.self.now in
    let past = c.loop-done-test.false in
    let none : c.nodes-count.result - c.loop-done.done ≡ 0 = omega arith in
    let first = c.hold.ensures.rows.starts.first in
    subst (λ (k : ℕ). RowsStand t (start_of t.rows k) y u c.args.spectra c.loop-done.stores.wide) none
    (c.loop-done.invariant.1 x y u given) r (omega arith) lt
