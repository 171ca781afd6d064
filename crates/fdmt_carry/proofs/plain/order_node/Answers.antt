use Rattle.std.proofs.Common.{ℕ, ◌+◌, ◌<◌, List, length, arith, subst, sym, refl}
use Rattle.std.proofs.lemmas.List.{get_or_read}
use Rattle.row_schedule.specs.declared.builder.Order.{Order}
use Rattle.fdmt_carry.proofs.Starts.{is_start}
use Rattle.fdmt_carry.proofs.Plainly.{NodeIsMade, node_begins, node_ends, row_more}
use Rattle.fdmt_carry.proofs.plain.order_node.Goals as goal

pub loop-r-init : goal.loop-r-init
loop-r-init c =
    let p = c.args.plan.now in
    let rows = c.args.rows.now in
    let k : ℕ = c.args.k in
    let there : k < length rows.starts.items =
    let e = c.requires.rows.starts.entries in let n = c.requires.node in omega arith in
    let first = get_or_read rows.starts.items k c.index-r.result.now there c.index-r.ensures 0 in
    subst (λ (r : ℕ). NodeIsMade p rows k r c.args.orders.now.items) (sym first)
    (node_begins p rows k c.args.orders.now.items c.requires.rows c.requires.made)

pub loop-r-preserved : goal.loop-r-preserved
loop-r-preserved c =
    let p = c.args.plan.now in
    let rows = c.args.rows.now in
    let k : ℕ = c.args.k in
    let r : ℕ = c.loop-r.r in
    let there : k + 1 < length rows.starts.items =
    let e = c.requires.rows.starts.entries in let n = c.requires.node in omega arith in
    let first = get_or_read rows.starts.items k c.index-r.result.now (omega arith) c.index-r.ensures 0 in
    let end = get_or_read rows.starts.items (k + 1) c.index-r-end.result.now there c.index-r-end.ensures 0 in
    let laid = (c.plans_are_laid.ensures p c.requires.plan).0 in
    let start = is_start c.rows_are_numbered.ensures p rows _ k refl laid c.requires.rows c.requires.node in
    let from = c.loop-r.auto.r in
    let to = c.loop-r-test.true in
    subst (λ (orders : List Order). NodeIsMade p rows k (r + 1) orders) (sym c.in_ok-push.ensures.items)
    (row_more c.rows_are_numbered.ensures c.rows_come_after.ensures p rows k r c.loop-r.orders.items c.requires.plan
    laid c.requires.rows c.requires.node (omega arith) (omega arith) start.within c.loop-r.invariant)

pub returns : goal.returns
returns c =
    let p = c.args.plan.now in
    let rows = c.args.rows.now in
    let k : ℕ = c.args.k in
    let there : k + 1 < length rows.starts.items =
    let e = c.requires.rows.starts.entries in let n = c.requires.node in omega arith in
    let first = get_or_read rows.starts.items k c.index-r.result.now (omega arith) c.index-r.ensures 0 in
    let end = get_or_read rows.starts.items (k + 1) c.index-r-end.result.now there c.index-r-end.ensures 0 in
    let laid = (c.plans_are_laid.ensures p c.requires.plan).0 in
    let start = is_start c.rows_are_numbered.ensures p rows _ k refl laid c.requires.rows c.requires.node in
    let next = start.next in
    let past = c.loop-r-test.false in
    let most = c.loop-r.auto.r-end (omega arith) in
    node_ends p rows k c.loop-r.r c.loop-r.orders.items c.requires.rows (omega arith) c.loop-r.invariant
