use Rattle.std.proofs.Common.{ℕ, ◌+◌, ◌<◌, length, arith}
use Rattle.std.proofs.lemmas.List.{get_or_read}
use Rattle.fdmt_carry.proofs.Starts.{is_start, place_is}
use Rattle.fdmt_carry.proofs.numbers.place_in_order.Goals as goal

pub overflow_sub-result : goal.overflow_sub-result
overflow_sub-result c =
    let rows = c.args.rows.now in
    let k : ℕ = c.args.k in
    let start = is_start c.rows_are_numbered.ensures c.args.plan.now rows c.all_nodes-nodes.result.now k
    c.all_nodes-nodes.ensures.value c.all_nodes-nodes.ensures.laid c.requires.rows c.requires.node in
    let within = start.within in
    let there : k + 1 < length rows.starts.items =
    let e = c.requires.rows.starts.entries in let n = c.requires.node in omega arith in
    let next = get_or_read rows.starts.items (k + 1) c.index.result.now there c.index.ensures 0 in
    omega (arith, c.len.ensures)

pub returns-clause-place : goal.returns-clause-place
returns-clause-place c =
    let rows = c.args.rows.now in
    let k : ℕ = c.args.k in
    let there : k + 1 < length rows.starts.items =
    let e = c.requires.rows.starts.entries in let n = c.requires.node in omega arith in
    place_is rows k c.args.r c.len.result c.index.result.now c.index-2.result.now (omega (arith, c.len.ensures))
    (get_or_read rows.starts.items (k + 1) c.index.result.now there c.index.ensures 0)
    (get_or_read rows.starts.items k c.index-2.result.now (omega arith) c.index-2.ensures 0)

pub returns-clause-within : goal.returns-clause-within
returns-clause-within c =
    let rows = c.args.rows.now in
    let k : ℕ = c.args.k in
    let start = is_start c.rows_are_numbered.ensures c.args.plan.now rows c.all_nodes-nodes.result.now k
    c.all_nodes-nodes.ensures.value c.all_nodes-nodes.ensures.laid c.requires.rows c.requires.node in
    let within = start.within in
    let there : k + 1 < length rows.starts.items =
    let e = c.requires.rows.starts.entries in let n = c.requires.node in omega arith in
    let next = get_or_read rows.starts.items (k + 1) c.index.result.now there c.index.ensures 0 in
    let first = get_or_read rows.starts.items k c.index-2.result.now (omega arith) c.index-2.ensures 0 in
    omega (arith, c.len.ensures)
