use Rattle.std.proofs.Common.{◌≡◌, ℕ, ◌+◌, ◌<◌, List, arith, ap, sym, ◌∙◌, subst, length}
use Rattle.std.proofs.lemmas.List.{get_or_read}
use Rattle.subband_plan.specs.declared.nodes.Node.{Node}
use Rattle.subband_plan.specs.Nodes.{least_row, nodes_of, node_at}
use Rattle.subband_plan.specs.Rows.{IsRow}
use Rattle.fdmt_carry.specs.Orders.{start_of}
use Rattle.fdmt_carry.proofs.Starts.{kept_row, number_is}
use Rattle.fdmt_carry.proofs.numbers.row_number.Goals as goal

pub overflow_sub-result : goal.overflow_sub-result
overflow_sub-result c =
    let p = c.args.plan.now in
    let rows = c.args.rows.now in
    let k : ℕ = c.args.k in
    let row = kept_row c.rows_are_numbered.ensures p rows c.all_nodes.result.now k c.args.d c.all_nodes.ensures.value
    c.all_nodes.ensures.laid c.requires.rows c.requires.node c.requires.row in
    let least : c.least_row.result ≡ least_row (node_at (nodes_of p) k) =
    c.least_row.ensures ∙ ap (λ (nodes : List Node). least_row (node_at nodes k)) c.all_nodes.ensures.value in
    let from = row.least in
    omega arith

pub returns-clause-row : goal.returns-clause-row
returns-clause-row c =
    let p = c.args.plan.now in
    let rows = c.args.rows.now in
    let k : ℕ = c.args.k in
    let d : ℕ = c.args.d in
    let row = kept_row c.rows_are_numbered.ensures p rows c.all_nodes.result.now k d c.all_nodes.ensures.value
    c.all_nodes.ensures.laid c.requires.rows c.requires.node c.requires.row in
    let there : k < length rows.starts.items =
    let e = c.requires.rows.starts.entries in let n = c.requires.node in omega arith in
    let number = number_is p rows k d c.index.result.now c.least_row.result
    (get_or_read rows.starts.items k c.index.result.now there c.index.ensures 0)
    (c.least_row.ensures ∙ ap (λ (nodes : List Node). least_row (node_at nodes k)) c.all_nodes.ensures.value) in
    subst (λ (r : ℕ). IsRow rows k d r) (sym number) row.row

pub returns-clause-to : goal.returns-clause-to
returns-clause-to c =
    let p = c.args.plan.now in
    let rows = c.args.rows.now in
    let k : ℕ = c.args.k in
    let d : ℕ = c.args.d in
    let row = kept_row c.rows_are_numbered.ensures p rows c.all_nodes.result.now k d c.all_nodes.ensures.value
    c.all_nodes.ensures.laid c.requires.rows c.requires.node c.requires.row in
    let there : k < length rows.starts.items =
    let e = c.requires.rows.starts.entries in let n = c.requires.node in omega arith in
    let number = number_is p rows k d c.index.result.now c.least_row.result
    (get_or_read rows.starts.items k c.index.result.now there c.index.ensures 0)
    (c.least_row.ensures ∙ ap (λ (nodes : List Node). least_row (node_at nodes k)) c.all_nodes.ensures.value) in
    subst (λ (r : ℕ). r < start_of rows (k + 1)) (sym number) row.to
