use Rattle.std.proofs.Common.{ℕ, ◌+◌, List, length, ap, ◌∙◌, subst}
use Rattle.row_model.specs.declared.Source.{Source}
use Rattle.subband_plan.specs.declared.nodes.Node.{Node}
use Rattle.fdmt_carry.specs.Leaving.{AreMadeOfLater, KeepNothing}
use Rattle.fdmt_carry.specs.Orders.{band_row}
use Rattle.fdmt_carry.proofs.Leaving.{band_rows_last}
use Rattle.fdmt_carry.proofs.passing.are_last.Goals as goal

pub returns-then-keep_nothing : goal.returns-then-keep_nothing
returns-then-keep_nothing c = λ yes.
    let p = c.args.plan.now in
    let rows = c.args.rows.now in
    let r : ℕ = c.row_number-count.result in
    let nothing = subst (λ (tails : List ℕ). KeepNothing tails (r + 1)) c.as_slice.ensures.value
    (c.keep_nothing.ensures c.if-keep_nothing.true) in
    let later = subst (λ (sources : List Source). AreMadeOfLater sources (length sources) (r + 1))
    c.as_slice-then-keep_nothing.ensures.value (c.are_made_of_later.ensures yes) in
    band_rows_last p rows r
    (c.row_number-count.ensures.number ∙ ap (λ (n : Node). band_row p rows n.last_row) c.whole_band-band.ensures.band)
    nothing later
