use Rattle.std.proofs.Common.{refl}
use Rattle.row_model.specs.declared.Source.TheVariants.{Sum}
use Rattle.subband_plan.specs.Nodes.{nodes_of}
use Rattle.subband_plan.specs.Rows.{node_of, delay_of}
use Rattle.subband_plan.proofs.Below.{way_below}
use Rattle.subband_plan.proofs.RowSums.{row_way}
use Rattle.subband_plan.proofs.laws.rows_come_after.Goals as goal

pub returns : goal.returns
returns c = λ p rows r m is are source.
    let laid = (c.plans_are_laid.ensures p is).0 in
    let way = row_way c.splits_step.ensures p rows laid are r (Sum m) source in
    let label = are.label r way.0 in
    way_below p.edges (nodes_of p) rows.starts.items rows laid
    (c.rows_are_numbered.ensures p.edges (nodes_of p) rows.starts.items laid are.starts) are.row r (node_of rows r)
    (delay_of rows r) refl label.node label.kept label.number m way.1
