use Rattle.subband_plan.specs.Nodes.{nodes_of}
use Rattle.subband_plan.proofs.RowSums.{band_rows}
use Rattle.subband_plan.proofs.laws.band_rows_are_path_sums.Goals as goal

pub returns : goal.returns
returns c = λ p rows f d u is are.
    let laid = c.plans_are_laid.ensures p is in
    band_rows c.whole_band_is_path_sum.ensures c.late_path_sums.ensures p rows f d u laid.0
    (c.rows_are_numbered.ensures p.edges (nodes_of p) rows.starts.items laid.0 are.starts) laid.1 are
