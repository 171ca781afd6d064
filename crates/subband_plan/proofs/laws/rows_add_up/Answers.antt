use Rattle.subband_plan.specs.Nodes.{nodes_of}
use Rattle.subband_plan.proofs.RowSums.{add_up}
use Rattle.subband_plan.proofs.laws.rows_add_up.Goals as goal

pub returns : goal.returns
returns c = λ p rows f is are _.
    let laid = (c.plans_are_laid.ensures p is).0 in
    add_up
    (record { halves = c.halves_add.ensures; adds = c.one_channel_adds.ensures; fit = c.splits_fit.ensures })
    c.one_channel_is_its_sample.ensures c.time_shifts.ensures c.splits_step.ensures p rows f laid
    (c.rows_are_numbered.ensures p.edges (nodes_of p) rows.starts.items laid are.starts) are
