use Rattle.std.proofs.Common.{◌-◌, slice_index, ap, ◌∙◌}
use Rattle.search_model.specs.Paths.{split as split_by}
use Rattle.subband_plan.specs.Nodes.{split_of}
use Rattle.subband_plan.proofs.Splits.{grown, node_steps}
use Rattle.subband_plan.proofs.nodes.Node.grows.Goals as goal

pub returns : goal.returns
unfolding split_of
returns c =
    let edges = c.args.edges.now in
    let n = c.args.self in
    grown edges n c.args.d _ _ c.requires.some
    (node_steps c.splits_step.ensures edges n c.requires.edges c.requires.node c.requires.two (c.args.d - 1))
    (c.split-2.ensures.value
    ∙ ap (λ m. split_by (slice_index edges n.lo) (slice_index edges m) (slice_index edges n.hi) (c.args.d - 1))
    c.middle.ensures)
    (c.split.ensures.value
    ∙ ap (λ m. split_by (slice_index edges n.lo) (slice_index edges m) (slice_index edges n.hi) c.args.d)
    c.middle.ensures)
