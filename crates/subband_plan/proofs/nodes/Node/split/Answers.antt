use Rattle.std.proofs.Common.{refl}
use Rattle.subband_plan.specs.Nodes.{split_of}
use Rattle.subband_plan.proofs.nodes.Node.split.Goals as goal

pub returns-clause-value : goal.returns-clause-value
unfolding split_of
returns-clause-value c = rw (c.split.ensures.value, c.middle-middle.ensures) refl
