use Rattle.std.proofs.Common.{get_or}
use Rattle.beam_set.specs.Beams.{lists_in}
use Rattle.beam_set.proofs.Rising.{ends_rise}
use Rattle.beam_set.proofs.labels.BeamLabels.of.Goals as goal

pub invariant_of-result : goal.invariant_of-result
invariant_of-result c = record {
  rise = λ k d within. ends_rise (get_or (lists_in c.args.beams.now) k d) (c.requires k d within);
}
