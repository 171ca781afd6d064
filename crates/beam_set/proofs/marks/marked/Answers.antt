use Rattle.std.proofs.Common.{get_or}
use Rattle.beam_set.specs.Beams.{lists_in}
use Rattle.beam_set.proofs.Rising.{ends_rise}
use Rattle.beam_set.proofs.marks.marked.Goals as goal

pub marked_among-requires : goal.marked_among-requires
marked_among-requires c = λ k d within. ends_rise (get_or (lists_in c.args.beams.now) k d) (c.requires k d within)
