use Rattle.beam_set.proofs.Headers.{later_agree}
use Rattle.beam_set.proofs.laws.later_headers_agree.Goals as goal

pub returns : goal.returns
returns c = later_agree c.accepted_by_rows.ensures
