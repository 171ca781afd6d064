use Rattle.psr_demo.proofs.Summed.{end_is_last}
use Rattle.psr_demo.proofs.laws.text_ends_in_its_end_line.Goals as goal

pub returns : goal.returns
returns c = end_is_last c.samples_of_bytes.ensures
