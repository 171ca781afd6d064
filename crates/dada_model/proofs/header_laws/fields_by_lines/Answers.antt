use Rattle.dada_model.proofs.Lines.{goes_by_line}
use Rattle.dada_model.proofs.header_laws.fields_by_lines.Goals as goal

pub returns : goal.returns
returns c = goes_by_line
