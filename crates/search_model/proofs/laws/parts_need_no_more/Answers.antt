use Rattle.search_model.proofs.Parts.{ends_rest, part_rest}
use Rattle.search_model.proofs.laws.parts_need_no_more.Goals as goal

pub returns : goal.returns
returns c = record { ends = ends_rest; part = part_rest }
