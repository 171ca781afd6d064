use Rattle.search_model.proofs.PartTexts.{both_parts, next_text, whole_text}
use Rattle.search_model.proofs.laws.parts_join.Goals as goal

pub returns : goal.returns
returns c = record {
  parts = both_parts;
  next = next_text;
  whole = λ l f edges cells s until off all. whole_text f edges cells s off l until all;
}
