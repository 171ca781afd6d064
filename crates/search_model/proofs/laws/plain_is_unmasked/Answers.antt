use Rattle.search_model.proofs.Masks.{plain_count, plain_list, plain_text}
use Rattle.search_model.proofs.laws.plain_is_unmasked.Goals as goal

pub returns : goal.returns
returns c = record { cells = plain_count; list = plain_list; text = plain_text }
