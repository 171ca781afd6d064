use Rattle.dada_model.proofs.Words.{words_from}
use Rattle.dada_model.proofs.header_laws.first_word_of_line.Goals as goal

pub returns : goal.returns
returns c = words_from
