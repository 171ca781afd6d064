use Rattle.dada_model.proofs.Spelled.{numbers_are_spelled}
use Rattle.dada_model.proofs.laws.numbers_are_spelled.Goals as goal

pub returns : goal.returns
returns c = numbers_are_spelled
