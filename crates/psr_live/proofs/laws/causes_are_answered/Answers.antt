use Rattle.psr_live.proofs.Causes.{causes_are_answered}
use Rattle.psr_live.proofs.laws.causes_are_answered.Goals as goal

pub returns : goal.returns
returns g c inputs =
    causes_are_answered c.accepted_is_not_refused.ensures c.bytes_are_joined.ensures (g.I.Inputs.is_calm inputs)
    (c.end_at_words.ensures inputs) c.texts_say_one.ensures c.words_say_once.ensures
