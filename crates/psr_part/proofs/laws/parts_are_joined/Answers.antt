use Rattle.psr_part.proofs.Joined.{parts_are_joined}
use Rattle.psr_part.proofs.laws.parts_are_joined.Goals as goal

pub returns : goal.returns
returns g c inputs =
    parts_are_joined c.texts_say_one.ensures c.lines_are_read_back.ensures
    c.part_texts_join.ensures c.parts_join.ensures c.candidates_rise.ensures
    (g.I.Inputs.is_calm inputs)
