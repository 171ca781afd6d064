use Rattle.live_search.proofs.Plain.{one_is, rest_is, whole_is}
use Rattle.live_search.proofs.laws.live_texts_are_plain.Goals as goal

pub returns : goal.returns
returns c = record {
  one = one_is;
  rest = rest_is c.parts_join.ensures c.candidates_rise.ensures c.candidates_are_listed.ensures;
  whole = whole_is c.parts_join.ensures c.candidates_rise.ensures c.candidates_are_listed.ensures
      c.part_texts_join.ensures;
}
