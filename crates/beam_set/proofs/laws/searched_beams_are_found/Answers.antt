use Rattle.beam_set.proofs.Found.{searched_beams}
use Rattle.beam_set.proofs.laws.searched_beams_are_found.Goals as goal

pub returns : goal.returns
returns c = searched_beams c.candidates_are_listed.ensures c.candidates_rise.ensures
