use Rattle.psr_beams.proofs.Together.{stop_of_files}
use Rattle.psr_beams.proofs.laws.told_stops_are_of_files.Goals as goal

pub returns : goal.returns
returns c = λ told s files stop are some says. stop_of_files told s files are some stop says
