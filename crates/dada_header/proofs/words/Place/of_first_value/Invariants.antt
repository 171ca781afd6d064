use Rattle.std.proofs.Common.{◌-◌, length}
use Rattle.dada_header.proofs.TextSteps.{IsSearched}
use Rattle.dada_header.proofs.words.Place.of_first_value.Given as goal

abbrev pub invariant-loop-place : goal.invariant-loop-place
invariant-loop-place l = IsSearched l.key l.text l.from

abbrev pub decreases-loop-place : goal.decreases-loop-place
decreases-loop-place l = length l.text - l.from
