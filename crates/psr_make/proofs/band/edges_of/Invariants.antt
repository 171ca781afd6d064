use Rattle.std.proofs.Common.{◌≡◌, map}
use Rattle.std.specs.List.{range_with_len}
use Rattle.dada_model.specs.Observation.{edge}
use Rattle.psr_make.specs.Made.{made_observation}
use Rattle.psr_make.proofs.band.edges_of.Given as goal

abbrev pub invariant-loop-k : goal.invariant-loop-k
invariant-loop-k l = l.edges.items ≡ map (edge (made_observation l.spec)) (range_with_len 0 l.k)
