use Rattle.std.proofs.Common.{◌≡◌, map}
use Rattle.std.specs.List.{range_with_len}
use Rattle.dada_model.specs.Observation.{edge}
use Rattle.obs_plan.proofs.numbers.Numbers.edges.Given as goal

abbrev pub invariant-loop-k : goal.invariant-loop-k
invariant-loop-k l = l.edges.items ≡ map (edge l.self) (range_with_len 0 l.k)
