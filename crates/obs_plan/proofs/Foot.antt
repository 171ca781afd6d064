-- The foot of a band is below its top.
use Rattle.std.proofs.Common.{◌≡◌, ℕ, ◌+◌, ◌*◌, ◌<◌, ◌≤◌, get_or, arith}
use Rattle.std.proofs.lemmas.Nat.{mul-lt}
use Rattle.std.proofs.lemmas.List.FromFn.{get_or-map-range_with_len}
use Rattle.dada_model.specs.Observation.{Observation, edge, edges}
use Rattle.dada_model.specs.Bounds.{ObservationInRange}
use Rattle.dada_model.specs.Laws.{EdgesFall}

at_edge : (o : Observation) (k : ℕ) → k ≤ o.channels → get_or (edges o) k 0 ≡ edge o k
unfolding edges
at_edge o k small = get_or-map-range_with_len (edge o) 0 (o.channels + 1) k k 0 (omega arith) (omega arith)

pub squares_fall : EdgesFall → (o : Observation) → ObservationInRange o →
    edge o o.channels * edge o o.channels < edge o 0 * edge o 0
squares_fall law o r =
    let some = r.few_channels in
    let falls = (law o r).falls 0 o.channels (omega arith) (omega arith) in
    let below : edge o o.channels < edge o 0 =
    rw (at_edge o o.channels (omega arith), at_edge o 0 (omega arith)) at falls in
    mul-lt (edge o o.channels) (edge o o.channels) (edge o 0) (edge o 0) below below
