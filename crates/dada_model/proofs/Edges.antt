-- The edges of the channels of an accepted observation, and its dispersion measure.
use Rattle.std.proofs.Common.{◌≡◌, ℕ, zero, suc, ◌+◌, ◌-◌, ◌*◌, ◌/◌, ◌^◌, ◌<◌, ◌≤◌, length, get_or, ap, arith}
use Rattle.std.specs.Prelude.{pos, ◌-ℤ◌, unsigned_abs}
use Rattle.std.proofs.lemmas.Int.{ints}
use Rattle.std.proofs.lemmas.Nat.{le-div, div_below, mul-le}
use Rattle.std.proofs.lemmas.List.FromFn.{length-map-range_with_len, get_or-map-range_with_len}
use Rattle.std.proofs.Math.Nat.{mul-le-mul_left, mul-le-mul_right, div-mul-le_self, div-le_of_le-mul}
use Rattle.dada_model.specs.Bounds.{ObservationInRange}
use Rattle.dada_model.specs.Edges.{AreEdges}
use Rattle.dada_model.specs.Observation.{Observation, signed_edge, edge, edges, dispersion_span}

pub difference : (a c : ℕ) → c ≤ a → pos a -ℤ pos c ≡ pos (a - c)
difference a c h = omega (arith, ints)

-- what stands above the line in the edge k
abbrev numerator : ℕ → ℕ → ℕ → ℕ → ℕ
numerator f b n k = 2 * f * n + b * n - 2 * b * k

-- the edge in natural numbers
signed_edge_is : (o : Observation) (k : ℕ) →
    2 * o.width_hz * k ≤ 2 * o.centre_hz * o.channels + o.width_hz * o.channels →
    signed_edge o k ≡ pos (numerator o.centre_hz o.width_hz o.channels k / (2000 * o.channels))
unfolding signed_edge
signed_edge_is o k h = rw (difference (2 * o.centre_hz * o.channels + o.width_hz * o.channels) (2 * o.width_hz * k) h)

-- one channel takes 2000 n at least off the edge below it
module _ (f b n k : ℕ) (foot : b + 2000 ≤ 2 * f) (small : k ≤ n) where
  above_foot : 2000 * n + 2 * b * k ≤ 2 * f * n + b * n
  above_foot = let below : b * k ≤ b * n = mul-le-mul_left b small in
      let room : (b + 2000) * n ≤ 2 * f * n = mul-le-mul_right n foot in omega arith

module _ (o : Observation) (r : ObservationInRange o) where
  within_band : (k : ℕ) → k ≤ o.channels →
      2000 * o.channels + 2 * o.width_hz * k ≤ 2 * o.centre_hz * o.channels + o.width_hz * o.channels
  within_band k small = above_foot o.centre_hz o.width_hz o.channels k r.foot small

  pub edge_is : (k : ℕ) → k ≤ o.channels →
      edge o k ≡ numerator o.centre_hz o.width_hz o.channels k / (2000 * o.channels)
  unfolding edge
  edge_is k small = let room = within_band k small in ap unsigned_abs (signed_edge_is o k (omega arith))

  edge_positive : (k : ℕ) → k ≤ o.channels → 1 ≤ edge o k
  edge_positive k small =
      let room = within_band k small in
      let some = r.few_channels in
      let whole : 1 ≤ numerator o.centre_hz o.width_hz o.channels k / (2000 * o.channels) =
      le-div 1 _ (2000 * o.channels) (omega arith) (omega arith) in
      rw (edge_is k small) whole

  edge_below : (k : ℕ) → k ≤ o.channels → edge o k ≤ 2 ^ 24
  edge_below k small =
      let some = r.few_channels in
      let below_top : 2 * o.centre_hz + o.width_hz + 1 ≤ 2000 * 16777217 = omega (arith, r.top) in
      let room : (2 * o.centre_hz + o.width_hz + 1) * o.channels ≤ 2000 * 16777217 * o.channels =
      mul-le-mul_right o.channels below_top in
      let whole : numerator o.centre_hz o.width_hz o.channels k / (2000 * o.channels) < 16777217 =
      div_below _ (2000 * o.channels) 16777217 (omega arith) (omega arith) in
      rw (edge_is k small) (omega arith)

  edge_falls : (k : ℕ) → k < o.channels → edge o (k + 1) < edge o k
  edge_falls k small =
      let some = r.few_channels in
      let wide = r.wide in
      let room = within_band (k + 1) (omega arith) in
      let lower = numerator o.centre_hz o.width_hz o.channels (k + 1) in
      let rounded : lower / (2000 * o.channels) * (2000 * o.channels) ≤ lower =
      div-mul-le_self lower (2000 * o.channels) in
      let step : lower / (2000 * o.channels) + 1
      ≤ numerator o.centre_hz o.width_hz o.channels k / (2000 * o.channels) =
      le-div (lower / (2000 * o.channels) + 1) _ (2000 * o.channels) (omega arith) (omega arith) in
      rw (edge_is (k + 1) (omega arith), edge_is k (omega arith)) (omega arith)

  edge_falls_by : (i j : ℕ) → i + j ≤ o.channels → edge o (i + j) + j ≤ edge o i
  edge_falls_by i zero small = let here : i + 0 ≡ i = omega arith in rw here (omega arith)
  edge_falls_by i (suc j) small =
      let next : i + suc j ≡ (i + j) + 1 = omega arith in
      rw next (omega (arith, edge_falls (i + j) (omega arith), edge_falls_by i j (omega arith)))

  edge_above : (i k : ℕ) → i < k → k ≤ o.channels → edge o k < edge o i
  edge_above i k below small =
      let apart = edge_falls_by i (k - i) (omega arith) in
      let same : i + (k - i) ≡ k = omega arith in
      omega (arith, rw same at apart)

-- the list of the edges
length-edges : (o : Observation) → length (edges o) ≡ o.channels + 1
unfolding edges
length-edges o = length-map-range_with_len (edge o) 0 (o.channels + 1)

get_or-edges : (o : Observation) (k : ℕ) → k ≤ o.channels → get_or (edges o) k 0 ≡ edge o k
unfolding edges
get_or-edges o k small = get_or-map-range_with_len (edge o) 0 (o.channels + 1) k k 0 (omega arith) (omega arith)

-- ---- the dispersion measure

span_below : (top foot : ℕ) → foot + 2 ≤ top → top ≤ 2 ^ 24 → top * top * (foot * foot) / (top * top - foot * foot)
    ≤ 2 ^ 71
span_below top foot apart low =
    let wider : (foot + 2) * top ≤ top * top = mul-le-mul_right top apart in
    let lower : foot * foot ≤ foot * top = mul-le-mul_left foot (omega arith) in
    let apart_by : 2 * top ≤ top * top - foot * foot = omega arith in
    let small : foot * foot ≤ 2 ^ 24 * 2 ^ 24 = mul-le foot foot (2 ^ 24) (2 ^ 24) (omega arith) (omega arith) in
    let both : top * (foot * foot) ≤ 2 ^ 24 * 2 ^ 48 = mul-le top (foot * foot) (2 ^ 24) (2 ^ 48) low small in
    let all : top * (top * (foot * foot)) ≤ top * 2 ^ 72 = mul-le-mul_left top both in
    let line : 2 * top * 2 ^ 71 ≤ (top * top - foot * foot) * 2 ^ 71 = mul-le-mul_right (2 ^ 71) apart_by in
    div-le_of_le-mul (top * top - foot * foot) (omega arith)

module _ (o : Observation) (r : ObservationInRange o) where
  dispersion_span_below : dispersion_span o ≤ 2 ^ 71
  unfolding dispersion_span
  dispersion_span_below =
      let falls = edge_falls_by o r 0 o.channels (omega arith) in
      let some = r.few_channels in
      let whole : 0 + o.channels ≡ o.channels = omega arith in
      let apart : edge o o.channels + 2 ≤ edge o 0 = omega (arith, rw whole at falls) in
      span_below (edge o 0) (edge o o.channels) apart (edge_below o r 0 (omega arith))

  -- no number in the dispersion measure reaches 2^122
  pub dm_fits : (d : ℕ) → d ≤ 8192 → d * o.sample_ns * 241 * dispersion_span o < 2 ^ 122
  dm_fits d low =
      let short : d * o.sample_ns ≤ 8192 * 2 ^ 30 = mul-le d o.sample_ns 8192 (2 ^ 30) low r.long_sample in
      let span : d * o.sample_ns * 241 * dispersion_span o ≤ 8192 * 2 ^ 30 * 241 * 2 ^ 71 =
      mul-le (d * o.sample_ns * 241) (dispersion_span o) (8192 * 2 ^ 30 * 241) (2 ^ 71)
      (omega arith) dispersion_span_below in
      omega arith

pub AreEdges-edges : (o : Observation) → ObservationInRange o → AreEdges o.channels (edges o)
AreEdges-edges o r = record {
  count = length-edges o;
  few = r.few_channels;
  many = r.many_channels;
  top = rw (get_or-edges o 0 (omega arith)) (edge_below o r 0 (omega arith));
  falls = λ i k below small. rw (get_or-edges o k small, get_or-edges o i (omega arith))
      (edge_above o r i k below small);
  positive = λ k small. rw (get_or-edges o k small) (edge_positive o r k small);
}
