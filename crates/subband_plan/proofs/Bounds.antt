-- Sums over a part of the band are at most their cells times the greatest sample.
use Rattle.std.proofs.Common.{◌≡◌, ℕ, zero, suc, ◌+◌, ◌-◌, ◌*◌, ◌≤◌, ◌<◌, List, arith, ap, ◌∙◌, inl, inr}
use Rattle.std.proofs.lemmas.Bool.{cases_lt}
use Rattle.dada_model.specs.Edges.{AreEdges}
use Rattle.search_model.specs.Samples.{Filterbank}
use Rattle.search_model.specs.Paths.{middle, split_at}
use Rattle.search_model.specs.Laws.{SplitsFit}
use Rattle.search_model.specs.Subbands.{node_sum}
use Rattle.search_model.specs.SubbandLaws.{HalvesAdd, OneChannelAdds, OneChannelIsItsSample, NothingBefore}

-- what the sums over the nodes of a band are like
pub record SumLaws : Type 0 where
  pub halves : HalvesAdd
  pub adds : OneChannelAdds
  pub sample : OneChannelIsItsSample
  pub nothing : NothingBefore
  pub fit : SplitsFit

-- no sample of the first n channels before spectrum e is above m
abbrev pub AreSmall : Filterbank → ℕ → ℕ → ℕ → Type 0
AreSmall f n e m = (c t : ℕ) → c < n → t < e → f.value c t ≤ m

sample_bounded : SumLaws → (f : Filterbank) (edges : List ℕ) (n e m c u late : ℕ) → AreEdges n edges → c < n →
    AreSmall f n e m → u < e + late → node_sum f edges c (c + 1) 0 u late ≤ m
sample_bounded laws f edges n e m c u late band within small early = elim (cases_lt u late) [
  | inl before ↦
      let none = laws.nothing f edges n c (c + 1) 0 u late band (omega arith) before in
      omega arith
  | inr now ↦
      let is = laws.sample f edges n c u late band within (omega arith) in
      let bound = small c (u - late) within (omega arith) in
      omega arith
]

single_bounded : SumLaws → (f : Filterbank) (edges : List ℕ) (n e m c d u late : ℕ) → AreEdges n edges → c < n →
    AreSmall f n e m → u < e + late → node_sum f edges c (c + 1) d u late ≤ m * (1 + d)
single_bounded laws f edges n e m c zero u late band within small early =
    let bound = sample_bounded laws f edges n e m c u late band within small early in
    omega arith
single_bounded laws f edges n e m c (suc d) u late band within small early =
    let adds = laws.adds f edges n c d u late band within in
    let first = sample_bounded laws f edges n e m c u (late + (d + 1)) band within small (omega arith) in
    let rest = single_bounded laws f edges n e m c d u late band within small early in
    let next : suc d ≡ d + 1 = omega arith in
    rw (next, adds) (omega arith)

-- a sum of delay d over the channels from lo up to hi is at most m (hi - lo + d)
bounded_to : SumLaws → (f : Filterbank) (edges : List ℕ) (n e m size lo hi d u late : ℕ) → AreEdges n edges →
    lo < hi → hi ≤ n → hi ≤ lo + size → AreSmall f n e m → u < e + late →
    node_sum f edges lo hi d u late ≤ m * (hi - lo + d)
bounded_to laws f edges n e m zero lo hi d u late band some within few small early = absurd (omega arith)
bounded_to laws f edges n e m (suc size) lo hi d u late band some within few small early = elim (cases_lt hi (lo + 2)) [
  | inl one ↦
      let single : hi ≡ lo + 1 = omega arith in
      let bound = single_bounded laws f edges n e m lo d u late band (omega arith) small early in
      let cells : lo + 1 - lo + d ≡ 1 + d = omega arith in
      rw (single, cells) bound
  | inr two ↦
      let mid : ℕ = middle lo hi in
      let s : ℕ = split_at edges lo hi d in
      let part : s ≤ d = laws.fit.fits _ _ _ d (band.falls mid hi (omega arith) within)
      (band.falls lo mid (omega arith) (omega arith)) in
      let halves = laws.halves f edges n lo hi d u late band (omega arith) within in
      let above = bounded_to laws f edges n e m size lo mid s u (late + (d - s)) band (omega arith) (omega arith)
      (omega arith) small (omega arith) in
      let below =
      bounded_to laws f edges n e m size mid hi (d - s) u late band (omega arith) within (omega arith) small early in
      let cells : m * (hi - lo + d) ≡ m * (mid - lo + s) + m * (hi - mid + (d - s)) =
      ap (λ x. m * x) (let q : hi - lo + d ≡ (mid - lo + s) + (hi - mid + (d - s)) = omega arith in q) ∙ omega arith in
      rw (halves, cells) (omega arith)
]

pub sums_bounded : SumLaws → (f : Filterbank) (edges : List ℕ) (n e m lo hi d u late : ℕ) → AreEdges n edges →
    lo < hi → hi ≤ n → AreSmall f n e m → u < e + late → node_sum f edges lo hi d u late ≤ m * (hi - lo + d)
sums_bounded laws f edges n e m lo hi d u late band some within small early =
    bounded_to laws f edges n e m hi lo hi d u late band some within (omega arith) small early
