use Rattle.std.proofs.Common.{◌≡◌, ℕ, ◌+◌, ◌-◌, ◌*◌, ◌/◌, ◌^◌, ◌≤◌, ◌∙◌, sym, ap, subst, replicate, arith}
use Rattle.std.proofs.lemmas.List.{length-take-le}
use Rattle.std.proofs.lemmas.Simd.{length-replicate}
use Rattle.std.proofs.Math.Nat.{mul-le-mul_left}
use Rattle.fdmt_rows.specs.Capped.{AreRaised}
use Rattle.fast_fold.specs.Excess.{IsGreatestExcess}
use Rattle.fast_fold.specs.Tiles.{TrialsUpTo}
use Rattle.fast_fold.proofs.Halves.{twice}
use Rattle.fast_fold.proofs.Raising.{raised_to_none, zero_lanes}
use Rattle.fast_fold.proofs.Tiling.{raised_tile, greatest_of_all}
use Rattle.fast_fold.proofs.tiles.greatest_excess.Goals as goal

-- the rows of both halves
both : (m half : ℕ) → 1 ≤ m → half ≡ 2 ^ (m - 1) → 2 ^ m ≡ 2 * half
both m half some is =
    let next : m ≡ m - 1 + 1 = omega arith in
    ap (λ n. 2 ^ n) next ∙ twice (m - 1) ∙ omega (arith, is)

pub loop-start-init : goal.loop-start-init
loop-start-init c = record {
  raised = raised_to_none (replicate 16 0) _ (length-replicate {A = ℕ} 16 0) (λ bound j q lt phase. absurd (omega arith));
  within = omega arith;
}

-- how much of a table a tile takes
tile_fits : (m half seen table whole : ℕ) → 1 ≤ m → half ≡ 2 ^ (m - 1) → half ≤ 2 ^ 7 → seen ≤ 24
    → 2 ^ m * 784 ≤ whole → table ≡ whole → 2 * half * ((seen + half / 8 + 1) * 16 + half) ≤ table
tile_fits m half seen table whole some is small steps room same =
    let short : (seen + half / 8 + 1) * 16 + half ≤ 784 = omega arith in
    let least : 2 * half * ((seen + half / 8 + 1) * 16 + half) ≤ 2 * half * 784 = mul-le-mul_left (2 * half) short in
    omega (arith, least, both m half some is, room, same)

pub slice_bounds-raise_to_tile-end : goal.slice_bounds-raise_to_tile-end
slice_bounds-raise_to_tile-end c =
    tile_fits c.args.halvings c.power-half.result c.phase_steps-seen.result _ _ c.requires.some_halvings
    c.power-half.ensures.value (c.power-half.ensures.rises 7 (omega arith)) c.phase_steps-seen.ensures.few
    c.requires.out c.loop-start.auto.out

pub slice_bounds-raise_to_tile-end-in-loop-start : goal.slice_bounds-raise_to_tile-end-in-loop-start
slice_bounds-raise_to_tile-end-in-loop-start c =
    sym (length-take-le _ c.loop-start.out (
    tile_fits c.args.halvings c.power-half.result c.phase_steps-seen.result _ _ c.requires.some_halvings
    c.power-half.ensures.value (c.power-half.ensures.rises 7 (omega arith)) c.phase_steps-seen.ensures.few
    c.requires.out c.loop-start.auto.out))

pub slice_bounds-raise_to_tile-end-in-loop-start-2 : goal.slice_bounds-raise_to_tile-end-in-loop-start-2
slice_bounds-raise_to_tile-end-in-loop-start-2 c =
    tile_fits c.args.halvings c.power-half.result c.phase_steps-seen.result _ _ c.requires.some_halvings
    c.power-half.ensures.value (c.power-half.ensures.rises 7 (omega arith)) c.phase_steps-seen.ensures.few
    c.requires.spare c.loop-start.auto.spare

pub slice_bounds-raise_to_tile-end-in-loop-start-3 : goal.slice_bounds-raise_to_tile-end-in-loop-start-3
slice_bounds-raise_to_tile-end-in-loop-start-3 c =
    sym (length-take-le _ c.loop-start.spare (
    tile_fits c.args.halvings c.power-half.result c.phase_steps-seen.result _ _ c.requires.some_halvings
    c.power-half.ensures.value (c.power-half.ensures.rises 7 (omega arith)) c.phase_steps-seen.ensures.few
    c.requires.spare c.loop-start.auto.spare))

pub raise_to_tile-most-requires-clause-size : goal.raise_to_tile-most-requires-clause-size
raise_to_tile-most-requires-clause-size c =
    sym (length-take-le _ c.loop-start.out (
    tile_fits c.args.halvings c.power-half.result c.phase_steps-seen.result _ _ c.requires.some_halvings
    c.power-half.ensures.value (c.power-half.ensures.rises 7 (omega arith)) c.phase_steps-seen.ensures.few
    c.requires.out c.loop-start.auto.out))

pub raise_to_tile-most-requires-clause-spare : goal.raise_to_tile-most-requires-clause-spare
raise_to_tile-most-requires-clause-spare c =
    length-take-le _ c.loop-start.spare (
    tile_fits c.args.halvings c.power-half.result c.phase_steps-seen.result _ _ c.requires.some_halvings
    c.power-half.ensures.value (c.power-half.ensures.rises 7 (omega arith)) c.phase_steps-seen.ensures.few
    c.requires.spare c.loop-start.auto.spare)
    ∙ sym (length-take-le _ c.loop-start.out (
    tile_fits c.args.halvings c.power-half.result c.phase_steps-seen.result _ _ c.requires.some_halvings
    c.power-half.ensures.value (c.power-half.ensures.rises 7 (omega arith)) c.phase_steps-seen.ensures.few
    c.requires.out c.loop-start.auto.out))

pub raise_to_tile-most-requires-clause-values : goal.raise_to_tile-most-requires-clause-values
raise_to_tile-most-requires-clause-values c =
    ap (λ n. n * c.args.period)
    (sym (both c.args.halvings c.power-half.result c.requires.some_halvings c.power-half.ensures.value))
    ∙ c.requires.values

pub loop-start-preserved : goal.loop-start-preserved
loop-start-preserved c =
    let phases : ℕ = c.phase_steps-seen.result * 16 in
    let next : c.args.halvings - 1 + 1 ≡ c.args.halvings = omega arith in
    record {
      raised = raised_tile (replicate 16 0) c.loop-start.most _ c.args.values.now c.args.base c.args.period
          c.args.halvings c.loop-start.start phases _ (omega arith) c.loop-start.invariant.raised
          (subst (λ (m : ℕ). AreRaised c.loop-start.most c.raise_to_tile-most.result
          (TrialsUpTo c.args.base c.args.values.now c.args.period m c.loop-start.start phases)) next
          c.raise_to_tile-most.ensures);
      within = let few = c.phase_steps-seen.ensures.few in omega (arith, few);
    }

pub returns : goal.returns
returns c =
    subst (λ (x : ℕ). IsGreatestExcess c.args.base c.args.values.now c.args.period c.args.halvings x)
    (sym c.from.ensures)
    (greatest_of_all (replicate 16 0) c.loop-start.most c.args.values.now c.args.base c.args.period c.args.halvings
    c.loop-start.start _ c.requires.some (omega arith) zero_lanes c.loop-start.invariant.raised
    c.greatest_lane.ensures.enough c.greatest_lane.ensures.least)
