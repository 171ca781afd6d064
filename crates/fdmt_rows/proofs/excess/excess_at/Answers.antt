use Rattle.std.proofs.Common.{◌≡◌, ℕ, ◌+◌, ◌-◌, ◌%◌, ◌<◌, Fits, slice_index, replicate, ap, ◌∙◌, arith, w16}
use Rattle.std.specs.Simd.Lanes.{zip2}
use Rattle.std.proofs.lemmas.List.{get_or-map, length-map}
use Rattle.std.proofs.lemmas.Simd.{Each1-all, Each1-from_get_or, Each2-splat, get_or-zip2, get_or-replicate, length-zip2, length-replicate}
use Rattle.fdmt_rows.specs.Capped.{capped}
use Rattle.fdmt_rows.proofs.excess.excess_at.Goals as goal

pub nonzero_rem-lanes : goal.nonzero_rem-lanes
nonzero_rem-lanes c =
    let numbers : ℕ = 65536 in
    Each2-splat (λ (x y : ℕ). 0 < y) c.wide_excess_at.result 16 numbers
    (Each1-all (λ (x : ℕ). 0 < numbers) (λ x. omega arith) c.wide_excess_at.result)

fits : (n : ℕ) → n < 65536 → Fits w16 n
fits n lt = record { fits = lt }

pub overflow_cast-result : goal.overflow_cast-result
overflow_cast-result c =
    let lanes = c.wide_excess_at.result in
    let most = replicate {A = ℕ} 16 65536 in
    let many = length-replicate {A = ℕ} 16 65536 in
    let rests = zip2 (λ x y. x % y) lanes most in
    let long = length-zip2 (λ x y. x % y) lanes most (omega (arith, c.wide_excess_at.ensures.long, many)) in
    Each1-from_get_or (Fits w16) rests 0
    (λ j lt.
    let small : j < 16 = omega (arith, long, c.wide_excess_at.ensures.long) in
    let is = get_or-zip2 (λ x y. x % y) lanes most j 0 0 0 (omega (arith, c.wide_excess_at.ensures.long))
    (omega (arith, many))
    ∙ ap (λ y. slice_index lanes j % y) (get_or-replicate {A = ℕ} 16 j 65536 0 small) in
    fits (slice_index rests j) (omega (arith, is)))

pub returns-clause-long : goal.returns-clause-long
returns-clause-long c =
    let lanes = c.wide_excess_at.result in
    let most = replicate {A = ℕ} 16 65536 in
    let many = length-replicate {A = ℕ} 16 65536 in
    let rests = zip2 (λ x y. x % y) lanes most in
    length-map rests (λ x. x)
    ∙ length-zip2 (λ x y. x % y) lanes most (omega (arith, c.wide_excess_at.ensures.long, many))
    ∙ c.wide_excess_at.ensures.long

pub returns-clause-excess : goal.returns-clause-excess
returns-clause-excess c = λ j small.
    let lanes = c.wide_excess_at.result in
    let most = replicate {A = ℕ} 16 65536 in
    let many = length-replicate {A = ℕ} 16 65536 in
    let rests = zip2 (λ x y. x % y) lanes most in
    let long = length-zip2 (λ x y. x % y) lanes most (omega (arith, c.wide_excess_at.ensures.long, many)) in
    get_or-map (λ x. x) rests j 0 0 (omega (arith, long, c.wide_excess_at.ensures.long))
    ∙ get_or-zip2 (λ x y. x % y) lanes most j 0 0 0 (omega (arith, c.wide_excess_at.ensures.long)) (omega (arith, many))
    ∙ ap (λ y. slice_index lanes j % y) (get_or-replicate {A = ℕ} 16 j 65536 0 small)
    ∙ ap (λ x. x % 65536) (c.wide_excess_at.ensures.excess j small)
    ∙ capped_rest (slice_index c.args.values.now (c.args.at + j) - c.args.base)
  where
    capped_rest : (x : ℕ) → capped x % 65536 ≡ capped x
    capped_rest x = omega arith
