use Rattle.std.proofs.Common.{ℕ, ◌*◌, ◌^◌, ◌<◌, ◌≤◌, inl, inr, List, length, slice_index, sym, subst, arith}
use Rattle.std.specs.List.{All}
use Rattle.std.proofs.lemmas.Bool.{cases_lt}
use Rattle.std.proofs.lemmas.List.{get_or_past}
use Rattle.std.proofs.lemmas.Nat.{mul-le}
use Rattle.std.proofs.Math.Pow.{pow_mono}
use Rattle.rows_tests.proofs.folds.is_greatest.Goals as goal

-- so many rows
few_rows : (m : ℕ) → m ≤ 8 → 2 ^ m ≤ 256
few_rows m few = let small : 2 ^ m ≤ 2 ^ 8 = pow_mono few in small

-- and their sums fit
sums_fit : (values : List ℕ) (m k : ℕ) → m ≤ 8 → All (λ x. x ≤ 900) values → slice_index values k * 2 ^ m < 2 ^ 32
sums_fit values m k few all =
    let value : slice_index values k ≤ 900 = elim (cases_lt k (length values)) [
      | inl h ↦ all k 0 h
      | inr h ↦ (let past = get_or_past values k 0 h in omega (arith, past))
    ] in
    omega (arith, mul-le (slice_index values k) (2 ^ m) 900 256 value (few_rows m few))

pub open-requires-clause-size : goal.open-requires-clause-size
open-requires-clause-size c =
    let rows = few_rows c.args.m c.requires.few in
    let short = c.requires.short in
    omega (arith, mul-le c.args.p (2 ^ c.args.m) 1000 256 short rows)

pub load-requires-clause-fits : goal.load-requires-clause-fits
load-requires-clause-fits c = λ k lt.
    sums_fit c.as_slice.result.now c.args.m k c.requires.few
    (subst (λ (l : List ℕ). All (λ x. x ≤ 900) l) (sym c.as_slice.ensures.value) c.loop-value.invariant.small)
