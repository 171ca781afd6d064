use Rattle.std.proofs.Common.{ℕ, ◌*◌, ◌^◌, ◌<◌, ◌≤◌, inl, inr, List, length, slice_index, arith}
use Rattle.std.specs.List.{All}
use Rattle.std.proofs.lemmas.Bool.{cases_lt}
use Rattle.std.proofs.lemmas.List.{get_or_past}
use Rattle.std.proofs.lemmas.Nat.{mul-le}
use Rattle.std.proofs.Math.Pow.{pow_mono}
use Rattle.rows_tests.proofs.folds.are_levels.Goals as goal

-- the rows lie within the series, and their sums fit
rows_fit : (m p : ℕ) → m ≤ 6 → p ≤ 40 → 2 ^ m * p ≤ 2560
rows_fit m p few short = omega (arith, mul-le (2 ^ m) p 64 40 (let small : 2 ^ m ≤ 2 ^ 6 = pow_mono few in small) short)

sums_fit : (series : List ℕ) (m k : ℕ) → m ≤ 6 → All (λ x. x ≤ 32) series → slice_index series k * 2 ^ m < 2 ^ 32
sums_fit series m k few all =
    let value : slice_index series k ≤ 32 = elim (cases_lt k (length series)) [
      | inl h ↦ all k 0 h
      | inr h ↦ (let past = get_or_past series k 0 h in omega (arith, past))
    ] in
    omega (arith, mul-le (slice_index series k) (2 ^ m) 32 64 value (let small : 2 ^ m ≤ 2 ^ 6 = pow_mono few in small))

pub load-requires-clause-long : goal.load-requires-clause-long
load-requires-clause-long c =
    let rows = rows_fit c.args.m c.args.p c.requires.few c.requires.short in
    let long = c.requires.long in
    omega (arith, rows, long)

pub load-requires-clause-fits : goal.load-requires-clause-fits
load-requires-clause-fits c = λ k lt. sums_fit c.args.series.now c.args.m k c.requires.few c.requires.small
