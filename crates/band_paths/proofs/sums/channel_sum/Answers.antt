use Rattle.std.proofs.Common.{◌≡◌, ℕ, ◌≤◌, ◌+◌, ◌-◌, ◌*◌, arith, true, slice_index}
use Rattle.std.proofs.lemmas.List.FromFn.{sum_by-map-range_with_len_more}
use Rattle.search_model.specs.Samples.{filterbank, sample_before}
use Rattle.band_paths.proofs.Bands.{delay_le}
use Rattle.band_paths.proofs.sums.channel_sum.Goals as goal

-- one cell more, where each is at most m
one_more : (m k total cell : ℕ) → total ≤ m * k → cell ≤ m → total + cell ≤ m * (k + 1)
one_more m k total cell h one = omega arith

pub cell-requires-clause-end : goal.cell-requires-clause-end
cell-requires-clause-end c =
    let up = delay_le c.args.n c.args.delays.now c.requires.delays (c.args.c + 1) (c.args.n - c.args.c - 1)
    (omega arith) in
    let rise = c.requires.delays.rise c.args.c c.requires.channel in
    omega arith

pub overflow_add-total : goal.overflow_add-total
overflow_add-total c =
    let up = delay_le c.args.n c.args.delays.now c.requires.delays (c.args.c + 1) (c.args.n - c.args.c - 1)
    (omega arith) in
    let rise = c.requires.delays.rise c.args.c c.requires.channel in
    let before = c.loop-k.invariant.1 1048576 c.requires.small in
    let here = c.cell.ensures.bound 1048576 c.requires.small in
    omega arith

pub loop-k-preserved : goal.loop-k-preserved
loop-k-preserved c =
    let first = slice_index c.args.delays.now c.args.c in
    let last = slice_index c.args.delays.now c.args.n in
    let k = c.loop-k.k in
    let step : k + 1 - first ≡ k - first + 1 = omega arith in
    let more = sum_by-map-range_with_len_more (λ (x : ℕ). x)
    (λ i. sample_before (filterbank c.args.n true c.args.samples.now) c.args.c (c.args.u + i) (last + 0)) first
    (k - first) k (omega arith) in
    let before = c.loop-k.invariant.0 in
    let end : last + 0 ≡ last = omega arith in
    let value : c.cell.result
    ≡ sample_before (filterbank c.args.n true c.args.samples.now) c.args.c (c.args.u + k) (last + 0) =
    rw end c.cell.ensures.value in
    let widened = c.from-total.ensures in (
      rw step (omega arith),
      λ m all.
          rw step (rw widened (one_more m (k - first) _ _ (c.loop-k.invariant.1 m all) (c.cell.ensures.bound m all))),
    )

pub returns-clause-bound : goal.returns-clause-bound
returns-clause-bound c =
    let rise = c.requires.delays.rise c.args.c c.requires.channel in
    let end = c.loop-k.auto.k-end (omega arith) in
    let whole : c.loop-k.k ≡ slice_index c.args.delays.now (c.args.c + 1) + 1 = omega arith in
    rw whole at c.loop-k.invariant.1
