use Rattle.std.proofs.Common.{ℕ, ◌+◌, ◌-◌, ◌≤◌, length, refl, ◌∙◌, arith}
use Rattle.fast_fold.proofs.Parts.{part_length, put_length}
use Rattle.fast_fold.proofs.Tiling.{row_further, round_again}
use Rattle.fast_fold.proofs.tiles.load_row.Goals as goal

pub loop-done-preserved : goal.loop-done-preserved
loop-done-preserved c =
    let done : ℕ = c.loop-done.done in
    let from : ℕ = c.loop-done.from in
    let count : ℕ = c.min-count.result in
    let before = c.loop-done.invariant in
    let least = c.min-count.ensures in
    let room : done + count ≤ length c.loop-done.out = omega (arith, least) in
    let n : ℕ = done + count - done in
    let part = part_length done n c.loop-done.out (omega (arith, room)) in
    let long = c.write_excess.auto.out ∙ part in
    let same = put_length done n c.loop-done.out c.write_excess.new.out (omega (arith, room)) long in
    record {
      within = omega (arith, room, same);
      phase = omega (arith, before.phase);
      at = λ more. round_again c.args.start (length c.args.values.now) from done count (omega (arith, before.phase))
          (before.at (omega (arith, least))) (omega (arith, least, same, more));
      filled = row_further c.loop-done.out c.write_excess.new.out c.args.values.now c.args.base c.args.start
          (length c.args.values.now) from done count n (from + count - from) refl room (omega (arith, least)) long
          (omega arith) (omega arith) (before.at (omega (arith, least)))
          (λ k lt. c.write_excess.ensures k (omega (arith, long, lt))) before.filled;
    }
