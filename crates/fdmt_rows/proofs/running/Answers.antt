use Rattle.std.proofs.Common.{length, ◌+◌, ◌-◌, ℕ, arith, refl, ap, take, drop}
use Rattle.fdmt_rows.proofs.Sums.{one_later, sum_of_grows}
use Rattle.fdmt_rows.proofs.running.Goals as goal

pub loop-later-preserved : goal.loop-later-preserved
loop-later-preserved c =
    let x = c.args.x.now in
    let later : ℕ = c.loop-later.later in
    let d : ℕ = length x - length c.args.out.now in
    λ k h. one_later x c.loop-later.out c.add_to_row.new.row _ later (length c.loop-later.out)
    (omega arith) refl (ap (λ n. take n (drop later x)) (omega arith))
    c.loop-later.invariant
    (λ k lt.
    let grows = sum_of_grows x k (later + 1) (d + 1) (omega arith) in
    let fit = c.requires.fits k (omega arith) in
    omega arith)
    c.add_to_row.ensures.plain k (omega arith)
