use Rattle.std.proofs.Common.{ℕ, ◌+◌, ◌-◌, ◌*◌, ◌≤◌, ◌≡◌, ◌∙◌, length, take, drop, arith}
use Rattle.std.proofs.Math.Nat.{mul-le-mul_right}
use Rattle.fast_fold.proofs.Parts.{part_length}
use Rattle.fast_fold.proofs.Blocks.{pair_more}
use Rattle.fast_fold.proofs.merge.merge_block.Goals as goal

pub loop-j-preserved : goal.loop-j-preserved
loop-j-preserved c =
    let p : ℕ = c.args.period in
    let rows : ℕ = c.args.rows in
    let j : ℕ = c.loop-j.j in
    let room : (j + 1) * p ≤ rows * p = mul-le-mul_right p (let l : j + 1 ≤ rows = omega arith in l) in
    let part = part_length (2 * (j * p)) (2 * (j * p) + 2 * p - 2 * (j * p)) c.loop-j.out (omega arith) in
    let row : length (take (j * p + p - j * p) (drop (j * p) c.split_at.result.0.now)) ≡ p =
    part_length (j * p) (j * p + p - j * p) c.split_at.result.0.now
    (omega (arith, c.split_at.ensures.front_len)) ∙ omega arith in
    pair_more c.loop-j.out c.merge_pair.new.pair _ _ c.args.halves.now p rows j _ _ _
    c.requires.phases (omega arith) (omega arith) (c.merge_pair.auto.pair ∙ part) (omega arith) (omega arith) row
    c.split_at.ensures.front c.split_at.ensures.back
    c.merge_pair.ensures.even c.merge_pair.ensures.odd
    c.loop-j.invariant
