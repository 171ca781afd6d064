use Rattle.std.proofs.Common.{ℕ, ◌+◌, ◌-◌, ◌*◌, ◌≤◌, ◌∙◌, arith}
use Rattle.std.proofs.Math.Nat.{mul-le-mul_right}
use Rattle.fast_fold.proofs.Parts.{part_length}
use Rattle.fast_fold.proofs.Blocks.{block_more}
use Rattle.fast_fold.proofs.merge.merge_blocks.Goals as goal

pub loop-b-preserved : goal.loop-b-preserved
loop-b-preserved c =
    let p : ℕ = c.args.period in
    let rows : ℕ = c.args.rows in
    let b : ℕ = c.loop-b.b in
    let size : ℕ = 2 * rows * p in
    let room : (b + 1) * size ≤ c.args.blocks * size =
    mul-le-mul_right size (let l : b + 1 ≤ c.args.blocks = omega arith in l) in
    let part = part_length (b * size) (b * size + size - b * size) c.loop-b.out (omega arith) in
    block_more c.loop-b.out c.merge_block.new.out c.args.sums.now p rows b _ _
    c.requires.phases (omega arith) (c.merge_block.auto.out ∙ part) (omega arith) (omega arith)
    c.merge_block.ensures
    c.loop-b.invariant
