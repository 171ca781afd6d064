use Rattle.std.proofs.Common.{ℕ, ◌+◌, ◌-◌, ◌*◌, ◌≤◌, ◌≡◌, ◌∙◌, length, take, drop, arith}
use Rattle.std.proofs.Math.Nat.{mul-le-mul_right}
use Rattle.fast_fold.proofs.Parts.{part_length}
use Rattle.fast_fold.proofs.Tiling.{merged_further}
use Rattle.fast_fold.proofs.tiles.merge_halves.Goals as goal

pub loop-j-preserved : goal.loop-j-preserved
loop-j-preserved c =
    let s : ℕ = c.args.tile.stride in
    let half : ℕ = c.args.half in
    let j : ℕ = c.loop-j.j in
    let fits : (j + 1) * s ≤ half * s = mul-le-mul_right s (let l : j + 1 ≤ half = omega arith in l) in
    let part = part_length (2 * (j * s)) (2 * (j * s) + 2 * s - 2 * (j * s)) c.loop-j.out (omega arith) in
    let row : length (take (j * s + s - j * s) (drop (j * s) c.split_at.result.0.now)) ≡ s =
    part_length (j * s) (j * s + s - j * s) c.split_at.result.0.now
    (omega (arith, c.split_at.ensures.front_len)) ∙ omega arith in
    merged_further c.loop-j.out c.merge_pair.new.pair _ _ c.args.halves.now s (c.args.tile.steps * 16) half j _ _ _
    (omega arith) (omega arith) (c.merge_pair.auto.pair ∙ part) (omega arith) (omega arith) row c.requires.room
    c.split_at.ensures.front c.split_at.ensures.back
    c.merge_pair.ensures.even c.merge_pair.ensures.odd
    c.loop-j.invariant
