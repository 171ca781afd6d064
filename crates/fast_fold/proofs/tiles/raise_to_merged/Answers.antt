use Rattle.std.proofs.Common.{ℕ, ◌+◌, ◌-◌, ◌*◌, ◌≤◌, arith}
use Rattle.std.proofs.Math.Nat.{mul-le-mul_right}
use Rattle.fast_fold.proofs.Raising.{raised_to_none}
use Rattle.fast_fold.proofs.Tiling.{raised_pair}
use Rattle.fast_fold.proofs.tiles.raise_to_merged.Goals as goal

pub loop-j-init : goal.loop-j-init
loop-j-init c = raised_to_none c.args.most _ c.requires.long (λ bound i x lt phase. absurd (omega arith))

pub loop-j-preserved : goal.loop-j-preserved
loop-j-preserved c =
    let s : ℕ = c.args.tile.stride in
    let half : ℕ = c.args.half in
    let j : ℕ = c.loop-j.j in
    let fits : (j + 1) * s ≤ half * s = mul-le-mul_right s (let l : j + 1 ≤ half = omega arith in l) in
    raised_pair c.args.most c.loop-j.raised _ _ _ _ c.args.halves.now s half j (j * s + s - j * s) (c.args.steps * 16)
    (omega arith) (omega arith) c.requires.room c.split_at.ensures.front c.split_at.ensures.back c.loop-j.invariant
    c.raise_to_sums-raised.ensures c.raise_to_sums-raised-in-loop-j.ensures
