use Rattle.std.proofs.Common.{ℕ, ◌+◌, ◌-◌, ◌/◌, ◌%◌, ◌^◌, ◌==◌, ◌≤◌, sum_by, if◌then◌else◌, ap, ◌∙◌, sym, arith}
use Rattle.std.specs.List.{range_with_len}
use lib.Pow.{pow_mono}
use Rattle.fold_phase.proofs.Ranges.{one_more}
use Rattle.fold_phase.proofs.shift.Goals as goal

pub part-shift-requires-clause-trial : goal.part-shift-requires-clause-trial
part-shift-requires-clause-trial c =
    let grows : 2 ^ c.args.m ≤ 2 ^ 12 = pow_mono c.requires.few in
    omega arith

pub loop-k-preserved : goal.loop-k-preserved
loop-k-preserved c =
    let m = c.args.m in
    let j = c.args.j in
    let i = c.args.i in
    let f : ℕ → ℕ = λ k. if (i / 2 ^ (m - 1 - k)) % 2 == 1 then (j / 2 ^ k + 1) / 2 else 0 in
    record {
      parts =
          ap (λ s. s + c.part-shift.result) c.loop-k.invariant.parts
          ∙ ap (λ x. sum_by f (range_with_len 0 c.loop-k.k) + x) c.part-shift.ensures.value
          ∙ sym (one_more f c.loop-k.k);
      bound = omega arith;
    }
