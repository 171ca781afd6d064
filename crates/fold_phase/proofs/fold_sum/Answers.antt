use Rattle.std.proofs.Common.{ℕ, ◌+◌, ◌*◌, ◌%◌, sum_by, slice_index, ap, ◌∙◌, sym, arith}
use Rattle.std.specs.List.{range_with_len}
use Rattle.search_model.specs.Folds.{shift}
use Rattle.fold_phase.proofs.Ranges.{one_more}
use Rattle.fold_phase.proofs.fold_sum.Goals as goal

pub loop-row-preserved : goal.loop-row-preserved
loop-row-preserved c =
    let ys = c.args.series.now in
    let p = c.args.p in
    let f : ℕ → ℕ = λ i. slice_index ys (i * p + (c.args.phase + shift c.args.m c.args.j i) % p) in
    let row = c.loop-row.row in
    let value = slice_index ys (row * p + (c.args.phase + c.shift.result) % p) in
    let small = c.type_inv.series (row * p + (c.args.phase + c.shift.result) % p) in
    record {
      parts =
          ap (λ s. s + value) c.loop-row.invariant.parts
          ∙ ap (λ s. sum_by f (range_with_len 0 row)
          + slice_index ys (row * p + (c.args.phase + s) % p)) c.shift.ensures.value
          ∙ sym (one_more f row);
      bound = omega (arith, small.fits);
    }
