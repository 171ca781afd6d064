use Rattle.std.proofs.Common.{ℕ, ◌+◌, ◌-◌, ◌*◌, length, slice_index, replicate, arith}
use Rattle.fdmt_rows.specs.Capped.{capped_sum}
use Rattle.fdmt_rows.proofs.Above.{Looked, greatest_looked, more_looked}
use Rattle.fdmt_rows.proofs.excess.add_capped_greatest.Goals as goal

pub loop-step-preserved : goal.loop-step-preserved
loop-step-preserved c =
    let done : ℕ = c.loop-step.step * 16 in
    more_looked c.args.out.now c.loop-step.out c.store_and_raise-most.new.out (replicate 16 0) c.sums_at.result
    c.loop-step.most c.store_and_raise-most.result
    (λ k. capped_sum (slice_index c.args.first.now k) (slice_index c.args.second.now k))
    done done ((c.loop-step.step + 1) * 16) (omega arith) (omega arith) (omega arith) c.sums_at.ensures.long
    c.sums_at.ensures.sums c.loop-step.invariant c.store_and_raise-most.ensures.stored
    c.store_and_raise-most.ensures.raised

pub returns-clause-greatest : goal.returns-clause-greatest
returns-clause-greatest c =
    let value : ℕ → ℕ = λ k. capped_sum (slice_index c.args.first.now k) (slice_index c.args.second.now k) in
    let count : ℕ = length c.loop-step.out in
    let done : ℕ = c.loop-step.step * 16 in
    let end = c.loop-step.auto.step-end in
    let looked : Looked c.args.out.now c.store_and_raise.new.out (replicate 16 0) c.store_and_raise.result value count =
    more_looked c.args.out.now c.loop-step.out c.store_and_raise.new.out (replicate 16 0) c.sums_at-2.result
    c.loop-step.most c.store_and_raise.result value done (count - 16) count (omega arith) (omega arith) (omega arith)
    c.sums_at-2.ensures.long c.sums_at-2.ensures.sums c.loop-step.invariant c.store_and_raise.ensures.stored
    c.store_and_raise.ensures.raised in
    greatest_looked c.args.out.now c.store_and_raise.new.out c.store_and_raise.result value count c.greatest_lane.result
    (omega arith) looked c.greatest_lane.ensures.enough c.greatest_lane.ensures.least
