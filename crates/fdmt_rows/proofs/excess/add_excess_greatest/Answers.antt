use Rattle.std.proofs.Common.{ℕ, ◌+◌, ◌-◌, ◌*◌, length, slice_index, replicate, arith}
use Rattle.fdmt_rows.specs.Excess.{excess_of_two}
use Rattle.fdmt_rows.proofs.Above.{Looked, greatest_looked, more_looked}
use Rattle.fdmt_rows.proofs.excess.add_excess_greatest.Goals as goal

pub loop-step-preserved : goal.loop-step-preserved
loop-step-preserved c =
    let done : ℕ = c.loop-step.step * 16 in
    more_looked c.args.out.now c.loop-step.out c.store_and_raise-most.new.out (replicate 16 0)
    c.excess_of_two_at-lanes.result c.loop-step.most c.store_and_raise-most.result
    (λ k. excess_of_two c.args.upper_base c.args.lower_base (slice_index c.args.upper.now k)
    (slice_index c.args.lower.now k))
    done done ((c.loop-step.step + 1) * 16) (omega arith) (omega arith) (omega arith)
    c.excess_of_two_at-lanes.ensures.long c.excess_of_two_at-lanes.ensures.excess c.loop-step.invariant
    c.store_and_raise-most.ensures.stored c.store_and_raise-most.ensures.raised

pub returns-clause-greatest : goal.returns-clause-greatest
returns-clause-greatest c =
    let value : ℕ → ℕ = λ k. excess_of_two c.args.upper_base c.args.lower_base (slice_index c.args.upper.now k)
    (slice_index c.args.lower.now k) in
    let count : ℕ = length c.loop-step.out in
    let done : ℕ = c.loop-step.step * 16 in
    let end = c.loop-step.auto.step-end in
    let looked : Looked c.args.out.now c.store_and_raise.new.out (replicate 16 0) c.store_and_raise.result value count =
    more_looked c.args.out.now c.loop-step.out c.store_and_raise.new.out (replicate 16 0)
    c.excess_of_two_at-lanes-2.result c.loop-step.most c.store_and_raise.result value done (count - 16) count
    (omega arith) (omega arith) (omega arith)
    c.excess_of_two_at-lanes-2.ensures.long c.excess_of_two_at-lanes-2.ensures.excess c.loop-step.invariant
    c.store_and_raise.ensures.stored c.store_and_raise.ensures.raised in
    greatest_looked c.args.out.now c.store_and_raise.new.out c.store_and_raise.result value count c.greatest_lane.result
    (omega arith) looked c.greatest_lane.ensures.enough c.greatest_lane.ensures.least
