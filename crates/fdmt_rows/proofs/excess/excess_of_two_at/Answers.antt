use Rattle.std.proofs.Common.{◌+◌, ◌-◌, slice_index, ap, ◌∙◌}
use Rattle.std.proofs.lemmas.Simd.{get_or-chunk}
use Rattle.fdmt_rows.specs.Capped.{capped_sum}
use Rattle.fdmt_rows.proofs.excess.excess_of_two_at.Goals as goal

pub returns-clause-excess : goal.returns-clause-excess
returns-clause-excess c = λ k small.
    let above = c.lanes_above-upper_above.ensures.above k small
    ∙ ap (λ x. x - c.args.upper_base) (get_or-chunk c.args.at 16 c.args.upper.now k 0 small) in
    let below = c.lanes_above-lower_above.ensures.above k small
    ∙ ap (λ x. x - c.args.lower_base) (get_or-chunk c.args.at 16 c.args.lower.now k 0 small) in
    c.add_capped.ensures.sums k small
    ∙ ap (λ x. capped_sum x (slice_index c.lanes_above-lower_above.result k)) above
    ∙ ap (λ y. capped_sum (slice_index c.args.upper.now (c.args.at + k) - c.args.upper_base) y) below
