use Rattle.std.proofs.Common.{◌+◌, slice_index, get_or, ap, ◌∙◌}
use Rattle.std.specs.Simd.Lanes.{chunk}
use Rattle.std.proofs.lemmas.Simd.{get_or-chunk}
use Rattle.fdmt_rows.specs.Capped.{capped_sum}
use Rattle.fdmt_rows.proofs.capped.sums_at.Goals as goal

pub returns-clause-sums : goal.returns-clause-sums
returns-clause-sums c = λ k small.
    let first = get_or-chunk c.args.at 16 c.args.first.now k 0 small in
    let second = get_or-chunk c.args.at 16 c.args.second.now k 0 small in
    c.add_capped.ensures.sums k small
    ∙ ap (λ x. capped_sum x (get_or (chunk c.args.at 16 c.args.second.now) k 0)) first
    ∙ ap (λ y. capped_sum (slice_index c.args.first.now (c.args.at + k)) y) second
