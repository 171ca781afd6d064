use Rattle.std.proofs.Common.{ℕ, length, slice_index, ◌≡◌, ◌+◌, ◌≤◌, ◌∙◌, ap, sym, arith}
use Rattle.std.proofs.lemmas.Simd.{get_or-zip2, length-zip2}
use Rattle.fdmt_rows.specs.Rows.{wrapping_sum}
use Rattle.fdmt_rows.proofs.Steps.{stored, cast, length_cast, cast_at}
use Rattle.fdmt_rows.proofs.narrow.add_widened_lanes.Goals as goal

pub returns : goal.returns
returns c =
    let at : ℕ = c.args.at in
    let a = cast c.args.a.now at 16 in
    let b = cast c.args.b.now at 16 in
    let in_a : at + 16 ≤ length c.args.a.now = omega arith in
    let in_b : at + 16 ≤ length c.args.b.now = omega arith in
    let long_a : length a ≡ 16 = length_cast c.args.a.now at 16 in_a in
    let long_b : length b ≡ 16 = length_cast c.args.b.now at 16 in_b in
    stored c.args.out.now _ at 16 _ (length-zip2 wrapping_sum a b (long_a ∙ sym long_b) ∙ long_a) (omega arith)
    (λ j lt. get_or-zip2 wrapping_sum a b j 0 0 0 (omega arith) (omega arith)
    ∙ ap (λ x. wrapping_sum x (slice_index b j)) (cast_at c.args.a.now at 16 j in_a lt)
    ∙ ap (λ y. wrapping_sum (slice_index c.args.a.now (at + j)) y) (cast_at c.args.b.now at 16 j in_b lt))
