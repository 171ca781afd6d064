use Rattle.std.proofs.Common.{length, slice_index, ◌≡◌, ◌∙◌, ◌%◌, ◌^◌, replicate, ap, arith}
use Rattle.std.specs.Simd.Lanes.{chunk, zip2}
use Rattle.std.proofs.lemmas.List.{get_or-map, length-map}
use Rattle.std.proofs.lemmas.Simd.{get_or-chunk, get_or-zip2, get_or-replicate, length-chunk, length-zip2}
use Rattle.fdmt_rows.proofs.Steps.{stored}
use Rattle.fdmt_rows.proofs.narrow.narrow_lanes.Goals as goal

pub returns : goal.returns
returns c =
    let lanes = chunk c.args.at 16 c.args.values.now in
    let long : length lanes ≡ 16 = length-chunk c.args.at 16 c.args.values.now (omega arith) in
    let rests = zip2 (λ x y. x % y) lanes (replicate 16 65536) in
    let rests_long : length rests ≡ 16 = length-zip2 (λ x y. x % y) lanes (replicate 16 65536) long ∙ long in
    stored c.args.out.now _ c.args.at 16 _
    (length-map rests (λ x. x) ∙ rests_long)
    (omega arith)
    (λ j lt. get_or-map (λ x. x) rests j 0 0 (omega arith)
    ∙ get_or-zip2 (λ x y. x % y) lanes (replicate 16 65536) j 0 0 0 (omega arith) lt
    ∙ ap (λ y. slice_index lanes j % y) (get_or-replicate 16 j 65536 0 lt)
    ∙ ap (λ x. x % 2 ^ 16) (get_or-chunk c.args.at 16 c.args.values.now j 0 lt))
