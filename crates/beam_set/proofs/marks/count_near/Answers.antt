use Rattle.std.proofs.Common.{◌+◌, List, [], ◌∙◌, take, ap, sym, arith}
use Rattle.std.specs.List.{list_any}
use Rattle.std.proofs.lemmas.List.{length-map, length-take-le, take_all}
use Rattle.std.proofs.lemmas.List.Sums.{count_by_more_yes, count_by_more_no, count_by-le-length}
use Rattle.search_model.specs.declared.candidate.Candidate.{Candidate}
use Rattle.beam_set.specs.Marks.{is_near}
use Rattle.beam_set.specs.Text.{FoundBeam}
use Rattle.beam_set.specs.Beams.{found_at, found_in, lists_in}
use Rattle.beam_set.proofs.Placed.{listed, list_is}
use Rattle.beam_set.proofs.marks.count_near.Goals as goal
use Rattle.beam_set.proofs.marks.count_near.Goals.{then-keeps_near, else-keeps_near}

pub keeps_near-requires : goal.keeps_near-requires
keeps_near-requires c =
    let beams = c.args.beams.now in
    let k = c.loop-k.k in
    let beam = c.index-beams-k.result in
    rw (list_is beams k beam c.loop-k-test.true c.index-beams-k.is) at
    (c.requires k [] (listed beams k beam c.loop-k-test.true c.index-beams-k.is))

pub loop-k-preserved : goal.loop-k-preserved
loop-k-preserved c =
    let beams = c.args.beams.now in
    let lists = lists_in beams in
    let k = c.loop-k.k in
    let beam = c.index-beams-k.result in
    let near = λ (list : List Candidate). list_any (is_near c.args.within c.args.spectrum) list in
    let inside = listed beams k beam c.loop-k-test.true c.index-beams-k.is in
    let same = ap near (list_is beams k beam c.loop-k-test.true c.index-beams-k.is) in
    let before = c.loop-k.invariant.counted in
    record {
      counted = elim c.if-keeps_near.branch [
        | then-keeps_near w ↦
            w.count-is ∙ ap (λ n. n + 1) before
            ∙ sym (count_by_more_yes near lists k [] inside
            (same ∙ sym c.keeps_near.ensures ∙ w.if-keeps_near.true))
        | else-keeps_near w ↦
            w.count-is ∙ before
            ∙ sym (count_by_more_no near lists k [] inside
            (same ∙ sym c.keeps_near.ensures ∙ w.if-keeps_near.false))
      ];
    }

pub overflow_add-count : goal.overflow_add-count
overflow_add-count c =
    let lists = lists_in c.args.beams.now in
    let k = c.loop-k.k in
    let near = λ (list : List Candidate). list_any (is_near c.args.within c.args.spectrum) list in
    let few = count_by-le-length near (take k lists) in
    let inside = listed c.args.beams.now k c.index-beams-k.result c.loop-k-test.true c.index-beams-k.is in
    let cut = length-take-le k lists (omega (arith, inside)) in
    omega (arith, few, cut, c.loop-k.invariant.counted, c.loop-k-test.true)

pub returns : goal.returns
returns c =
    let beams = c.args.beams.now in
    let lists = lists_in beams in
    let long = length-map beams found_at in
    let longer = length-map (found_in beams) (λ (f : FoundBeam). f.list) in
    rw (take_all c.loop-k.k lists (omega (arith, long, longer, c.loop-k-test.false))) at c.loop-k.invariant.counted
