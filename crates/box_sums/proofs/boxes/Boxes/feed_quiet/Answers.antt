use Rattle.std.proofs.Common.{ℕ, ◌≡◌, ◌+◌, ◌-◌, ◌*◌, ◌^◌, ◌++◌, length, take, drop, ◌∙◌, sym, ap, subst, arith}
use Rattle.std.proofs.lemmas.List.{take_at}
use Rattle.box_sums.specs.Excess.{plain_sums}
use Rattle.box_sums.specs.Tables.{AreUpTo, TablesAreSound}
use Rattle.box_sums.specs.Tails.{RowTails, StandsForRow, row_at}
use Rattle.box_sums.proofs.Above.{last_small, last_sums, sums_line, sums_long}
use Rattle.box_sums.proofs.Ending.{box_is_ending}
use Rattle.box_sums.proofs.Feeding.{all_up_to, ending_fits, others_left, row_fed}
use Rattle.box_sums.proofs.Parts.{append_small, part_length, part_small}
use Rattle.box_sums.proofs.boxes.Boxes.feed_quiet.Goals as goal

pub may_reach-requires-clause-some : goal.may_reach-requires-clause-some
may_reach-requires-clause-some c =
    let widest : c.self.inside.widest ≡ c.args.self.now.widest = ap (λ (b : RowTails). b.widest) c.self.view_is in
    let wide = c.requires.wide in
    let lanes = c.self.invariant.lanes (omega (arith, widest, wide)) in
    let long = c.front_of-tail.ensures.long in
    omega (arith, lanes, long)

pub may_reach-requires-clause-more : goal.may_reach-requires-clause-more
may_reach-requires-clause-more c =
    let widest : c.self.inside.widest ≡ c.args.self.now.widest = ap (λ (b : RowTails). b.widest) c.self.view_is in
    let wide = c.requires.wide in
    let lanes = c.self.invariant.lanes (omega (arith, widest, wide)) in
    let enough = c.if-upper-self.false in
    omega (arith, lanes, enough)

pub may_reach-requires-clause-room : goal.may_reach-requires-clause-room
may_reach-requires-clause-room c =
    let chunk : c.self.inside.chunk ≡ c.args.self.now.chunk = ap (λ (b : RowTails). b.chunk) c.self.view_is in
    let short = c.requires.short in
    let fits = c.self.invariant.excess_fits in
    let long = c.front_of-tail.ensures.long in
    omega (arith, chunk, short, fits, long)

pub may_reach-requires-clause-wide : goal.may_reach-requires-clause-wide
may_reach-requires-clause-wide c = λ level lt.
    let widest : c.self.inside.widest ≡ c.args.self.now.widest = ap (λ (b : RowTails). b.widest) c.self.view_is in
    let wide = c.requires.wide in
    let lanes = c.self.invariant.lanes (omega (arith, widest, wide)) in
    let narrow = c.requires.within level lt in
    let most = c.self.invariant.enough in
    let enough = c.if-upper-self.false in
    let long = c.front_of-tail.ensures.long in
    omega (arith, widest, lanes, narrow, most, enough, long)

pub invariant_of-self : goal.invariant_of-self
invariant_of-self c =
    subst (TablesAreSound _ _ _ _ _) (sym c.may_reach.ensures.kept) c.self.invariant

pub invariant_of-self-2 : goal.invariant_of-self-2
invariant_of-self-2 c =
    let f = c.self.inside in
    let i = c.self.invariant in
    let can = c.requires in
    let upper = c.args.upper.now in
    let lower = c.args.lower.now in
    let bound : f.bound ≡ c.args.self.now.bound = ap (λ (b : RowTails). b.bound) c.self.view_is in
    let sums : AreUpTo f.bound (plain_sums upper lower) =
    subst (λ (b : ℕ). AreUpTo b (plain_sums upper lower)) (sym bound)
    (all_up_to c.args.self.now.bound (plain_sums upper lower) can.small) in
    let tails_is : take f.tails.len (c.write_sums.new.table ++ drop
    (length c.write_sums.new.table) f.tails.items) ≡ c.write_sums.new.table =
    take_at c.write_sums.new.table _ f.tails.len (c.write_sums.auto.table ∙ c.as_mut_slice.ensures.len) in
    record {
      order = i.order;
      few_rows = i.few_rows;
      some = i.some;
      most = i.most;
      width = i.width;
      enough = i.enough;
      near = i.near;
      alone = i.alone;
      lanes = i.lanes;
      fits = i.fits;
      above = i.above;
      below = i.below;
      short = i.short;
      tails_room = ap length tails_is ∙ c.write_sums.auto.table ∙ ap length c.as_mut_slice.ensures.value ∙ i.tails_room;
      line_room = i.line_room;
      kept_room = i.kept_room;
      boxes_room = i.boxes_room;
      greatest_room = i.greatest_room;
      excess_fits = c.may_reach.ensures.kept ∙ i.excess_fits;
      small_tails = subst (AreUpTo f.bound) (sym tails_is) (c.write_sums.ensures.small f.bound
          (subst (AreUpTo f.bound) (sym c.as_mut_slice.ensures.value) i.small_tails)
          (last_small f.bound (length upper - f.reach) upper lower can.same (omega arith) sums));
      small_line = i.small_line;
      small_kept = i.small_kept;
      some_made = i.some_made;
      narrow_made = i.narrow_made;
      are_made = i.are_made;
    }

pub returns-clause-own : goal.returns-clause-own
returns-clause-own c = λ yes.
    let f = c.self.inside in
    let at : ℕ = c.args.d - f.first in
    let upper = c.args.upper.now in
    let lower = c.args.lower.now in
    let sums = plain_sums upper lower in
    let tail = c.front_of-tail.result.now in
    let same = c.requires.same in
    let from : ℕ = length upper - f.reach in
    let enough = c.if-upper-self.false in
    let last_long : length (take (length upper - from) (drop from upper)) ≡ f.reach =
    part_length from (length upper - from) upper (omega arith) ∙ omega (arith, enough) in
    row_fed _ c.args.self.now (tail ++ sums) c.write_sums.new.table _ sums c.args.d c.self.view_is
    (take_at c.write_sums.new.table _ f.tails.len (c.write_sums.auto.table ∙ c.as_mut_slice.ensures.len))
    (λ xs row. sums_line f.tails.items tail upper lower xs f.reach at c.front_of-tail.ensures.long row
    (c.front_of-tail.ensures.values ∙ ap (λ ys. row_at ys f.reach at) c.as_slice.ensures.value))
    (ap (λ k. take k (row_at c.write_sums.new.table f.reach at)) (sym last_long)
    ∙ c.write_sums.ensures.own
    ∙ sym (last_sums tail upper lower f.reach from same c.front_of-tail.ensures.long (omega (arith, enough)))
    ∙ ap (λ k. take f.reach (drop k (tail ++ sums))) (sym (sums_long upper lower same)))

pub returns-clause-others : goal.returns-clause-others
returns-clause-others c =
    others_left _ c.args.self.now c.as_mut_slice.result.now c.write_sums.new.table _ c.args.d c.self.view_is
    c.as_mut_slice.ensures.value
    (take_at c.write_sums.new.table _ c.self.inside.tails.len (c.write_sums.auto.table ∙ c.as_mut_slice.ensures.len))
    c.requires.row c.write_sums.ensures.others

pub returns-clause-below : goal.returns-clause-below
returns-clause-below c = λ yes xs level least k stands lt is inside.
    let f = c.self.inside in
    let at : ℕ = c.args.d - f.first in
    let upper = c.args.upper.now in
    let lower = c.args.lower.now in
    let sums = plain_sums upper lower in
    let tail = c.front_of-tail.result.now in
    let long = c.front_of-tail.ensures.long in
    let many = sums_long upper lower c.requires.same in
    let w : ℕ = 2 ^ level in
    let widest : f.widest ≡ c.args.self.now.widest = ap (λ (b : RowTails). b.widest) c.self.view_is in
    let enough = c.self.invariant.enough in
    let narrow = c.requires.within level lt in
    let row = subst (λ (b : RowTails). StandsForRow b c.args.d xs) (sym c.self.view_is) stands in
    let line = sums_line f.tails.items tail upper lower xs f.reach at long row
    (c.front_of-tail.ensures.values ∙ ap (λ ys. row_at ys f.reach at) c.as_slice.ensures.value) in
    let start : ℕ = f.reach + 1 - w + k in
    let sum = box_is_ending (tail ++ sums) (xs ++ sums) f.reach (length sums) k w line (omega (arith, many, inside))
    (omega (arith, widest, enough, narrow)) in
    let less = c.may_reach.ensures.below c.if-may_reach.false level least lt is start
    (omega (arith, widest, enough, narrow, long, inside)) in
    omega (arith, sum, less)

pub returns-clause-fits : goal.returns-clause-fits
returns-clause-fits c = λ yes xs k w stands inside narrow.
    let f = c.self.inside in
    let at : ℕ = c.args.d - f.first in
    let upper = c.args.upper.now in
    let lower = c.args.lower.now in
    let sums = plain_sums upper lower in
    let tail = c.front_of-tail.result.now in
    let many = sums_long upper lower c.requires.same in
    let bound : f.bound ≡ c.args.self.now.bound = ap (λ (b : RowTails). b.bound) c.self.view_is in
    let widest : f.widest ≡ c.args.self.now.widest = ap (λ (b : RowTails). b.widest) c.self.view_is in
    let enough = c.self.invariant.enough in
    let row = subst (λ (b : RowTails). StandsForRow b c.args.d xs) (sym c.self.view_is) stands in
    let tail_is = c.front_of-tail.ensures.values ∙ ap (λ ys. row_at ys f.reach at) c.as_slice.ensures.value in
    let line = sums_line f.tails.items tail upper lower xs f.reach at c.front_of-tail.ensures.long row tail_is in
    let small : AreUpTo f.bound (tail ++ sums) =
    append_small f.bound tail sums
    (subst (AreUpTo f.bound) (sym tail_is)
    (part_small f.bound (at * f.reach) f.reach f.tails.items c.self.invariant.small_tails))
    (subst (λ (b : ℕ). AreUpTo b sums) (sym bound) (all_up_to c.args.self.now.bound sums c.requires.small)) in
    ending_fits (tail ++ sums) (xs ++ sums) f.bound f.widest f.reach (length sums) k w small
    (omega (arith, widest, narrow)) c.self.invariant.fits line (omega (arith, many, inside))
    (omega (arith, widest, enough, narrow))
