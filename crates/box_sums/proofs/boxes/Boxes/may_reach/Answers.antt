use Rattle.std.proofs.Common.{ℕ, ◌≡◌, ◌+◌, ◌++◌, length, take, drop, refl, ◌∙◌, sym, ap, subst, arith}
use Rattle.std.proofs.lemmas.List.{take_at}
use Rattle.box_sums.specs.Tails.{RowTails, IsNewest}
use Rattle.box_sums.specs.Tables.{AreBounds}
use Rattle.box_sums.proofs.Feeding.{box_below, made_narrow, made_doubled, made_seen}
use Rattle.box_sums.proofs.Zeros.{some_level}
use Rattle.box_sums.proofs.boxes.Boxes.may_reach.Goals as goal

pub invariant_of-self : goal.invariant_of-self
invariant_of-self c =
    let f = c.self.inside in
    let made = c.double_up_to-self-inside in
    let widest : f.widest ≡ c.args.self.now.widest = ap (λ (b : RowTails). b.widest) c.self.view_is in
    let narrow = c.requires.narrow in
    let power = c.level_of-level.ensures.power in
    let more = made.ensures.more in
    let boxes_is : take f.boxes.len (made.new.boxes ++ drop (length made.new.boxes) f.boxes.items) ≡ made.new.boxes =
    take_at made.new.boxes _ f.boxes.len (made.auto.boxes ∙ c.as_mut_slice.ensures.len) in
    let greatest_is : take f.greatest.len (made.new.greatest ++ drop (length made.new.greatest) f.greatest.items)
    ≡ made.new.greatest =
    take_at made.new.greatest _ f.greatest.len (made.auto.greatest ∙ c.as_mut_slice-2.ensures.len) in
    record {
      order = c.self.invariant.order;
      few_rows = c.self.invariant.few_rows;
      some = c.self.invariant.some;
      most = c.self.invariant.most;
      width = c.self.invariant.width;
      enough = c.self.invariant.enough;
      near = c.self.invariant.near;
      alone = c.self.invariant.alone;
      lanes = c.self.invariant.lanes;
      fits = c.self.invariant.fits;
      above = c.self.invariant.above;
      below = c.self.invariant.below;
      short = c.self.invariant.short;
      tails_room = c.self.invariant.tails_room;
      line_room = c.self.invariant.line_room;
      kept_room = c.self.invariant.kept_room;
      boxes_room = ap length boxes_is ∙ made.auto.boxes ∙ ap length c.as_mut_slice.ensures.value
          ∙ c.self.invariant.boxes_room;
      greatest_room = ap length greatest_is ∙ made.auto.greatest ∙ ap length c.as_mut_slice-2.ensures.value
          ∙ c.self.invariant.greatest_room;
      excess_fits = c.self.invariant.excess_fits;
      small_tails = c.self.invariant.small_tails;
      small_line = c.self.invariant.small_line;
      small_kept = c.self.invariant.small_kept;
      some_made = λ wide. let before = c.self.invariant.some_made wide in omega (arith, before, more);
      narrow_made = made_narrow f.made c.level_of-level.result made.result f.widest c.self.invariant.narrow_made
          (omega (arith, power, narrow, widest)) made.ensures.within;
      are_made = made_seen f.line.items f.line.items _ made.new.boxes _ made.new.greatest (f.reach + f.fed)
          (f.reach + f.chunk) made.result refl boxes_is greatest_is
          (made_doubled f.line.items f.boxes.items c.as_mut_slice.result.now made.new.boxes f.greatest.items
          c.as_mut_slice-2.result.now made.new.greatest f.bound f.widest (f.reach + f.fed) (f.reach + f.chunk) f.made
          c.level_of-level.result made.result c.self.invariant.small_line (omega (arith, power, narrow, widest))
          c.self.invariant.fits c.as_mut_slice.ensures.value c.as_mut_slice-2.ensures.value made.ensures.made
          c.self.invariant.are_made);
    }

pub returns-clause-below : goal.returns-clause-below
returns-clause-below c = λ out d n k xs newest below.
    let f = c.self.inside in
    let made = c.double_up_to-self-inside in
    let level : ℕ = c.level_of-level.result in
    let known : ℕ = c.min.result in
    let widest : f.widest ≡ c.args.self.now.widest = ap (λ (b : RowTails). b.widest) c.self.view_is in
    let row = subst (λ (b : RowTails). IsNewest b d n xs) (sym c.self.view_is) newest in
    let narrow = c.requires.narrow in
    let power = c.level_of-level.ensures.power in
    let enough = c.self.invariant.enough in
    let least_is = c.min.ensures in
    let more = made.ensures.more in
    let first = c.self.invariant.some_made (let wide = c.requires.wide in omega (arith, wide, narrow, widest)) in
    let some = some_level level c.args.w power c.requires.wide in
    let greatest_is : c.as_slice.result.now ≡ made.new.greatest =
    c.as_slice.ensures.value
    ∙ take_at made.new.greatest _ f.greatest.len (made.auto.greatest ∙ c.as_mut_slice-2.ensures.len) in
    let are = made_doubled f.line.items f.boxes.items c.as_mut_slice.result.now made.new.boxes f.greatest.items
    c.as_mut_slice-2.result.now made.new.greatest f.bound f.widest (f.reach + f.fed) (f.reach + f.chunk) f.made
    level made.result c.self.invariant.small_line (omega (arith, power, narrow, widest))
    c.self.invariant.fits c.as_mut_slice.ensures.value c.as_mut_slice-2.ensures.value made.ensures.made
    c.self.invariant.are_made in
    let bounds : AreBounds c.as_slice.result.now made.result f.line.items (f.reach + n) =
    subst (λ m. AreBounds c.as_slice.result.now made.result f.line.items (f.reach + m)) row.count
    (subst (λ ys. AreBounds ys made.result f.line.items (f.reach + f.fed)) (sym greatest_is) are.bounds) in
    box_below c.as_slice.result.now f.line.items xs f.reach n k c.args.w made.result known level c.args.least power
    (omega (arith, least_is, more, first, some)) (omega (arith, least_is)) (omega (arith, least_is)) bounds
    (c.boxes_may_reach.ensures out) row.line below (omega (arith, widest, enough, narrow))
