use Rattle.std.proofs.Common.{ℕ, ◌≡◌, ◌≢◌, ◌+◌, ◌-◌, List, length, take, drop, ◌++◌, ◌∙◌, sym, ap, subst, arith}
use Rattle.std.proofs.lemmas.List.{take_at}
use Rattle.box_sums.specs.Tails.{RowTails, IsNewest, IsKept, row_at}
use Rattle.box_sums.specs.Rows.{Keeps}
use Rattle.box_sums.specs.Tables.{AreUpTo}
use Rattle.box_sums.proofs.Feeding.{copied_keeps, same_row}
use Rattle.box_sums.proofs.Filling.{filled_keeps, filled_small}
use Rattle.box_sums.proofs.Parts.{part_small}
use Rattle.box_sums.proofs.boxes.Boxes.keep_newest.Goals as goal

pub invariant_of-self : goal.invariant_of-self
invariant_of-self c =
    let f = c.self.inside in
    let g = c.fill_up.new.table in
    let kept_is : take g.len (c.write_row.new.table ++ drop
    (length c.write_row.new.table) g.items) ≡ c.write_row.new.table =
    take_at c.write_row.new.table _ g.len (c.write_row.auto.table ∙ c.as_mut_slice.ensures.len) in
    let line : AreUpTo f.bound c.front_of-line.result.now =
    subst (AreUpTo f.bound) (sym (c.front_of-line.ensures.values ∙ ap (λ ys. take (f.reach + f.fed) (drop 0 ys))
    c.as_slice.ensures.value)) (part_small f.bound 0 (f.reach + f.fed) f.line.items c.self.invariant.small_line) in
    record {
      order = c.self.invariant.order;
      few_rows = c.self.invariant.few_rows;
      some = c.self.invariant.some;
      most = c.self.invariant.most;
      width = c.self.invariant.width;
      enough = c.self.invariant.enough;
      near = c.self.invariant.near;
      alone = c.self.invariant.alone;
      lanes = c.self.invariant.lanes;
      fits = c.self.invariant.fits;
      above = c.self.invariant.above;
      below = c.self.invariant.below;
      short = c.self.invariant.short;
      tails_room = c.self.invariant.tails_room;
      line_room = c.self.invariant.line_room;
      kept_room = let same = c.fill_up.ensures.capacity in
          let room = c.self.invariant.kept_room in omega (arith, same, room);
      boxes_room = c.self.invariant.boxes_room;
      greatest_room = c.self.invariant.greatest_room;
      excess_fits = c.self.invariant.excess_fits;
      small_tails = c.self.invariant.small_tails;
      small_line = c.self.invariant.small_line;
      small_kept = subst (AreUpTo f.bound) (sym kept_is) (c.write_row.ensures.small f.bound
          (subst (AreUpTo f.bound) (sym c.as_mut_slice.ensures.value)
          (filled_small f.bound f.kept.items g.items c.fill_up.ensures.filled c.self.invariant.small_kept)) line);
      some_made = c.self.invariant.some_made;
      narrow_made = c.self.invariant.narrow_made;
      are_made = c.self.invariant.are_made;
    }

pub returns-clause-own : goal.returns-clause-own
returns-clause-own c = λ d n xs newest.
    let f = c.self.inside in
    let stride : ℕ = f.reach + f.chunk in
    let g = c.fill_up.new.table in
    let kept_is : take g.len (c.write_row.new.table ++ drop
    (length c.write_row.new.table) g.items) ≡ c.write_row.new.table =
    take_at c.write_row.new.table _ g.len (c.write_row.auto.table ∙ c.as_mut_slice.ensures.len) in
    let row = subst (λ (b : RowTails). IsNewest b d n xs) (sym c.self.view_is) newest in
    let count : f.fed ≡ n = row.count in
    let short = c.self.invariant.short in
    let values : c.front_of-line.result.now ≡ take (f.reach + n) f.line.items =
    c.front_of-line.ensures.values
    ∙ ap (λ ys. take (f.reach + f.fed) ys) c.as_slice.ensures.value
    ∙ ap (λ m. take (f.reach + m) f.line.items) count in
    let own : Keeps (row_at c.write_row.new.table stride (f.newest - f.first)) f.reach n xs =
    copied_keeps f.line.items _ c.front_of-line.result.now xs f.reach n row.line values
    (c.front_of-line.ensures.long ∙ ap (λ m. f.reach + m) count) c.write_row.ensures.own in
    record {
      short = omega (arith, count, short);
      line = subst (λ (e : ℕ). Keeps (row_at (take g.len (c.write_row.new.table ++ drop
          (length c.write_row.new.table) g.items)) stride (e - f.first)) f.reach n xs) row.row
          (subst (λ (ys : List ℕ). Keeps (row_at ys stride (f.newest - f.first)) f.reach n xs) (sym kept_is) own);
    }

pub returns-clause-others : goal.returns-clause-others
returns-clause-others c = λ e n xs has other kept.
    let f = c.self.inside in
    let stride : ℕ = f.reach + f.chunk in
    let first : f.first ≡ c.args.self.now.first = ap (λ (b : RowTails). b.first) c.self.view_is in
    let newest : f.newest ≡ c.args.self.now.newest = ap (λ (b : RowTails). b.newest) c.self.view_is in
    let above = has.above in
    let mine = c.self.invariant.above in
    let apart : e - f.first ≢ f.newest - f.first = λ same. other (omega (arith, above, mine, same, first, newest)) in
    let row = subst (λ (b : RowTails). IsKept b e n xs) (sym c.self.view_is) kept in
    let g = c.fill_up.new.table in
    let short = row.short in
    record {
      short = row.short;
      line = subst (λ (ys : List ℕ). Keeps ys f.reach n xs)
          (same_row g.items c.as_mut_slice.result.now c.write_row.new.table _ stride (e - f.first)
          c.as_mut_slice.ensures.value
          (take_at c.write_row.new.table _ g.len (c.write_row.auto.table ∙ c.as_mut_slice.ensures.len))
          (c.write_row.ensures.others (e - f.first) apart))
          (filled_keeps f.kept.items g.items stride (e - f.first) f.reach n xs c.fill_up.ensures.filled
          (omega (arith, short)) row.line);
    }
