use Rattle.std.proofs.Common.{inl, inr, ℕ, ◌≡◌, ◌+◌, ◌-◌, ◌≤◌, ◌++◌, List, length, take, drop, ◌∙◌, sym, ap, subst, refl, arith}
use Rattle.std.proofs.lemmas.Bool.{cases_lt}
use Rattle.std.proofs.lemmas.List.{take_at}
use Rattle.std.specs.List.{All}
use Rattle.box_sums.specs.Tails.{RowTails, StandsForRow, row_at}
use Rattle.box_sums.specs.Rows.{Keeps}
use Rattle.box_sums.specs.Tables.{AreUpTo}
use Rattle.box_sums.proofs.Feeding.{none_kept, line_keeps, others_left, row_fed, made_seen, sum_fits, all_up_to}
use Rattle.box_sums.proofs.Parts.{part_small, drop_small}
use Rattle.box_sums.proofs.boxes.Boxes.feed_unkept.Goals as goal

-- the line that is made of a part of a table and a feed has no value above the bound
line_is_small : (bound b : ℕ) (old given tails rows tail line feed : List ℕ) (at reach : ℕ)
    → bound ≡ b → All (λ x. x ≤ b) feed → given ≡ old → rows ≡ tails → tail ≡ take reach (drop at rows)
    → (AreUpTo bound given → AreUpTo bound tail → AreUpTo bound feed → AreUpTo bound line)
    → AreUpTo bound old → AreUpTo bound tails → AreUpTo bound line
line_is_small bound b old given tails rows tail line feed at reach same all same_old same_rows part keeps small
    small_tails =
    keeps (subst (AreUpTo bound) (sym same_old) small)
    (subst (AreUpTo bound) (sym part) (part_small bound at reach rows
    (subst (AreUpTo bound) (sym same_rows) small_tails)))
    (subst (λ (b : ℕ). AreUpTo b feed) (sym same) (all_up_to b feed all))

pub add_pairs-self-inside-requires-clause-fits : goal.add_pairs-self-inside-requires-clause-fits
add_pairs-self-inside-requires-clause-fits c = λ i.
    let f = c.self.inside in
    let bound : f.bound ≡ c.args.self.now.bound = ap (λ (b : RowTails). b.bound) c.self.view_is in
    let line = line_is_small f.bound c.args.self.now.bound f.line.items c.as_mut_slice.result.now f.tails.items
    c.as_slice.result.now c.front_of-tail.result.now c.join.new.line c.args.row.now _ f.reach bound c.requires.small
    c.as_mut_slice.ensures.value c.as_slice.ensures.value c.front_of-tail.ensures.values
    (c.join.ensures.small f.bound) c.self.invariant.small_line c.self.invariant.small_tails in
    let line_is : c.as_slice-3.result.now ≡ c.join.new.line =
    c.as_slice-3.ensures.value
    ∙ take_at c.join.new.line _ f.line.len (c.join.auto.line ∙ c.as_mut_slice.ensures.len) in
    let small : AreUpTo f.bound c.as_slice-3.result.now = subst (AreUpTo f.bound) (sym line_is) line in
    sum_fits f.bound f.widest f.widest (drop i c.as_slice-3.result.now)
    (drop_small f.bound i c.as_slice-3.result.now small) (omega arith) c.self.invariant.fits

pub invariant_of-self : goal.invariant_of-self
invariant_of-self c =
    let f = c.self.inside in
    let n : ℕ = length c.args.row.now in
    let first : f.first ≡ c.args.self.now.first = ap (λ (b : RowTails). b.first) c.self.view_is in
    let last : f.last ≡ c.args.self.now.last = ap (λ (b : RowTails). b.last) c.self.view_is in
    let chunk : f.chunk ≡ c.args.self.now.chunk = ap (λ (b : RowTails). b.chunk) c.self.view_is in
    let bound : f.bound ≡ c.args.self.now.bound = ap (λ (b : RowTails). b.bound) c.self.view_is in
    let above = c.requires.row.above in
    let below = c.requires.row.below in
    let short = c.requires.short in
    let fits : n ≤ f.chunk = omega (arith, short, chunk) in
    let line_is : take f.line.len (c.join.new.line ++ drop (length c.join.new.line) f.line.items) ≡ c.join.new.line =
    take_at c.join.new.line _ f.line.len (c.join.auto.line ∙ c.as_mut_slice.ensures.len) in
    let tails_is : take f.tails.len (c.write_row.new.table ++ drop
    (length c.write_row.new.table) f.tails.items) ≡ c.write_row.new.table =
    take_at c.write_row.new.table _ f.tails.len (c.write_row.auto.table ∙ c.as_mut_slice-2.ensures.len) in
    let boxes_is : take f.boxes.len (c.add_pairs-self-inside.new.boxes ++ drop
    (length c.add_pairs-self-inside.new.boxes) f.boxes.items) ≡ c.add_pairs-self-inside.new.boxes =
    take_at c.add_pairs-self-inside.new.boxes _ f.boxes.len (c.add_pairs-self-inside.auto.boxes ∙ c.as_mut_slice-3.ensures.len) in
    let greatest_is : take f.greatest.len (c.add_pairs-self-inside.new.greatest ++ drop
    (length c.add_pairs-self-inside.new.greatest) f.greatest.items) ≡ c.add_pairs-self-inside.new.greatest =
    take_at c.add_pairs-self-inside.new.greatest _ f.greatest.len (c.add_pairs-self-inside.auto.greatest ∙ c.as_mut_slice-4.ensures.len) in
    let line : AreUpTo f.bound c.join.new.line = line_is_small f.bound c.args.self.now.bound f.line.items
    c.as_mut_slice.result.now f.tails.items
    c.as_slice.result.now c.front_of-tail.result.now c.join.new.line c.args.row.now _ f.reach bound c.requires.small
    c.as_mut_slice.ensures.value c.as_slice.ensures.value c.front_of-tail.ensures.values
    (c.join.ensures.small f.bound) c.self.invariant.small_line c.self.invariant.small_tails in
    let last_values : AreUpTo f.bound c.front_of-last.result.now =
    subst (AreUpTo f.bound) (sym c.front_of-last.ensures.values)
    (part_small f.bound n f.reach c.as_slice-2.result.now
    (subst (AreUpTo f.bound) (sym (c.as_slice-2.ensures.value ∙ line_is)) line)) in
    record {
      order = c.self.invariant.order;
      few_rows = c.self.invariant.few_rows;
      some = c.self.invariant.some;
      most = c.self.invariant.most;
      width = c.self.invariant.width;
      enough = c.self.invariant.enough;
      near = c.self.invariant.near;
      alone = c.self.invariant.alone;
      lanes = c.self.invariant.lanes;
      fits = c.self.invariant.fits;
      above = omega (arith, above, first);
      below = omega (arith, below, last);
      short = fits;
      tails_room = ap length tails_is ∙ c.write_row.auto.table ∙ ap length c.as_mut_slice-2.ensures.value
          ∙ c.self.invariant.tails_room;
      line_room = ap length line_is ∙ c.join.auto.line ∙ ap length c.as_mut_slice.ensures.value
          ∙ c.self.invariant.line_room;
      kept_room = c.self.invariant.kept_room;
      boxes_room = ap length boxes_is ∙ c.add_pairs-self-inside.auto.boxes ∙ ap length c.as_mut_slice-3.ensures.value
          ∙ c.self.invariant.boxes_room;
      greatest_room = ap length greatest_is ∙ c.add_pairs-self-inside.auto.greatest ∙ ap length c.as_mut_slice-4.ensures.value
          ∙ c.self.invariant.greatest_room;
      excess_fits = c.self.invariant.excess_fits;
      small_tails = subst (AreUpTo f.bound) (sym tails_is) (c.write_row.ensures.small f.bound
          (subst (AreUpTo f.bound) (sym c.as_mut_slice-2.ensures.value) c.self.invariant.small_tails) last_values);
      small_line = subst (AreUpTo f.bound) (sym line_is) line;
      small_kept = c.self.invariant.small_kept;
      some_made = c.add_pairs-self-inside.ensures.some;
      narrow_made = c.add_pairs-self-inside.ensures.narrow;
      are_made = made_seen _ _ _ _ _ _ (f.reach + n) (f.reach + f.chunk) c.add_pairs-self-inside.result c.as_slice-3.ensures.value
          boxes_is greatest_is (c.add_pairs-self-inside.ensures.made (f.reach + f.chunk));
    }

pub returns-clause-newest : goal.returns-clause-newest
returns-clause-newest c = λ xs stands.
    let f = c.self.inside in
    let widest : f.widest ≡ c.args.self.now.widest = ap (λ (b : RowTails). b.widest) c.self.view_is in
    let tail : Keeps (row_at f.tails.items f.reach (c.args.d - f.first)) f.reach 0 xs = elim (cases_lt 1 f.widest) [
      | inl wide ↦ subst (λ (b : RowTails). StandsForRow b c.args.d xs) (sym c.self.view_is)
          (stands (omega (arith, wide, widest)))
      | inr alone ↦ none_kept (row_at f.tails.items f.reach (c.args.d - f.first)) xs f.reach
          (c.self.invariant.alone alone)
    ] in
    let line : Keeps c.join.new.line f.reach (length c.args.row.now) (xs ++ c.args.row.now) =
    line_keeps f.tails.items c.join.new.line c.front_of-tail.result.now c.args.row.now xs f.reach (c.args.d - f.first)
    tail
    (c.front_of-tail.ensures.values
    ∙ ap (λ ys. row_at ys f.reach (c.args.d - f.first)) c.as_slice.ensures.value)
    (ap (λ k. take (k + length c.args.row.now) c.join.new.line) (sym c.front_of-tail.ensures.long)
    ∙ c.join.ensures.values) in
    record {
      row = refl;
      count = refl;
      line = subst (λ (ys : List ℕ). Keeps ys f.reach (length c.args.row.now) (xs ++ c.args.row.now))
          (sym (take_at c.join.new.line _ f.line.len (c.join.auto.line ∙ c.as_mut_slice.ensures.len))) line;
    }

pub returns-clause-own : goal.returns-clause-own
returns-clause-own c =
    let f = c.self.inside in
    let at : ℕ = c.args.d - f.first in
    let feed = c.args.row.now in
    let line_is : c.as_slice-2.result.now ≡ c.join.new.line =
    c.as_slice-2.ensures.value
    ∙ take_at c.join.new.line _ f.line.len (c.join.auto.line ∙ c.as_mut_slice.ensures.len) in
    row_fed _ c.args.self.now c.join.new.line c.write_row.new.table _ feed c.args.d c.self.view_is
    (take_at c.write_row.new.table _ f.tails.len (c.write_row.auto.table ∙ c.as_mut_slice-2.ensures.len))
    (λ xs row. line_keeps f.tails.items c.join.new.line c.front_of-tail.result.now feed xs f.reach at row
    (c.front_of-tail.ensures.values ∙ ap (λ ys. row_at ys f.reach at) c.as_slice.ensures.value)
    (ap (λ k. take (k + length feed) c.join.new.line) (sym c.front_of-tail.ensures.long) ∙ c.join.ensures.values))
    (ap (λ k. take k (row_at c.write_row.new.table f.reach at)) (sym c.front_of-last.ensures.long)
    ∙ c.write_row.ensures.own
    ∙ c.front_of-last.ensures.values
    ∙ ap (λ ys. take f.reach (drop (length feed) ys)) line_is)

pub returns-clause-others : goal.returns-clause-others
returns-clause-others c =
    others_left _ c.args.self.now c.as_mut_slice-2.result.now c.write_row.new.table _ c.args.d c.self.view_is
    c.as_mut_slice-2.ensures.value
    (take_at c.write_row.new.table _ c.self.inside.tails.len (c.write_row.auto.table ∙ c.as_mut_slice-2.ensures.len))
    c.requires.row c.write_row.ensures.others
