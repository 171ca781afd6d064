use Rattle.std.proofs.Common.{ℕ, ◌≡◌, ◌++◌, List, length, ◌∙◌, sym, ap, subst, arith}
use Rattle.box_sums.specs.Tails.{RowTails, StandsForRow, IsNewest}
use Rattle.box_sums.specs.Rows.{Keeps}
use Rattle.box_sums.proofs.boxes.Boxes.feed_row.Goals as goal

-- keeping a row leaves the one that was fed last
still_newest : (b c : RowTails) (d n : ℕ) (xs : List ℕ) → c ≡ record b { kept = c.kept } → IsNewest b d n xs
    → IsNewest c d n xs
still_newest b c d n xs same newest = record {
  row = ap (λ (r : RowTails). r.newest) same ∙ newest.row;
  count = ap (λ (r : RowTails). r.fed) same ∙ newest.count;
  line = subst (λ (r : RowTails). Keeps r.line r.reach n xs) (sym same) newest.line;
}

pub returns-clause-own : goal.returns-clause-own
returns-clause-own c = λ xs stands.
    let all = xs ++ c.args.row.now in
    record {
      fed = subst (λ (b : RowTails). StandsForRow b c.args.d all) (sym c.keep_newest.ensures.same)
          (c.feed_unkept.ensures.own xs stands);
      feed = c.keep_newest.ensures.own c.args.d (length c.args.row.now) all
          (c.feed_unkept.ensures.newest xs (λ wide. stands));
    }

pub returns-clause-newest : goal.returns-clause-newest
returns-clause-newest c = λ xs stands.
    still_newest c.feed_unkept.new.self c.keep_newest.new.self c.args.d (length c.args.row.now) (xs ++ c.args.row.now)
    c.keep_newest.ensures.same (c.feed_unkept.ensures.newest xs (λ wide. stands))

pub returns-clause-others : goal.returns-clause-others
returns-clause-others c = λ e xs has other stands.
    subst (λ (b : RowTails). StandsForRow b e xs) (sym c.keep_newest.ensures.same)
    (c.feed_unkept.ensures.others e xs has other stands)

pub returns-clause-kept : goal.returns-clause-kept
returns-clause-kept c = λ e n xs has other kept.
    let alike = c.feed_unkept.ensures.alike in
    let first = alike.first in
    let last = alike.last in
    let newest = c.feed_unkept.ensures.last in
    c.keep_newest.ensures.others e n xs
    (record {
      above = (let above = has.above in omega (arith, above, first));
      below = (let below = has.below in omega (arith, below, last));
    })
    (λ same. other (omega (arith, same, newest))) (c.feed_unkept.ensures.kept e n xs kept)
