use Rattle.std.proofs.Common.{◌≡◌, ℕ, ◌+◌, ◌-◌, List, ap, subst, ◌∙◌, arith}
use Rattle.std.specs.List.{range_with_len, flat_map}
use Rattle.search_model.specs.declared.candidate.Candidate.{Candidate}
use Rattle.fold_search.specs.Judging.{AreFoldThresholds, folds_in_period, noise_of}
use Rattle.fold_search.specs.Cells.{cells_by}
use Rattle.fold_search.proofs.Adding.{adds_more, adds_same}
use Rattle.fold_search.proofs.judging.fold_values.Goals as goal

pub loop-period-preserved : goal.loop-period-preserved
loop-period-preserved c =
    let p : ℕ = c.loop-period.period in
    let s = c.args.search.now in
    let before = c.loop-period.invariant in
    let from = c.loop-period.auto.period in
    let room = c.fold_period.ensures.room in
    let piece : ℕ → List Candidate =
    λ p. folds_in_period (cells_by c.args.cells.now) s c.args.delay p c.args.values.now in
    let at : s.fold_min + (p - s.fold_min) ≡ p = omega arith in
    let next : p - s.fold_min + 1 ≡ p + 1 - s.fold_min = omega arith in
    record {
      room = record {
        longest = room.longest ∙ before.room.longest;
        most = room.most ∙ before.room.most;
      };
      list = adds_same c.args.book.now c.fold_period.new.book _ _
          (ap (λ n. flat_map piece (range_with_len s.fold_min n)) next)
          (adds_more c.args.book.now c.loop-period.book c.fold_period.new.book piece s.fold_min (p - s.fold_min) p at
          before.list (c.fold_period.ensures.list (cells_by c.args.cells.now)
          (subst (λ n. AreFoldThresholds (noise_of s) n s.fold_rows c.least_sums-least.result) c.at.ensures
          c.least_sums-least.ensures)));
      count = let count = c.fold_period.ensures.count in omega (arith, before.count, count, next);
    }
