use Rattle.std.proofs.Common.{◌≡◌, ℕ, ◌+◌, List, [], ◌∷◌, Some, get_or, ap, arith}
use Rattle.search_model.specs.declared.candidate.Candidate.{Candidate}
use Rattle.search_model.specs.declared.candidate.Candidate.TheVariants.{Fold}
use Rattle.candidate_book.specs.Book.{BookContents}
use Rattle.fold_search.specs.Judging.{reaching_at}
use Rattle.fold_search.proofs.Adding.{adds_none, adds_more, adds_same, adds_renamed, reached_at, missed_at}
use Rattle.fold_search.proofs.judging.add_reaching.Goals as goal
use Rattle.fold_search.proofs.judging.add_reaching.Goals.{then-sum-least, else-sum-least}

pub loop-phase-preserved : goal.loop-phase-preserved
loop-phase-preserved c =
    let q : ℕ = c.loop-phase.phase in
    let sums : List ℕ = c.args.sums.now in
    let of = c.args.of in
    let old = c.args.book.now in
    let middle = c.loop-phase.book in
    let before = c.loop-phase.invariant in
    let at : 0 + q ≡ q = omega arith in
    let piece : ℕ → List Candidate =
    λ q. reaching_at (Some c.args.least) of.delay of.period of.halvings c.args.trial sums q in
    elim c.if-sum-least.branch [
      | then-sum-least w ↦
          let new = w.add.new.self in
          let one : List Candidate = Fold of.delay of.period of.halvings c.args.trial q (get_or sums q 0) ∷ [] in
          record {
            list = adds_renamed old c.if-sum-least.book new _ w.book-is
                (adds_more old middle new piece 0 q q at before.list
                (adds_same middle new one (piece q)
                (reached_at c.args.least of.delay of.period of.halvings c.args.trial sums q w.if-sum-least.true)
                w.add.ensures.list));
            count = let same = ap (λ (book : BookContents). book.count) w.book-is in
                omega (arith, before.count, w.add.ensures.count, same);
          }
      | else-sum-least w ↦
          record {
            list = adds_renamed old c.if-sum-least.book middle _ w.book-is
                (adds_more old middle middle piece 0 q q at before.list
                (adds_same middle middle [] (piece q)
                (missed_at c.args.least of.delay of.period of.halvings c.args.trial sums q w.if-sum-least.false)
                (adds_none middle)));
            count = let same = ap (λ (book : BookContents). book.count) w.book-is in omega (arith, before.count, same);
          }
    ]
