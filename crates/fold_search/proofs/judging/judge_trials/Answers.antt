use Rattle.std.proofs.Common.{◌≡◌, ℕ, ◌+◌, ◌^◌, List, ap, arith}
use Rattle.std.specs.List.{range_with_len, flat_map}
use Rattle.search_model.specs.declared.candidate.Candidate.{Candidate}
use Rattle.fold_search.specs.Judging.{folds_in_trial}
use Rattle.fold_search.proofs.Adding.{adds_more, adds_same, profile_folds}
use Rattle.fold_search.proofs.judging.judge_trials.Goals as goal

pub loop-trial-preserved : goal.loop-trial-preserved
loop-trial-preserved c =
    let j : ℕ = c.loop-trial.trial in
    let of = c.args.of in
    let before = c.loop-trial.invariant in
    let at : 0 + j ≡ j = omega arith in
    let long = c.profile.ensures.phases in
    record {
      list = λ cells s values from stands.
          let piece : ℕ → List Candidate = λ j. folds_in_trial cells s of.delay of.period of.halvings j values in
          adds_more c.args.book.now c.loop-trial.book c.judge.new.book piece 0 j j at
          (before.list cells s values from stands)
          (adds_same c.loop-trial.book c.judge.new.book _ (piece j)
          (profile_folds c.folds_see_rows.ensures cells s of.delay of.period of.halvings j _ _ c.profile.result.now
          values c.requires.level.period c.requires.level.level long
          (λ q small. c.profile.ensures.sums values q stands small))
          (c.judge.ensures.list cells s from));
      count = omega (arith, before.count, c.judge.ensures.count, long, c.requires.level.period);
    }

pub returns-clause-list : goal.returns-clause-list
returns-clause-list c = λ cells s values from stands.
    let of = c.args.of in
    let piece : ℕ → List Candidate = λ j. folds_in_trial cells s of.delay of.period of.halvings j values in
    let all : c.loop-trial.trial ≡ 2 ^ of.halvings = omega (arith, c.fold_row_count-trial-end.ensures.value) in
    adds_same c.args.book.now c.loop-trial.book _ _ (ap (λ n. flat_map piece (range_with_len 0 n)) all)
    (c.loop-trial.invariant.list cells s values from stands)
