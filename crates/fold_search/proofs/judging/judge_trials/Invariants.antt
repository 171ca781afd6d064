use Rattle.std.proofs.Common.{ℕ, ◌+◌, ◌*◌, ◌^◌, ◌≤◌, List}
use Rattle.std.specs.List.{range_with_len, flat_map}
use Rattle.search_model.specs.declared.search.Search.{Search}
use Rattle.detect_rule.specs.Noise.{StandOutFrom}
use Rattle.fast_fold.specs.Folding.{StandsForSeries}
use Rattle.fold_search.specs.Judging.{Adds, noise_of, folds_in_trial}
use Rattle.fold_search.proofs.judging.judge_trials.Given as goal

-- the trials so far were added
abbrev pub invariant-loop-trial : goal.invariant-loop-trial
invariant-loop-trial l = record {
  list : (cells : ℕ → ℕ) (s : Search) (values : List ℕ) →
      StandOutFrom (noise_of s) (2 ^ l.of.halvings * cells l.of.delay) l.least → StandsForSeries l.folder values →
      Adds l.fn.book l.book
      (flat_map (λ j. folds_in_trial cells s l.of.delay l.of.period l.of.halvings j values) (range_with_len 0 l.trial));
  count : l.book.count ≤ l.fn.book.count + l.trial * l.of.period;
}
