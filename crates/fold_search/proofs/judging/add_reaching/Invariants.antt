use Rattle.std.proofs.Common.{◌+◌, ◌≤◌, Some}
use Rattle.std.specs.List.{range_with_len, flat_map}
use Rattle.fold_search.specs.Judging.{Adds, reaching_at}
use Rattle.fold_search.proofs.judging.add_reaching.Given as goal

-- the phases so far were added
abbrev pub invariant-loop-phase : goal.invariant-loop-phase
invariant-loop-phase l = record {
  list : Adds l.fn.book l.book
      (flat_map (λ q. reaching_at (Some l.least) l.of.delay l.of.period l.of.halvings l.trial l.sums q)
      (range_with_len 0 l.phase));
  count : l.book.count ≤ l.fn.book.count + l.phase;
}
