use Rattle.std.proofs.Common.{◌≡◌, ◌+◌, ◌-◌, ◌*◌, ◌^◌, ◌≤◌, List, length}
use Rattle.std.specs.Prelude.{All}
use Rattle.search_model.specs.declared.candidate.Candidate.{Candidate}
use Rattle.search_model.specs.Order.{IsMergeOf}
use Rattle.candidate_book.specs.Asked.{IsAsked}
use Rattle.candidate_book.specs.Conditions.{kept_lists}
use Rattle.candidate_book.specs.Labelled.{labels_with}
use Rattle.candidate_book.proofs.Passing.{PassedOn}
use Rattle.candidate_book.proofs.Places.{sum_of}
use Rattle.candidate_book.proofs.merged.pass_candidates.Given as goal

-- the lines of the merged list's front were passed on, and each book stands at what is left of it
abbrev pub invariant-loop-next : goal.invariant-loop-next
invariant-loop-next g l =
    let seen = g.K.Sink.seen in
    let labels = labels_with l.obs (g.L.LineLabels.cells_of_delay l.labels) (g.L.LineLabels.word_at l.labels) in
    record {
      asked : IsAsked (g.L.LineLabels.word_at l.labels) l.asked;
      seven : length l.places ≡ 7;
      fits : All (λ place. place ≤ 2 ^ 32) l.places;
      counted : l.totals.pulses + l.totals.folds ≡ sum_of l.places;
      passed : (merged : List Candidate) → IsMergeOf (kept_lists l.books) merged →
          PassedOn labels l.books l.places l.totals l.page (seen l.fn.sink) (seen l.sink) merged;
    }

abbrev pub decreases-loop-next : goal.decreases-loop-next
decreases-loop-next g l = 7 * 2 ^ 32 - sum_of l.places
