use Rattle.candidate_book.specs.Asked.{IsAsked}
use Rattle.candidate_book.specs.Labelled.{labels_with}
use Rattle.candidate_book.proofs.Listing.{FrontPassed}
use Rattle.candidate_book.proofs.listed.pass_list.Given as goal

-- the lines of the candidates so far were passed on
abbrev pub invariant-loop-candidate : goal.invariant-loop-candidate
invariant-loop-candidate g l =
    let seen = g.K.Sink.seen in
    let labels = labels_with l.obs (g.L.LineLabels.cells_of_delay l.labels) (g.L.LineLabels.word_at l.labels) in
    record {
      asked : IsAsked (g.L.LineLabels.word_at l.labels) l.asked;
      passed : FrontPassed labels l.list l.candidate-index l.totals l.page (seen l.fn.sink) (seen l.sink);
    }
