use Rattle.std.proofs.lemmas.Result.{err_from_is_err_and}
use Rattle.search_model.specs.CandidateText.{candidate_lines}
use Rattle.candidate_book.specs.Labelled.{labels_with}
use Rattle.candidate_book.proofs.listed.write_text.Goals as goal

pub returns-in_err-totals : goal.returns-in_err-totals
returns-in_err-totals g c =
    let p = err_from_is_err_and c.from_residual.result c.from_residual.ensures.1 in
    let labels = labels_with c.args.obs.now (g.L.LineLabels.cells_of_delay c.args.labels.now)
    (g.L.LineLabels.word_at c.args.labels.now) in
    rw p.1 (record {
      text = record {
        all = tt;
        front = c.pieces_join.ensures.pieces.breaks_off (candidate_lines labels c.args.list.now) _ _ _
            c.in_err-totals.ensures.lines.front;
      };
      totals = tt;
    })

pub returns : goal.returns
returns g c =
    c.end_text.ensures _ _ _ c.in_ok-totals.ensures.totals c.in_ok-totals.ensures.lines.pending
