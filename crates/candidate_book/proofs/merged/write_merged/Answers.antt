use Rattle.std.proofs.Common.{subst}
use Rattle.std.proofs.lemmas.Result.{err_from_is_err_and}
use Rattle.psr_base.specs.Written.{WroteFront}
use Rattle.search_model.specs.CandidateText.{Labels, candidate_lines}
use Rattle.search_model.specs.Observed.{labels_of}
use Rattle.candidate_book.specs.Merged.{WroteText}
use Rattle.candidate_book.proofs.Listing.{plain_are}
use Rattle.candidate_book.proofs.merged.write_merged.Goals as goal

pub returns-in_err-totals : goal.returns-in_err-totals
returns-in_err-totals g c =
    let p = err_from_is_err_and c.from_residual.result c.from_residual.ensures.1 in
    rw p.1 (λ merged merge.
    let labels = labels_of c.args.obs.now in
    let plain = plain_are c.args.obs.now c.of-labels.result.channels c.of-labels.ensures in
    let front = subst (λ l. WroteFront (candidate_lines l merged) (g.K.Sink.seen c.args.sink.now)
    (g.K.Sink.seen c.pass_candidates.new.sink)) plain
    (c.in_err-totals.ensures merged merge).lines.front in
    record {
      text = record {
        all = tt;
        front = c.pieces_join.ensures.pieces.breaks_off (candidate_lines labels merged) _ _ _ front;
      };
      totals = tt;
    })

pub returns : goal.returns
returns g c = λ merged merge.
    let listed = c.in_ok-totals.ensures merged merge in
    subst (λ (l : Labels). WroteText l c.args.spectra merged (g.K.Sink.seen c.args.sink.now)
    (g.K.Sink.seen c.end_text.new.sink) c.end_text.result)
    (plain_are c.args.obs.now c.of-labels.result.channels c.of-labels.ensures)
    (c.end_text.ensures _ merged _ listed.totals listed.lines.pending)
