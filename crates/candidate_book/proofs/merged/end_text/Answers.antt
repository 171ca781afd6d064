use Rattle.std.proofs.Common.{◌≡◌, ◌++◌, subst, ◌∙◌}
use Rattle.std.proofs.lemmas.Result.{err_from_is_err_and}
use Rattle.psr_base.specs.Written.{WroteAll, WroteFront}
use Rattle.search_model.specs.CandidateText.{candidate_lines, end_line}
use Rattle.candidate_book.specs.Lines.{Pending}
use Rattle.candidate_book.proofs.Passing.{text_is, all_written, front_written}
use Rattle.candidate_book.proofs.merged.end_text.Goals as goal

pub returns-in_err-push : goal.returns-in_err-push
returns-in_err-push g c =
    let p = err_from_is_err_and c.from_residual.result c.from_residual.ensures.1 in
    rw p.1 (λ labels list old counted lines.
    let totals = c.args.totals in
    let new = g.K.Sink.seen c.push.new.sink in
    let line : c.as_bytes.result.now ≡ end_line totals.pulses totals.folds c.args.spectra =
    c.as_bytes.ensures ∙ c.end_line-line.ensures.text in
    let front = (c.in_err-push.ensures (candidate_lines labels list) old lines).front in
    let whole = subst (λ text. WroteFront (candidate_lines labels list ++ text) old new) line front in
    record {
      text = record {
        all = tt;
        front = subst (λ text. WroteFront text old new) (text_is labels c.args.spectra list totals counted) whole;
      };
      totals = tt;
    })

pub returns-in_err-flush : goal.returns-in_err-flush
returns-in_err-flush g c =
    let p = err_from_is_err_and c.from_residual-in_err-flush.result c.from_residual-in_err-flush.ensures.1 in
    rw p.1 (λ labels list old counted lines.
    let totals = c.args.totals in
    let middle = g.K.Sink.seen c.push.new.sink in
    let new = g.K.Sink.seen c.flush.new.sink in
    let line : c.as_bytes.result.now ≡ end_line totals.pulses totals.folds c.args.spectra =
    c.as_bytes.ensures ∙ c.end_line-line.ensures.text in
    let pending = (c.in_ok-push.ensures (candidate_lines labels list) old lines).pending in
    let whole =
    subst (λ text. Pending (candidate_lines labels list ++ text) c.push.new.self old middle) line pending in
    let front = front_written _ c.push.new.self old middle new c.pieces_join.ensures.pieces whole
    c.in_err-flush.ensures.wrote.front in
    record {
      text = record {
        all = tt;
        front = subst (λ text. WroteFront text old new) (text_is labels c.args.spectra list totals counted) front;
      };
      totals = tt;
    })

pub returns : goal.returns
returns g c = λ labels list old counted lines.
    let totals = c.args.totals in
    let middle = g.K.Sink.seen c.push.new.sink in
    let new = g.K.Sink.seen c.flush.new.sink in
    let line : c.as_bytes.result.now ≡ end_line totals.pulses totals.folds c.args.spectra =
    c.as_bytes.ensures ∙ c.end_line-line.ensures.text in
    let pending = (c.in_ok-push.ensures (candidate_lines labels list) old lines).pending in
    let whole =
    subst (λ text. Pending (candidate_lines labels list ++ text) c.push.new.self old middle) line pending in
    let all = all_written _ c.push.new.self old middle new c.pieces_join.ensures.pieces whole
    c.in_ok-flush.ensures.wrote.all in
    record {
      text = record {
        all = subst (λ text. WroteAll text old new) (text_is labels c.args.spectra list totals counted) all;
        front = tt;
      };
      totals = counted;
    }
