use Rattle.std.proofs.Common.{◌≡◌, ◌<◌, ◌++◌, length, take, subst, ◌∙◌, arith}
use Rattle.std.proofs.lemmas.Result.{err_from_is_err_and}
use Rattle.psr_base.specs.Written.{WroteFront}
use Rattle.search_model.specs.CandidateText.{candidate_line, candidate_lines}
use Rattle.candidate_book.specs.Labelled.{labels_with}
use Rattle.candidate_book.specs.Lines.{Pending}
use Rattle.candidate_book.proofs.Listing.{listed, one_listed, list_failed}
use Rattle.candidate_book.proofs.listed.pass_list.Goals as goal

pub returns-in_err-push : goal.returns-in_err-push
returns-in_err-push g c =
    let far = c.loop-candidate.invariant.passed in
    let list = c.args.list.now in
    let i = c.loop-candidate.candidate-index in
    let labels = labels_with c.args.obs.now (g.L.LineLabels.cells_of_delay c.args.labels.now)
    (g.L.LineLabels.word_at c.args.labels.now) in
    let old = g.K.Sink.seen c.args.sink.now in
    let new = g.K.Sink.seen c.push.new.sink in
    let below : i < length list = omega arith in
    let line : c.as_bytes.result.now ≡ candidate_line labels (listed list i) =
    c.as_bytes.ensures ∙ c.candidate_line.ensures.text in
    let front = (c.in_err-push.ensures (candidate_lines labels (take i list)) old far.lines).front in
    let p = err_from_is_err_and c.from_residual.result c.from_residual.ensures.1 in
    rw p.1 (record {
      lines = record {
        pending = tt;
        front = list_failed labels list i old new c.pieces_join.ensures.pieces below
            (subst (λ text. WroteFront (candidate_lines labels (take i list) ++ text) old new) line front);
      };
      totals = tt;
    })

pub loop-candidate-preserved : goal.loop-candidate-preserved
loop-candidate-preserved g c =
    let far = c.loop-candidate.invariant.passed in
    let list = c.args.list.now in
    let i = c.loop-candidate.candidate-index in
    let labels = labels_with c.args.obs.now (g.L.LineLabels.cells_of_delay c.args.labels.now)
    (g.L.LineLabels.word_at c.args.labels.now) in
    let old = g.K.Sink.seen c.args.sink.now in
    let new = g.K.Sink.seen c.push.new.sink in
    let below : i < length list = omega arith in
    let line : c.as_bytes.result.now ≡ candidate_line labels (listed list i) =
    c.as_bytes.ensures ∙ c.candidate_line.ensures.text in
    let passed = (c.in_ok-push.ensures (candidate_lines labels (take i list)) old far.lines).pending in
    record {
      asked = c.of-word.ensures.asked;
      passed = one_listed labels list i c.loop-candidate.totals c.count.new.self c.loop-candidate.page c.push.new.self old
          (g.K.Sink.seen c.loop-candidate.sink) new below far c.count.ensures.pulses c.count.ensures.folds
          (subst (λ text. Pending (candidate_lines labels (take i list) ++ text) c.push.new.self old new) line passed);
    }
