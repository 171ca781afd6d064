use Rattle.std.proofs.Common.{◌≡◌, ◌≤◌, ◌∙◌, length, ap, arith}
use Rattle.search_model.specs.Masks.{masked_candidates_of}
use Rattle.candidate_book.specs.Book.{BookContents}
use Rattle.search_engine.specs.Scope.{kept_by}
use Rattle.psr_mask.proofs.writing.write_text.Goals as goal

pub returns-in-Ok-clause-ended : goal.returns-in-Ok-clause-ended
returns-in-Ok-clause-ended g c = λ mask bytes found.
    let s = c.args.search.now in
    let e = c.args.engine.now in
    let total : e.book.count ≡ length (masked_candidates_of c.args.observation.now s (kept_by mask) bytes) =
    ap (λ (b : BookContents). b.count) found.book in
    let count : c.count-count.result ≡ e.book.count =
    c.count-count.ensures ∙ ap (λ (b : BookContents). b.count) c.book.ensures in
    let few : e.book.count ≤ s.max_candidates = omega (arith, count, c.from.ensures, c.if-count-from.false) in
    (omega (arith, few, total), (c.in-Ok.ensures s mask bytes found few).text.all)

pub returns-in-Err-Fault-clause-ended : goal.returns-in-Err-Fault-clause-ended
returns-in-Err-Fault-clause-ended g c = λ mask bytes found.
    let s = c.args.search.now in
    let e = c.args.engine.now in
    let total : e.book.count ≡ length (masked_candidates_of c.args.observation.now s (kept_by mask) bytes) =
    ap (λ (b : BookContents). b.count) found.book in
    let count : c.count-count.result ≡ e.book.count =
    c.count-count.ensures ∙ ap (λ (b : BookContents). b.count) c.book.ensures in
    let few : e.book.count ≤ s.max_candidates = omega (arith, count, c.from.ensures, c.if-count-from.false) in
    (omega (arith, few, total), (c.in-Err-Fault.ensures s mask bytes found few).text.front)
