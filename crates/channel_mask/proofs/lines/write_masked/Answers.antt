use Rattle.std.proofs.Common.{◌∙◌, ℕ, List, sym, ap, subst}
use Rattle.std.specs.Prelude.{All}
use Rattle.search_model.specs.declared.candidate.Candidate.{Candidate}
use Rattle.candidate_book.specs.Book.{BookContents}
use Rattle.candidate_book.specs.Conditions.{IsSearched}
use Rattle.candidate_book.specs.Merged.{WroteText}
use Rattle.shard_search.specs.Sought.{cells_in}
use Rattle.search_engine.specs.Engine.{scope_of, spectra_fed}
use Rattle.channel_mask.proofs.Written.{cell_labels, wrote_masked}
use Rattle.channel_mask.proofs.lines.write_masked.Goals as goal

pub write_text-requires : goal.write_text-requires
write_text-requires g c =
    let kept = c.kept.ensures.value ∙ ap (λ (b : BookContents). b.kept) c.book.ensures in
    subst (All IsSearched) (sym kept) c.requires

pub returns : goal.returns
returns g c = λ s mask bytes found few.
    let o = c.args.obs.now in
    let e = c.args.engine.now in
    let old = g.K.Sink.seen c.args.sink.now in
    let new = g.K.Sink.seen c.write_text.new.sink in
    let result = c.write_text.result in
    let list = c.kept.result.now in
    let kept = c.kept.ensures.value ∙ ap (λ (b : BookContents). b.kept) c.book.ensures in
    let labels = cell_labels o (cells_in (scope_of e).sought) in
    let spectra = subst (λ (k : ℕ). WroteText labels k list old new result) c.spectra.ensures c.write_text.ensures in
    wrote_masked c.candidates_are_listed.ensures o s mask bytes e found few old new result
    (subst (λ (xs : List Candidate). WroteText labels (spectra_fed e) xs old new result) kept spectra)
