use Rattle.std.proofs.Common.{ap, subst, sym, ◌∙◌}
use Rattle.std.specs.Prelude.{All}
use Rattle.search_model.specs.Observed.{candidates_of}
use Rattle.candidate_book.specs.Book.{BookContents}
use Rattle.candidate_book.specs.Conditions.{IsSearched}
use Rattle.warm_restart.proofs.PartFound.{kept_all, kept_searched, text_is}
use Rattle.warm_restart.proofs.warm.Warm.write.Goals as goal

pub write_part-requires-clause-searched : goal.write_part-requires-clause-searched
write_part-requires-clause-searched g c =
    subst (All IsSearched) (sym (ap (λ (b : BookContents). b.kept) c.book.ensures))
    (kept_searched c.candidates_are_listed.ensures c.args.observation.now c.args.self.now c.requires)

pub returns : goal.returns
returns g c = λ bytes found.
    let o = c.args.observation.now in
    let w = c.args.self.now in
    let kept = ap (λ (b : BookContents). b.kept) c.book.ensures ∙ kept_all o bytes w found c.requires.all in
    text_is o bytes w c.spectra.result (c.spectra.ensures.found o bytes found) _ _ _
    (c.write_part.ensures (candidates_of o w.search bytes) kept)

pub write_part-requires-clause-pulses : goal.write_part-requires-clause-pulses
write_part-requires-clause-pulses g c = c.requires.found.searches.part.pulses_bound
