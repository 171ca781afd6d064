use Rattle.std.proofs.Common.{ℕ, [], ◌∙◌, ap}
use Rattle.search_model.specs.declared.search.Search.{Search}
use Rattle.search_model.specs.Candidates.{shard_part}
use Rattle.search_model.specs.Observed.{candidates_of}
use Rattle.candidate_book.specs.Book.{BookContents, book_of}
use Rattle.crate_uses.proofs.search.found.Goals as goal

pub returns-clause-ok : goal.returns-clause-ok
returns-clause-ok c =
    let o = c.args.observation.now in
    let bytes = c.args.bytes.now in
    let opened = c.in_ok-engine.ensures in
    let searched = c.end.ensures.searched o bytes (c.feed.ensures.stands o [] opened.stands) in
    let search_is = c.end.ensures.same.search ∙ c.feed.ensures.same.search ∙ opened.opened.search_is in
    let shard_is = c.end.ensures.same.shard ∙ c.feed.ensures.same.shard ∙ opened.opened.shard_is in
    let found : Search → ℕ → BookContents = λ s k.
    book_of s.max_candidates (shard_part s k (candidates_of o s bytes)) in
    c.into_book.ensures ∙ searched.book ∙ ap (λ (s : Search). found s c.end.new.self.shard) search_is
    ∙ ap (found c.args.search.now) shard_is
