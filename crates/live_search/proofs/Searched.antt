-- What a book keeps of the candidates of an observation can be written.
use Rattle.std.proofs.Common.{◌≡◌, ℕ, List, get_or, sym, ap, subst, arith}
use Rattle.std.specs.Prelude.{All}
use Rattle.std.proofs.lemmas.List.Elements.{All-filter, All-take, Contains-get_or}
use Rattle.dada_model.specs.Observation.{Observation, edges}
use Rattle.search_model.specs.declared.candidate.Candidate.{Candidate}
use Rattle.search_model.specs.declared.candidate.Candidate.TheVariants.{Pulse, Fold}
use Rattle.search_model.specs.declared.search.Search.{Search}
use Rattle.search_model.specs.Search.{SettingsInRange}
use Rattle.search_model.specs.Candidates.{plain_cells}
use Rattle.search_model.specs.CandidateLaws.{CandidatesAreListed, IsCandidate}
use Rattle.search_model.specs.Observed.{filterbank_of, candidates_of}
use Rattle.search_model.specs.Parts.{ends_within, within_part}
use Rattle.candidate_book.specs.Book.{BookContents, book_of}
use Rattle.candidate_book.specs.Conditions.{IsSearched}

module _ (listed : CandidatesAreListed) (o : Observation) (s : Search) (bytes : List ℕ)
    (range : SettingsInRange s) where
  searched : (c : Candidate) → IsCandidate (filterbank_of o bytes) (edges o) (plain_cells o.channels) s c → IsSearched c
  searched (Pulse end delay width sum) is = (omega (arith, is.delay_to, range.delays.most), is.box)
  searched (Fold delay period halvings trial phase sum) is = (
    omega (arith, is.delay_to, range.delays.most),
    is.rows.some,
    omega (arith, is.rows.within, range.folds.most_rows),
  )

  all_searched : All IsSearched (candidates_of o s bytes)
  all_searched = λ k d small.
      let c = get_or (candidates_of o s bytes) k d in
      let there = Contains-get_or (candidates_of o s bytes) k d small in
      searched c ((listed (filterbank_of o bytes) (edges o) (plain_cells o.channels) s c).0 there)

  pub kept_searched : (b : BookContents) (limit place until : ℕ) →
      b ≡ book_of limit (within_part place until (candidates_of o s bytes)) → All IsSearched b.kept
  kept_searched b limit place until is =
      subst (All IsSearched) (sym (ap (λ (x : BookContents). x.kept) is))
      (All-take IsSearched limit (within_part place until (candidates_of o s bytes))
      (All-filter (ends_within place until) IsSearched (candidates_of o s bytes) all_searched))
