-- What the search of a part finds, and that it can be written.
use Rattle.std.proofs.Common.{◌≡◌, ℕ, ◌^◌, ◌<◌, ◌≤◌, Bool, true, false, List, [], ◌∷◌, length, get_or, Result, refl, sym, ap, subst, ◌∙◌, arith}
use Rattle.std.specs.Prelude.{All, filter}
use Rattle.std.proofs.lemmas.List.{take_all}
use Rattle.std.proofs.lemmas.List.Elements.{All-filter, Contains-get_or}
use Rattle.dada_model.specs.Observation.{Observation, edges}
use Rattle.psr_base.specs.Written.{SinkSeen, Wrote}
use Rattle.search_model.specs.declared.candidate.Candidate.{Candidate}
use Rattle.search_model.specs.declared.candidate.Candidate.TheVariants.{Pulse, Fold}
use Rattle.search_model.specs.declared.search.Search.{Search}
use Rattle.search_model.specs.Search.{SettingsInRange, in_one_shard}
use Rattle.search_model.specs.Candidates.{plain_cells, shard_part}
use Rattle.search_model.specs.CandidateLaws.{CandidatesAreListed, IsCandidate, OneShardIsAll}
use Rattle.search_model.specs.Observed.{filterbank_of, candidates_of, labels_of}
use Rattle.search_model.specs.Parts.{ends_within, first_needed, part_text, within_part}
use Rattle.candidate_book.specs.Book.{BookContents, book_of}
use Rattle.candidate_book.specs.Conditions.{IsSearched}
use Rattle.search_engine.specs.Engine.{EngineState, HasFoundPart, HasFoundIn, scope_of}
use Rattle.search_engine.specs.Laws.{ScopesAreFound}
use Rattle.search_engine.specs.Scope.{FitsObservation, Scope, scope_of_part}
use Rattle.warm_restart.specs.Warm.{HasFound, KeepsPart, SearchesPart, part_scope, text_of_part}
use Rattle.warm_restart.specs.declared.warm.Warm.{Warm}

-- ---- two tests, in either order

tests_at : {X : Type 0} (p q : X → Bool) (x : X) (xs : List X) →
    filter p (filter q xs) ≡ filter q (filter p xs) → (b c : Bool) → p x ≡ b → q x ≡ c →
    filter p (filter q (x ∷ xs)) ≡ filter q (filter p (x ∷ xs))
tests_at p q x xs more true true at_p at_q = rw (at_q, at_p, at_q, more) refl
tests_at p q x xs more true false at_p at_q = rw (at_q, at_p, at_q, more) refl
tests_at p q x xs more false true at_p at_q = rw (at_q, at_p, more) refl
tests_at p q x xs more false false at_p at_q = rw (at_q, at_p, more) refl

tests_commute : {X : Type 0} (p q : X → Bool) (xs : List X) →
    filter p (filter q xs) ≡ filter q (filter p xs)
tests_commute p q [] = refl
tests_commute p q (x ∷ xs) =
    tests_at p q x xs (tests_commute p q xs) (p x) (q x) refl refl

-- ---- what is searched

pub fits_part : (o : Observation) (s : Search) (place until : ℕ) → place ≤ 2 ^ 48 → until ≤ 2 ^ 48 →
    FitsObservation o s (part_scope o s place until)
fits_part o s place until early few = record {
  marks = omega arith;
  sought = record {
    cells = λ d within. omega arith;
    early = omega (arith, early);
  };
  first = omega (arith, early);
  until = few;
}

-- an engine that goes on searches what it searched
pub searches_on : (o : Observation) (w : Warm) (e : EngineState) → SearchesPart o w → e.search ≡ w.engine.search →
    e.shard ≡ w.engine.shard → scope_of e ≡ scope_of w.engine → SearchesPart o (record w { engine = e })
searches_on o w e is search shard scope = record {
  range = is.range;
  unfolded = is.unfolded;
  part = is.part;
  search = search ∙ is.search;
  shard = shard ∙ is.shard;
  scope = scope ∙ is.scope;
}

-- ---- what is found

-- of one shard, the part is all of the part of the list
part_of_one : OneShardIsAll → (o : Observation) (s : Search) (bytes : List ℕ) (place until : ℕ) →
    s.shards ≡ 1 →
    shard_part s 0 (within_part place until (candidates_of o s bytes))
    ≡ within_part place until (candidates_of o s bytes)
part_of_one all o s bytes place until one =
    tests_commute _ (ends_within place until) (candidates_of o s bytes)
    ∙ ap (within_part place until) (all (filterbank_of o bytes) (edges o) (plain_cells o.channels) s one)

-- the book of an engine that searched a part in one shard
pub book_found : ScopesAreFound → OneShardIsAll → (o : Observation) (bytes : List ℕ) (w : Warm) →
    SearchesPart o w → HasFoundPart o bytes w.engine →
    w.engine.book ≡ book_of w.search.max_candidates
    (within_part w.checkpoint.place w.until (candidates_of o w.search bytes))
book_found scopes all o bytes w is found =
    let place = w.checkpoint.place in
    let s = in_one_shard w.search in
    let at : (s : Search) → ℕ → BookContents = λ s k. book_of s.max_candidates
    (shard_part s k (within_part place w.until (candidates_of o s bytes))) in
    let unfolded : w.engine.search.fold_max < w.engine.search.fold_min =
    subst (λ (x : Search). x.fold_max < x.fold_min) (sym is.search) is.unfolded in
    let here = subst (λ (x : Scope). HasFoundIn o x bytes w.engine) is.scope found in
    let scoped = subst (λ (x : Search). HasFoundIn o (scope_of_part o.channels (first_needed x place) place w.until)
    bytes w.engine) (sym is.search) here in
    scopes.part o bytes w.engine place w.until unfolded scoped
    ∙ ap (λ (x : Search). at x w.engine.shard) is.search ∙ ap (at s) is.shard
    ∙ ap (book_of w.search.max_candidates) (part_of_one all o s bytes place w.until refl)

-- ---- and written

module _ (listed : CandidatesAreListed) (o : Observation) (s : Search) (bytes : List ℕ)
    (range : SettingsInRange s) where
  searched : (c : Candidate) → IsCandidate (filterbank_of o bytes) (edges o) (plain_cells o.channels) s c → IsSearched c
  searched (Pulse end delay width sum) is = (omega (arith, is.delay_to, range.delays.most), is.box)
  searched (Fold delay period halvings trial phase sum) is = (
    omega (arith, is.delay_to, range.delays.most),
    is.rows.some,
    omega (arith, is.rows.within, range.folds.most_rows),
  )

  all_searched : All IsSearched (candidates_of o s bytes)
  all_searched = λ k d small.
      let c = get_or (candidates_of o s bytes) k d in
      let there = Contains-get_or (candidates_of o s bytes) k d small in
      searched c ((listed (filterbank_of o bytes) (edges o) (plain_cells o.channels) s c).0 there)

  pub part_searched : (place until : ℕ) → All IsSearched (within_part place until (candidates_of o s bytes))
  part_searched place until =
      All-filter (ends_within place until) IsSearched (candidates_of o s bytes) all_searched

-- what the book keeps where all of the part is kept
pub kept_all : (o : Observation) (bytes : List ℕ) (w : Warm) → HasFound o bytes w →
    w.engine.book.count ≤ w.search.max_candidates →
    w.engine.book.kept ≡ within_part w.checkpoint.place w.until (candidates_of o w.search bytes)
kept_all o bytes w found few =
    let part = within_part w.checkpoint.place w.until (candidates_of o w.search bytes) in
    let count : w.engine.book.count ≡ length part = ap (λ (b : BookContents). b.count) found.book in
    ap (λ (b : BookContents). b.kept) found.book
    ∙ take_all w.search.max_candidates part (omega (arith, count, few))

pub kept_searched : CandidatesAreListed → (o : Observation) (w : Warm) → KeepsPart o w →
    All IsSearched w.engine.book.kept
kept_searched listed o w keeps =
    subst (All IsSearched) (sym (kept_all o keeps.bytes w keeps.found keeps.all))
    (part_searched listed o w.search keeps.bytes keeps.found.searches.range w.checkpoint.place w.until)

pub text_is : {T E : Type 0} (o : Observation) (bytes : List ℕ) (w : Warm) (spectra : ℕ) →
    spectra ≡ (filterbank_of o bytes).spectra → (old new : SinkSeen) (r : Result T E) →
    Wrote (part_text (labels_of o) spectra w.checkpoint.place w.until w.checkpoint.pulses
    (candidates_of o w.search bytes)) old new r →
    Wrote (text_of_part o w.search w.checkpoint w.until bytes) old new r
text_is o bytes w spectra is old new r wrote =
    subst (λ n. Wrote (part_text (labels_of o) n w.checkpoint.place w.until w.checkpoint.pulses
    (candidates_of o w.search bytes)) old new r) is wrote
