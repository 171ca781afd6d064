-- How far an engine has searched, and what its book has.
use Rattle.std.proofs.Common.{◌≡◌, ℕ, ◌+◌, ◌-◌, ◌*◌, ◌/◌, ◌%◌, ◌≤◌, ◌<◌, ◌++◌, Bool, true, false, List, [], ◌∷◌, length, refl, sym, ◌∙◌, ap, subst, arith}
use Rattle.std.specs.Prelude.{All, Some, filter}
use Rattle.dada_model.specs.Observation.{Observation, edges}
use Rattle.search_model.specs.declared.search.Search.{Search}
use Rattle.search_model.specs.CandidateLaws.{OneShardIsAll}
use Rattle.search_model.specs.Candidates.{plain_cells, shard_part}
use Rattle.search_model.specs.Observed.{candidates_of, filterbank_of}
use Rattle.search_model.specs.Parts.{ends_within, first_needed, within_part}
use Rattle.candidate_book.specs.Book.{book_of}
use Rattle.search_engine.specs.Engine.{EngineState, HoldsNoFullChunk, StandsForPart, chunk_of, searched_to}
use Rattle.search_engine.specs.Scope.{Scope, scope_of_part, spectrum_size}
use Rattle.warm_restart.specs.Counts.{greatest_count}
use Rattle.live_search.specs.LiveText.{next_end}
use Rattle.live_search.specs.Live.{AreSteps, IsTask, SearchesFrom, Task, settings_of}
use Rattle.live_search.specs.Used.{UsedLaws}
use Rattle.live_search.proofs.Sizes.{size_some, spectra_within}

-- ---- numbers

-- ends of parts are numbers of steps
pub end_steps : (every place : ℕ) → AreSteps every → AreSteps (next_end every place)
end_steps every place even = record {
  steps = (place / every + 1) * even.steps;
  count = ap (λ n. (place / every + 1) * n) even.count
      ∙ (let same : (place / every + 1) * (even.steps * 512) ≡ (place / every + 1) * even.steps * 512 = omega arith in
      same);
}

-- where a part ends with the spectra that came, all of them were searched
all_steps : (i j : ℕ) → (i * 512 - j * 512) % 512 ≡ 0
all_steps i j =
    let same : i * 512 - j * 512 ≡ (i - j) * 512 = omega arith in
    ap (λ n. n % 512) same ∙ (let none : (i - j) * 512 % 512 ≡ 0 = omega arith in none)

reached : (spectra first until fed : ℕ) → AreSteps until → AreSteps first → first ≤ until →
    fed ≡ (spectra - first) - (spectra - first) % 512 → spectra ≡ until → first + fed ≡ until
reached spectra first until fed ends begins before is here =
    let i = ends.steps in
    let j = begins.steps in
    let same : spectra - first ≡ i * 512 - j * 512 = omega (arith, here, ends.count, begins.count) in
    let rest : (spectra - first) % 512 ≡ 0 = ap (λ n. n % 512) same ∙ all_steps i j in
    omega (arith, is, rest, here, before)

not_reached : (spectra first until fed : ℕ) → first < until → fed ≡ (spectra - first) - (spectra - first) % 512 →
    spectra < until → first + fed < until
not_reached spectra first until fed before is early = omega (arith, before, is, early)

-- ---- two tests, in either order

tests_at : {X : Type 0} (p q : X → Bool) (x : X) (xs : List X) →
    filter p (filter q xs) ≡ filter q (filter p xs) → (b c : Bool) → p x ≡ b → q x ≡ c →
    filter p (filter q (x ∷ xs)) ≡ filter q (filter p (x ∷ xs))
tests_at p q x xs more true true at_p at_q = rw (at_q, at_p, at_q, more) refl
tests_at p q x xs more true false at_p at_q = rw (at_q, at_p, at_q, more) refl
tests_at p q x xs more false true at_p at_q = rw (at_q, at_p, more) refl
tests_at p q x xs more false false at_p at_q = rw (at_q, at_p, more) refl

tests_commute : {X : Type 0} (p q : X → Bool) (xs : List X) →
    filter p (filter q xs) ≡ filter q (filter p xs)
tests_commute p q [] = refl
tests_commute p q (x ∷ xs) =
    tests_at p q x xs (tests_commute p q xs) (p x) (q x) refl refl

-- one shard has all of a part
pub one_part : OneShardIsAll → (o : Observation) (s : Search) (place until : ℕ) (xs : List ℕ) →
    shard_part (settings_of s) 0 (within_part place until (candidates_of o (settings_of s) xs))
    ≡ within_part place until (candidates_of o s xs)
one_part one o s place until xs =
    tests_commute _ (ends_within place until) (candidates_of o (settings_of s) xs)
    ∙ ap (within_part place until) (one (filterbank_of o xs) (edges o) (plain_cells o.channels) (settings_of s) refl)

-- ---- an engine

module _ (laws : UsedLaws) {o : Observation} {t : Task} {place : ℕ} {bytes : List ℕ} {e : EngineState} (task : IsTask t)
    (s : SearchesFrom o t place e) (stands : StandsForPart o bytes e) where
  first_is : e.sums.pulses.sought.first ≡ s.first
  first_is = ap (λ (c : Scope). c.sought.first) s.scope

  limit_is : e.sums.pulses.sought.until ≡ Some greatest_count
  limit_is = ap (λ (c : Scope). c.sought.until) s.scope

  pub few_bytes : length bytes ≤ greatest_count * spectrum_size o
  few_bytes =
      let some = size_some o stands.chunks.holds.searches.bounds in
      let most = stands.chunks.holds.most in
      let count = stands.count in
      omega (arith, some, most, count)

  pub few_spectra : (filterbank_of o bytes).spectra ≤ greatest_count
  few_spectra = spectra_within o bytes greatest_count stands.chunks.holds.searches.bounds few_bytes

  fed_is : HoldsNoFullChunk e → e.sums.carry.fed
      ≡ ((filterbank_of o bytes).spectra - s.first) - ((filterbank_of o bytes).spectra - s.first) % 512
  fed_is full =
      let chunk : chunk_of e.search ≡ 512 = ap chunk_of s.search in
      let n = (filterbank_of o bytes).spectra in
      laws.found.chunks o bytes e greatest_count limit_is few_bytes stands full
      ∙ ap (λ a. (n - a) - (n - a) % chunk_of e.search) first_is
      ∙ ap (λ c. (n - s.first) - (n - s.first) % c) chunk

  to_is : searched_to e ≡ s.first + e.sums.carry.fed
  to_is = ap (λ a. a + e.sums.carry.fed) first_is

  -- the engine begins before any place that is no earlier than the task's
  first_early : s.first ≤ t.from.place
  first_early =
      let early = s.begins.early in
      let is = s.begins.is in
      omega (arith, early, is)

  pub reaches : HoldsNoFullChunk e → (until : ℕ) → AreSteps until → t.from.place ≤ until →
      (filterbank_of o bytes).spectra ≡ until → searched_to e ≡ until
  reaches full until even later here =
      let early = first_early in
      to_is ∙ reached (filterbank_of o bytes).spectra s.first until e.sums.carry.fed even s.begins.even
      (omega (arith, early, later)) (fed_is full) here

  pub stays_before : HoldsNoFullChunk e → (until : ℕ) → t.from.place < until →
      (filterbank_of o bytes).spectra < until → searched_to e < until
  stays_before full until later early =
      let first = first_early in
      let to = to_is in
      let less = not_reached (filterbank_of o bytes).spectra s.first until e.sums.carry.fed (omega (arith, first, later))
      (fed_is full) early in
      omega (arith, to, less)

  pub book_is : searched_to e ≤ greatest_count → (more : List ℕ) → All (λ byte. byte < 256) more →
      t.from.place ≤ place →
      e.book ≡ book_of t.search.max_candidates
      (within_part place (searched_to e) (candidates_of o t.search (bytes ++ more)))
  book_is few more numbers later =
      let off = task.unfolded in
      let early = s.begins.early in
      let Off : Search → Type 0 = λ x. x.fold_max < x.fold_min in
      let first : s.first ≡ first_needed e.search s.begins.needed =
      s.begins.is ∙ ap (λ (x : Search). first_needed x s.begins.needed) (sym s.search) in
      laws.found.book o bytes more e s.begins.needed place greatest_count (subst Off (sym s.search) off)
      (omega (arith, early, later)) few
      (s.scope ∙ ap (λ n. scope_of_part o.channels n place greatest_count) first) numbers stands
      ∙ ap (λ (x : Search). book_of x.max_candidates (shard_part x e.shard
      (within_part place (searched_to e) (candidates_of o x (bytes ++ more))))) s.search
      ∙ ap (λ k. book_of t.search.max_candidates (shard_part (settings_of t.search) k
      (within_part place (searched_to e) (candidates_of o (settings_of t.search) (bytes ++ more))))) s.shard
      ∙ ap (book_of t.search.max_candidates) (one_part laws.one o t.search place (searched_to e) (bytes ++ more))
