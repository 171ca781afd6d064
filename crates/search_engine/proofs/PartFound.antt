-- What is found in some channels, and in a part.
use Rattle.std.proofs.Common.{◌≡◌, ◌∙◌, ℕ, ◌+◌, ◌-◌, ◌*◌, ◌/◌, ◌≤◌, ◌<◌, Bool, cond, List, [], length, take, drop, slice_index, min, refl, sym, ap, subst, arith, length-drop}
use Rattle.dada_model.specs.Bounds.{ObservationInRange}
use Rattle.dada_model.specs.Observation.{Observation, edges}
use Rattle.candidate_book.specs.Book.{book_of}
use Rattle.search_model.specs.CandidateLaws.{CellsAgree}
use Rattle.search_model.specs.declared.search.Search.{Search}
use Rattle.search_model.specs.Candidates.{plain_cells, candidates, shard_part}
use Rattle.search_model.specs.Masks.{kept_cells, masked_candidates_of}
use Rattle.search_model.specs.Observed.{candidates_of, filterbank_of}
use Rattle.search_model.specs.Parts.{first_needed, within_part, without_first}
use Rattle.search_model.specs.SampleLaws.{SamplesOfBytes}
use Rattle.search_model.specs.Samples.{Filterbank, sample_bytes, samples_of}
use Rattle.search_engine.specs.Engine.{BeginsWith, EngineState, HasFoundIn}
use Rattle.search_engine.specs.Laws.{CountsKept}
use Rattle.search_engine.specs.Scope.{candidates_in, kept_by, kept_samples, scope_of_channels, scope_of_part, searched, spectrum_size}
use Rattle.search_engine.proofs.Data.{bits, data_begin, place_in_spectrum, sample_is_there}
use Rattle.search_engine.proofs.PartLists.{all_counted, cut_part}
use Rattle.search_engine.proofs.PartSamples.{part_samples, part_spectra, length_take}
use Rattle.search_engine.proofs.Sizes.{sample_some, size_some, spectra_are}
use Rattle.shard_search.specs.Laws.{ShardsAreListed}
use Rattle.shard_search.specs.Sought.{counted_of, sought_of}
use Rattle.fold_search.specs.Cells.{CellCounts}
use Rattle.fold_search.specs.Cells.CellCounts.{Plain}

-- ---- some channels

pub channel_samples : (o : Observation) (masked : List Bool) (counts bytes : List ℕ) →
    searched o (scope_of_channels masked counts) bytes ≡ kept_samples o masked bytes
channel_samples o masked counts bytes =
    ap (λ k. kept_samples o masked (drop k bytes)) (let none : 0 * spectrum_size o ≡ 0 = omega arith in none)

pub channels_found : CellsAgree → (o : Observation) (s : Search) (masked : List Bool) (counts bytes : List ℕ) →
    CountsKept o s masked counts →
    candidates_in o (scope_of_channels masked counts) s bytes ≡ masked_candidates_of o s (kept_by masked) bytes
channels_found agree o s masked counts bytes same =
    ap (λ (f : Filterbank). sought_of (counted_of counts) (candidates f (edges o) (λ d. slice_index counts d) s))
    (channel_samples o masked counts bytes)
    ∙ all_counted counts (candidates (kept_samples o masked bytes) (edges o) (λ d. slice_index counts d) s)
    ∙ agree (kept_samples o masked bytes) (edges o) (λ d. slice_index counts d)
    (kept_cells (kept_by masked) (edges o) o.channels) s same

-- ---- a part

-- the samples of the bytes of a part are those of the observation
pub part_values : SamplesOfBytes → (o : Observation) (bytes : List ℕ) (a until : ℕ) → ObservationInRange o →
    (c t : ℕ) → c < o.channels →
    t < (filterbank_of o (drop (a * spectrum_size o) (take (until * spectrum_size o) bytes))).spectra →
    (filterbank_of o bytes).value c (a + t)
    ≡ (filterbank_of o (drop (a * spectrum_size o) (take (until * spectrum_size o) bytes))).value c t
part_values law o bytes a until bounds c t channel early =
    let n = o.channels in
    let g : ℕ = sample_bytes o.nbit o.npol in
    let z = spectrum_size o in
    let ys : List ℕ = take (until * z) bytes in
    let at : ℕ = cond o.is_falling c (n - 1 - c) in
    let some = bounds.few_polarisations in
    let positive = sample_some o bounds in
    let turned : a * z ≡ a * n * g = omega arith in
    let within = sample_is_there n (length (samples_of o.nbit o.npol (drop (a * z) ys)))
    (filterbank_of o (drop (a * z) ys)).spectra at t
    (let l : (filterbank_of o (drop (a * z) ys)).spectra ≤ (filterbank_of o (drop (a * z) ys)).spectra = omega arith
    in l) (place_in_spectrum o.is_falling c n channel) early in
    let P : ℕ → Type 0 = λ k. t * n + at < length (samples_of o.nbit o.npol (drop k ys)) in
    let sum : a * n + (t * n + at) ≡ (a + t) * n + at = omega arith in
    sym (ap (λ k. slice_index (samples_of o.nbit o.npol (drop k ys)) (t * n + at)) turned
    ∙ part_samples law o.nbit o.npol bytes (a * n) (until * z) (t * n + at) (bits o bounds)
    (omega (arith, some)) (omega (arith, positive)) (subst P turned within)
    ∙ ap (λ i. slice_index (samples_of o.nbit o.npol bytes) i) sum)

module _ (law : SamplesOfBytes) (o : Observation) (bytes : List ℕ) (e : EngineState) (first place until : ℕ)
    (found : HasFoundIn o (scope_of_part o.channels first place until) bytes e) where
  -- the spectra of the observation up to the part's end
  abbrev pub cut : Filterbank
  cut = record (filterbank_of o bytes) { spectra = min (filterbank_of o bytes).spectra until }

  -- those that are searched
  abbrev pub needed : Filterbank
  needed = without_first first cut

  abbrev own : Filterbank
  own = searched o (scope_of_part o.channels first place until) bytes

  pub long : needed.spectra ≡ e.sums.carry.fed
  long =
      let z = spectrum_size o in
      let xs : List ℕ = drop (first * z) (take (until * z) bytes) in
      let some = size_some o found.bounds in
      let size : length xs ≡ min (until * z) (length bytes) - first * z =
      length-drop (first * z) (take (until * z) bytes) ∙ ap (λ n. n - first * z) (length_take (until * z) bytes) in
      ap (λ n. min n until - first) (spectra_are o bytes)
      ∙ sym (part_spectra z (length bytes) first until (omega (arith, some)))
      ∙ ap (λ n. n / z) (sym size) ∙ sym (spectra_are o xs) ∙ sym found.spectra

  same : (c t : ℕ) → c < o.channels → t < e.sums.carry.fed → needed.value c t ≡ own.value c t
  same c t channel early =
      let whole = found.spectra in
      part_values law o bytes first until found.bounds c t channel (omega (arith, early, whole))

  pub begins : BeginsWith o own e.sums.carry.fed needed
  begins = record {
    channels = refl;
    small = λ c t. (data_begin law o [] bytes 0 found.bounds found.numbers).small c (first + t);
    same = same;
  }

pub part_found : SamplesOfBytes → (o : Observation) (bytes : List ℕ) (e : EngineState) (place until : ℕ) →
    HasFoundIn o (scope_of_part o.channels (first_needed e.search place) place until) bytes e → ShardsAreListed →
    e.search.fold_max < e.search.fold_min →
    e.book ≡ book_of e.search.max_candidates (shard_part e.search e.shard
    (within_part place until (candidates_of o e.search bytes)))
part_found law o bytes e place until found listed off =
    let first = first_needed e.search place in
    let counts : CellCounts = Plain o.channels in
    let all = listed.needed (cut law o bytes e first place until found) (edges o) counts e.search place until off
    ∙ cut_part (filterbank_of o bytes) (edges o) (plain_cells o.channels) e.search place until off in
    found.alike (needed law o bytes e first place until found) (begins law o bytes e first place until found)
    (long law o bytes e first place until found)
    ∙ ap (λ xs. book_of e.search.max_candidates (shard_part e.search e.shard xs)) all
